-- The host call: load, kernel and verdict on local areas give just what the definition says without them. Assumes nothing.
use mathlib.Core.Path.{◌≡◌, refl, sym, ap, ◌∙◌}
use mathlib.Core.Bool.{Bool, true, false}
use mathlib.Core.List.{List}
use Prim.Native.Nat.{ℕ, ◌+◌}
use native.Mathlib.Omega.{arith}
use lib.IntN.{ℤ, pos, nat_abs}
use lib.ListN.{length, replicate, length-replicate}
use lib.Dec.{leb}
use borrow.Author.Tests.{le-leb, lt-ltb}
use Rattle.basis.proofs.Saids.{refused-given, given-one, mapped-refuses}
use Rattle.basis.specs.Limits.{desk_vertices, desk_edges}
use Rattle.basis.specs.Refusal.{Said, gives, refuses, plain, unknown_number, onward, mapped, said}
use Rattle.graph.specs.Arcs.{Arc, arcs}
use Rattle.std.specs.Prelude.{Option, Some, None, Result, Ok, Err}
use Rattle.graph.specs.Find.{place_in}
use Rattle.graph.specs.Sound.{outward, inward, names, lent}
use Rattle.graph.specs.Sound as Sound
use Rattle.graph.specs.declared.Size.{Size}
use Rattle.lists.specs.Files.{identifiers, edges_of, all_numbered}
use Rattle.lists.proofs.Accepts.{vertices-accepted, edges-accepted}
use Rattle.load.specs.Load.{Lists, arc_room, vertex_room, with_room, arcs_read, lists_read, loaded}
use Rattle.load.specs.Load.{is_undirected, size_of, outcome, outcome_of, load_call, desk, desk_room}
use Rattle.load.specs.Good.{GoodLoad, graph_left}
use Rattle.load.proofs.Arranges.{arcs-few}
use Rattle.load.proofs.Accepts.{load-accepted}
use Rattle.load.proofs.Meaning.{load-sound}
use Rattle.bfs.specs.Call.{depths_from}
use Rattle.wcc.specs.Component.{wcc_of}
use Rattle.cdlp.specs.Rounds.{cdlp_of}
use Rattle.verdicts.specs.Reference.{coefficients, bfs_reference, wcc_reference, cdlp_reference, lcc_reference}
use Rattle.matching.specs.Verdict.{Fraction}
use Rattle.lcc.specs.Lcc.{numerator, denominator, numerators, denominators}
use Rattle.basis.specs.Area.{column}
use Rattle.trace.specs.Host.{desk_lines, lists_said, graph_of, is_kernel, is_known, reference_for, judged_as, host_says, host_verdict}
use Rattle.trace.specs.Steps.{desk_judged}
use Rattle.trace.proofs.Loads.{loaded-readable}
use Rattle.trace.proofs.Codes.{mapped-readable}
use Rattle.trace.proofs.Stored.{area_graph, same_names, same-outward, same-inward}
use Rattle.trace.proofs.Claims.{call-small, call-judged}
use Rattle.trace.specs.Code.{host_code, host_number_in, host_file_in, host_line_in, narrow, Small}
use Rattle.trace.specs.Verdict.{as_refusal}
use Rattle.verdicts.specs.Call as Call
use Rattle.basis.specs.declared.refusal.Refusal.{Refusal}
use Rattle.basis.proofs.Tests.{failed, held, and_first, and_second, and_both}

-- ---- the load: the desk's limits leave room in areas of desk size
-- an edge stores two arcs at most
abbrev desk_arcs : ℕ
desk_arcs = desk_edges + desk_edges

abbrev listed : List ℤ → List Arc → Lists
listed ids l = record { ids = ids; arcs = l }

module _ (mode : ℕ) (vertices edges : List ℕ) where
  pub loaded-desk : leb mode 1 ≡ true → loaded desk mode desk_room vertices edges ≡ lists_said (is_undirected mode) vertices edges
  unfolding loaded lists_read arcs_read lists_said
  loaded-desk m = rw m (go (identifiers desk_vertices vertices) refl)
    where
      by-edges : (ids : List ℤ) (x : Said (List (ℤ × ℤ))) → edges_of (is_undirected mode) desk_edges (place_in ids) edges ≡ x
          → mapped (listed ids)
          (onward x (λ es. with_room (arc_room desk_arcs desk_arcs (length (arcs (is_undirected mode) (all_numbered (place_in ids) es))))
          (arcs (is_undirected mode) (all_numbered (place_in ids) es))))
          ≡ mapped (λ es. listed ids (arcs (is_undirected mode) (all_numbered (place_in ids) es))) x
      by-edges ids (gives es) q =
          let few = ((edges-accepted (is_undirected mode) desk_edges ids edges es).0 q).few in
          let h = arcs-few (is_undirected mode) ids es in
          rw (le-leb (length (arcs (is_undirected mode) (all_numbered (place_in ids) es))) desk_arcs (omega arith))
      by-edges ids (refuses r) q = refl

      go : (x : Said (List ℤ)) → identifiers desk_vertices vertices ≡ x
          → onward x (λ ids. onward (with_room (vertex_room desk_vertices (desk_vertices + 1) (desk_vertices + 1) (length ids)) ids)
          (λ ids. mapped (listed ids) (arcs_read (is_undirected mode) desk_edges ids edges desk_arcs desk_arcs)))
          ≡ onward x (λ ids. mapped (λ es. listed ids (arcs (is_undirected mode) (all_numbered (place_in ids) es)))
          (edges_of (is_undirected mode) desk_edges (place_in ids) edges))
      go (gives ids) q =
          let few = ((vertices-accepted desk_vertices vertices ids).0 q).few in
          rw (le-leb (length ids) desk_vertices (omega arith), lt-ltb (length ids) (desk_vertices + 1) (omega arith))
          (by-edges ids (edges_of (is_undirected mode) desk_edges (place_in ids) edges) refl)
      go (refuses r) q = refl

-- ---- the reference output, by what a graph shows
module _ (most : ℕ) (g h : Sound.Graph) (s : List ℕ) (parameter : ℤ) (n : g.vertices ≡ h.vertices) (i : names g ≡ names h)
    (o : outward g ≡ outward h) (t : inward g ≡ inward h) where
  depths-same : (place : Option ℕ) → depths_from g place ≡ depths_from h place
  depths-same (Some root) = cc
  depths-same None = refl

  bfs-same : bfs_reference most g s parameter ≡ bfs_reference most h s parameter
  bfs-same = rw (i, depths-same (place_in (names h) parameter))

  wcc-same : wcc_reference most g s ≡ wcc_reference most h s
  wcc-same = let e : wcc_of g ≡ wcc_of h = cc in rw (e, i)

  rounds-same : (k : ℕ) → cdlp_of g k ≡ cdlp_of h k
  unfolding cdlp_of
  rounds-same k = rw (i, o, t, n)

  cdlp-same : cdlp_reference most g s parameter ≡ cdlp_reference most h s parameter
  cdlp-same = rw (rounds-same (nat_abs parameter), i)

  coefficients-same : coefficients g ≡ coefficients h
  coefficients-same =
      ap (λ (x : ℕ → List ℕ). shown g.vertices x (inward g)) o ∙ ap (λ (x : ℕ → List ℕ). shown g.vertices (outward h) x) t
      ∙ ap (λ (k : ℕ). shown k (outward h) (inward h)) n
    where
      shown : ℕ → (ℕ → List ℕ) → (ℕ → List ℕ) → List Fraction
      shown k out into = column (λ v. (numerator k out into v, denominator k out into v)) 0 k

  lcc-same : lcc_reference most g s ≡ lcc_reference most h s
  lcc-same =
      let a : numerators g ≡ numerators h = cc in
      let b : denominators g ≡ denominators h = cc in
      rw (a, b, coefficients-same, i)

  pub reference-same : (kernel : ℕ) → reference_for most g s kernel parameter ≡ reference_for most h s kernel parameter
  unfolding reference_for
  reference-same kernel = rw (bfs-same, wcc-same, cdlp-same, lcc-same)

-- ---- the verdict on a loaded graph, in areas of desk size
module _ (vertices edges claim : List ℕ) (mode kernel : ℕ) (parameter : ℤ) (known : is_known mode kernel ≡ true) where
  known-mode : leb mode 1 ≡ true
  unfolding is_known
  known-mode = and_first _ _ known

  known-kernel : is_kernel kernel ≡ true
  unfolding is_known
  known-kernel = and_second (leb mode 1) _ known

  -- "load, 10 or 11, claim"
  says-known : host_says vertices edges claim mode kernel parameter
      ≡ onward (loaded desk mode desk_room vertices edges) (λ l. judged_as (reference_for desk_lines (graph_of l) claim kernel parameter))
  unfolding host_says
  says-known = rw (known, loaded-desk mode vertices edges known-mode)

  module _ (g : Lists) (h : loaded desk mode desk_room vertices edges ≡ gives g) where
    ok : GoodLoad desk mode desk_room vertices edges g
    ok = (load-accepted desk mode desk_room vertices edges g).0 h

    abbrev stands : Sound.Graph
    stands = graph_left (size_of g) (load_call desk mode desk_room vertices edges)

    stands-so : stands ≡ area_graph desk_room g
    unfolding load_call outcome_of
    stands-so = rw h

    roomy : Call.room_for (length g.ids) (replicate desk_vertices (pos 0)) (replicate desk_vertices (pos 0))
        (replicate desk_vertices 0) (replicate desk_vertices 0) (replicate desk_vertices 0) (replicate desk_vertices 0)
        ≡ true
    unfolding Call.room_for
    roomy =
        let n = length g.ids in
        let z : leb n (length (replicate desk_vertices (pos 0)))
        ≡ true = rw (length-replicate desk_vertices (pos 0)) (le-leb n desk_vertices ok.good_vertices.few) in
        let o : leb n (length (replicate {A = ℕ} desk_vertices 0))
        ≡ true = rw (length-replicate {A = ℕ} desk_vertices 0) (le-leb n desk_vertices ok.good_vertices.few) in
        and_both z (and_both z (and_both o (and_both o (and_both o o))))

    judged-so : desk_judged stands kernel parameter claim ≡ judged_as (reference_for desk_lines (graph_of g) claim kernel parameter)
    unfolding desk_judged graph_of
    judged-so =
        call-judged desk_lines stands kernel parameter claim _ _ _ _ _ _ known-kernel (load-sound desk mode desk_room vertices edges g h)
        roomy
        ∙ ap judged_as (ap (λ x. reference_for desk_lines x claim kernel parameter) stands-so
        ∙ reference-same desk_lines (area_graph desk_room g) (graph_of g) claim parameter refl
        (same_names desk mode desk_room vertices edges g ok) (same-outward desk mode desk_room vertices edges g ok)
        (same-inward desk mode desk_room vertices edges g ok) kernel)

    host-given : host_says vertices edges claim mode kernel parameter ≡ desk_judged stands kernel parameter claim
    host-given =
        says-known ∙ ap (λ x. onward x (λ l. judged_as (reference_for desk_lines (graph_of l) claim kernel parameter))) h ∙ sym judged-so

-- ---- each return of the call
module _ (vertices edges claim : List ℕ) (mode kernel : ℕ) (parameter : ℤ) (t : Bool) (p : t ≡ is_known mode kernel) where
  pub host-unknown : t ≡ false → (r : Refusal) → r ≡ plain unknown_number → (k : ℕ) → k ≡ host_code r
      → k ≡ host_verdict vertices edges claim mode kernel parameter
  unfolding host_verdict host_says
  host-unknown h r e k f = rw (f, e, failed t (is_known mode kernel) p h)

  module _ (h : t ≡ true) (a : Result Size Refusal) (ids : List ℤ) (oo ot io is : List ℕ)
      (e : outcome (said a) ids oo ot io is ≡ load_call desk mode desk_room vertices edges) where
    answered : said a ≡ mapped size_of (loaded desk mode desk_room vertices edges)
    unfolding load_call outcome_of
    answered = ap (λ o. o.answer) e

    pub host-refused-small : (r : Refusal) → a ≡ Err r → Small narrow r
    host-refused-small r q =
        ((mapped-readable size_of (loaded desk mode desk_room vertices edges) (omega arith)
        (loaded-readable narrow desk (omega arith) mode desk_room vertices edges)).refusals r
        (sym answered ∙ ap said q)).1

    pub host-refused : (r : Refusal) → a ≡ Err r → (k : ℕ) → k ≡ host_code r → k
        ≡ host_verdict vertices edges claim mode kernel parameter
    unfolding host_verdict
    host-refused r q k f =
        rw (
          f,
          says-known vertices edges claim mode kernel parameter (held t (is_known mode kernel) p h),
          mapped-refuses size_of (loaded desk mode desk_room vertices edges) r (ap said (sym q) ∙ answered),
        )

    pub host-judged : (size : Size) → a ≡ Ok size → (z : ℤ) → z ≡ parameter → (k : ℕ)
        → k ≡ host_code (as_refusal (desk_judged (lent size ids oo ot io is) kernel z claim))
        → k ≡ host_verdict vertices edges claim mode kernel parameter
    unfolding host_verdict
    host-judged size q z w k f = go (loaded desk mode desk_room vertices edges) refl (sym answered ∙ ap said q)
      where
        go : (x : Said Lists) → loaded desk mode desk_room vertices edges ≡ x → mapped size_of x ≡ gives size
            → k ≡ host_code (as_refusal (host_says vertices edges claim mode kernel parameter))
        go (refuses r) l e = refused-given e
        go (gives g) l s =
            let size_is : size_of g ≡ size = given-one s in
            let left : Sound.Graph = graph_left (size_of g) (load_call desk mode desk_room vertices edges) in
            let graph : lent size ids oo ot io is ≡ left =
            ap (graph_left size) e ∙ ap (λ x. graph_left x (load_call desk mode desk_room vertices edges)) (sym size_is) in
            f ∙ ap (λ x. host_code (as_refusal x))
            (ap (λ x. desk_judged x kernel z claim) graph ∙ ap (λ x. desk_judged left kernel x claim) w
            ∙ sym (host-given vertices edges claim mode kernel parameter (held t (is_known mode kernel) p h) g l))

-- ---- the three numbers can be taken out of the answer again
module _ (vertices edges claim : List ℕ) (mode kernel : ℕ) (parameter : ℤ) where
  pub host-small : Small narrow (as_refusal (host_says vertices edges claim mode kernel parameter))
  unfolding host_says desk_judged
  host-small = by_number (is_known mode kernel) refl
    where
      by-load : (known : is_known mode kernel ≡ true) (x : Said Lists) → loaded desk mode desk_room vertices edges ≡ x
          → Small narrow (as_refusal (host_says vertices edges claim mode kernel parameter))
      by-load known (gives g) e =
          rw (host-given vertices edges claim mode kernel parameter known g e)
          (call-small desk_lines (graph_left (size_of g) (load_call desk mode desk_room vertices edges)) kernel parameter claim _ _ _ _ _ _
          narrow
          (omega arith) (omega arith))
      by-load known (refuses r) e =
          rw (says-known vertices edges claim mode kernel parameter known, e)
          ((loaded-readable narrow desk (omega arith) mode desk_room vertices edges).refusals r e).1

      by_number : (t : Bool) → is_known mode kernel ≡ t → Small narrow (as_refusal (host_says vertices edges claim mode kernel parameter))
      by_number true h = by-load h (loaded desk mode desk_room vertices edges) refl
      by_number false h = rw h (record { number = omega arith; file = omega arith; line = omega arith })

  pub host-number : host_number_in (host_verdict vertices edges claim mode kernel parameter)
      ≡ (as_refusal (host_says vertices edges claim mode kernel parameter)).number
  unfolding host_verdict
  host-number = let s = host-small in omega arith

  pub host-file : host_file_in (host_verdict vertices edges claim mode kernel parameter)
      ≡ (as_refusal (host_says vertices edges claim mode kernel parameter)).file
  unfolding host_verdict
  host-file = let s = host-small in omega arith

  pub host-line : host_line_in (host_verdict vertices edges claim mode kernel parameter)
      ≡ (as_refusal (host_says vertices edges claim mode kernel parameter)).line
  unfolding host_verdict
  host-line = let s = host-small in omega arith
