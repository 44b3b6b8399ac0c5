-- What a sheet's jobs print once its load is accepted:
-- the graph is sound and the areas are long enough, so WCC and LCC are never refused, BFS only where its
-- root isn't there, CDLP only for its iterations; else each vertex has its line. Assumes nothing.
use Prim.Native.Nat.{ℕ, zero, suc, ◌≤◌}
use mathlib.Core.Path.{◌≡◌, refl, sym, ap, ◌∙◌}
use mathlib.Core.Bool.{true, false, ◌&&◌}
use mathlib.Core.List.{List, [], ◌∷◌, ◌++◌}
use native.Mathlib.Omega.{arith}
use borrow.Author.Tests.{le-leb, leb-true}
use lib.Dec.{leb}
use lib.IntN.{ℤ, nat_abs}
use lib.ListN.{length}
use lib.Seq.{length-take-le, take_at, take-take}
use Rattle.basis.specs.Refusal.{gives, plain, not_there, bad_rounds}
use Rattle.basis.specs.Order.{rising_z}
use Rattle.basis.specs.Limits.{most_vertices, most_arcs, desk_vertices}
use Rattle.basis.proofs.Areas.{column-length}
use Rattle.basis.proofs.Tests.{and_first, and_second, and_both}
use Rattle.graph.specs.Sound.{Graph, outward, names, sound_ids, sound_sides, sound_graph, lent}
use Rattle.graph.specs.Find.{place_in}
use Rattle.std.proofs.Common.{Some, None}
use Rattle.kernels.specs.Answer.{kernel_says}
use Rattle.bfs.specs.Depth.{depths}
use Rattle.bfs.specs.Call as B
use Rattle.wcc.specs.Component.{wcc_of}
use Rattle.wcc.specs.Call as W
use Rattle.cdlp.specs.Rounds.{one_round, rounds, cdlp_of}
use Rattle.cdlp.specs.Call as C
use Rattle.lcc.specs.Lcc.{numerators, denominators}
use Rattle.lcc.specs.Call as L
use Rattle.load.specs.Good.{graph_left}
use Rattle.load.specs.Load.{Lists, size_of, outcome_of, loaded, load_call, desk, desk_room}
use Rattle.load.proofs.Meaning.{load-answer, load-sound}
use Rattle.plan.specs.declared.sections.Plan.{Plan}
use Rattle.listing.specs.Listing.{refused_text, head_text, pair_text, ratio_text, pair_lines, ratio_lines}
use Rattle.sheet.specs.Jobs.{bfs_text, wcc_text, cdlp_text, lcc_text, jobs_text}
use Rattle.sheet.specs.Desk.{mode_number, lines_in, load_of, graph_in, load_text, plan_text}

-- ---- the zeros behind a list's end are not printed
pairs-pad : (ids vs z : List ℤ) → length vs ≡ length ids → pair_lines ids (vs ++ z) ≡ pair_lines ids vs
unfolding pair_lines
pairs-pad [] vs z e = refl
pairs-pad (id ∷ ids) [] z e = absurd (omega arith)
pairs-pad (id ∷ ids) (v ∷ vs) z e = ap (λ l. pair_text id v ++ l) (pairs-pad ids vs z (omega arith))

ratios-pad : (ids : List ℤ) (ns ds y z : List ℕ) → length ns ≡ length ids → length ds ≡ length ids
    → ratio_lines ids (ns ++ y) (ds ++ z) ≡ ratio_lines ids ns ds
unfolding ratio_lines
ratios-pad [] ns ds y z e f = refl
ratios-pad (id ∷ ids) [] ds y z e f = absurd (omega arith)
ratios-pad (id ∷ ids) (n ∷ ns) [] y z e f = absurd (omega arith)
ratios-pad (id ∷ ids) (n ∷ ns) (d ∷ ds) y z e f = ap (λ l. ratio_text id n d ++ l) (ratios-pad ids ns ds y z (omega arith) (omega arith))

-- ---- a sound graph of at most 1,024 vertices, with the identifiers of just these
module _ (g : Graph) (sound : sound_graph g ≡ true) (count : length g.ids ≡ g.vertices) (few : g.vertices ≤ desk_vertices)
    (line : List ℕ) where
  roomy : leb g.vertices desk_vertices ≡ true
  roomy = le-leb g.vertices desk_vertices few

  pub wcc-runs : wcc_text g line ≡ head_text line g.vertices ++ pair_lines g.ids (wcc_of g)
  unfolding wcc_text W.wcc_call W.left_by W.room_for kernel_says
  wcc-runs =
      rw (sound, roomy) (ap (λ l. head_text line g.vertices ++ l)
      (pairs-pad g.ids (wcc_of g) _ (column-length _ 0 g.vertices ∙ sym count)))

  pub lcc-runs : lcc_text g line ≡ head_text line g.vertices ++ ratio_lines g.ids (numerators g) (denominators g)
  unfolding lcc_text L.lcc_call L.left_by L.room_for kernel_says
  lcc-runs =
      rw (sound, roomy)
      (ap (λ l. head_text line g.vertices ++ l)
      (ratios-pad g.ids (numerators g) (denominators g) _ _ (column-length _ 0 g.vertices ∙ sym count)
      (column-length _ 0 g.vertices ∙ sym count)))

  pub bfs-runs : (root : ℤ) (v : ℕ) → place_in (names g) root ≡ Some v
      → bfs_text g root line ≡ head_text line g.vertices ++ pair_lines g.ids (depths g.vertices (outward g) v)
  unfolding bfs_text B.bfs_call B.left_by B.room_for kernel_says
  bfs-runs root v e =
      rw (e, sound, roomy)
      (ap (λ l. head_text line g.vertices ++ l) (pairs-pad g.ids (depths g.vertices (outward g) v) _
      (column-length _ 0 g.vertices ∙ sym count)))

  pub bfs-stops : (root : ℤ) → place_in (names g) root ≡ None → bfs_text g root line ≡ refused_text (plain not_there)
  unfolding bfs_text B.bfs_call B.left_by kernel_says
  bfs-stops root e = rw (e, sound)

  rounds-long : (k : ℕ) → length (cdlp_of g k) ≡ g.vertices
  unfolding cdlp_of rounds one_round
  rounds-long zero = length-take-le g.vertices g.ids (omega arith)
  rounds-long (suc k) = column-length _ 0 g.vertices

  pub cdlp-runs : (k : ℤ) → C.good_rounds k ≡ true → cdlp_text g k line ≡ head_text line g.vertices
      ++ pair_lines g.ids (cdlp_of g (nat_abs k))
  unfolding cdlp_text C.cdlp_call C.left_by C.room_for kernel_says
  cdlp-runs k e =
      rw (sound, e, roomy) (ap (λ l. head_text line g.vertices ++ l)
      (pairs-pad g.ids (cdlp_of g (nat_abs k)) _ (rounds-long (nat_abs k) ∙ sym count)))

  pub cdlp-stops : (k : ℤ) → C.good_rounds k ≡ false → cdlp_text g k line ≡ refused_text (plain bad_rounds)
  unfolding cdlp_text C.cdlp_call C.left_by kernel_says
  cdlp-stops k e = rw (sound, e)

-- ---- the graph that an accepted load leaves is such a graph
cut-ids : (g : Graph) → sound_ids g ≡ true
    → sound_ids (lent (record { vertices = g.vertices; arcs = g.arcs }) (names g) g.out_offsets g.out_targets g.in_offsets
    g.in_sources) ≡ true
unfolding sound_ids
cut-ids g h =
    let n = g.vertices in
    let l : n ≤ length g.ids = leb-true n (length g.ids) (and_first (leb n (length g.ids)) (rising_z (names g)) h) in
    and_both (le-leb n (length (names g)) (omega (arith, length-take-le n g.ids l)))
    (ap rising_z (take-take n n g.ids (omega arith)) ∙ and_second (leb n (length g.ids)) (rising_z (names g)) h)

sound-ids : (g : Graph) → sound_graph g ≡ true → sound_ids g ≡ true
unfolding sound_sides sound_graph
sound-ids g h = and_second (leb g.vertices most_vertices && leb g.arcs most_arcs) (sound_ids g) (and_first _ _ (and_first _ _ h))

cut-sound : (g : Graph) → sound_graph g ≡ true
    → sound_graph (lent (record { vertices = g.vertices; arcs = g.arcs }) (names g) g.out_offsets g.out_targets g.in_offsets
    g.in_sources) ≡ true
unfolding sound_sides sound_graph
cut-sound g h = rw (cut-ids g (sound-ids g h)) (rw (sound-ids g h) at h)

module _ (s : List ℕ) (p : Plan) (l : Lists)
    (h : loaded desk (mode_number p.directed) desk_room (lines_in p.vertices s) (lines_in p.edges s) ≡ gives l) where
  abbrev pub desk_graph : Graph
  desk_graph =
      let o = load_of s p desk_room in graph_in (size_of l) o.ids o.out_offsets o.out_targets o.in_offsets o.in_sources

  -- the sheet prints what its jobs print on this graph
  pub load-prints : plan_text s p ≡ jobs_text desk_graph s p.jobs.count p.jobs.from
  unfolding plan_text
  load-prints =
      ap (load_text s p (load_of s p desk_room)) (load-answer desk (mode_number p.directed) desk_room (lines_in p.vertices s)
      (lines_in p.edges s) l h)

  pub desk-sound : sound_graph desk_graph ≡ true
  desk-sound =
      cut-sound (graph_left (size_of l) (load_of s p desk_room))
      (load-sound desk (mode_number p.directed) desk_room (lines_in p.vertices s) (lines_in p.edges s) l h)

  pub desk-names : desk_graph.ids ≡ l.ids
  unfolding load_call outcome_of
  desk-names = rw h (take_at l.ids _ (length l.ids) refl)
