-- What a load means: it is refused by the first check that fails, a file at its first fault;
-- the graph that it stores is sound, and its parts are the arcs
-- of the edge file.
-- Assumes nothing.
use Prim.Native.Nat.{ℕ, ◌-◌, ◌≤◌, ◌<◌}
use mathlib.Core.Path.{◌≡◌, refl, sym, ap, subst, ◌∙◌}
use mathlib.Core.Logic.{◌↔◌, ◌⊎◌, inl, inr}
use mathlib.Core.Bool.{Bool, true, false, ◌&&◌, ◌||◌}
use mathlib.Core.List.{List, [], ◌∷◌}
use native.Mathlib.Omega.{arith}
use borrow.Author.Tests.{le-leb, lt-leb, leb-true, leb-false}
use lib.ListN.{length, get_or, replicate}
use lib.Seq.{take_at}
use lib.Dec.{eqb, leb}
use lib.IntN.{ℤ, pos}
use Rattle.basis.specs.Refusal.{Said, gives, refuses, plain, no_room, unknown_number, onward, mapped, check}
use Rattle.basis.specs.declared.refusal.Refusal.{Refusal}
use Rattle.basis.specs.Area.{pad_z}
use Rattle.basis.specs.Limits.{most_vertices, most_edges}
use Rattle.basis.specs.Order.{same_z, rising_z}
use Rattle.basis.specs.Scan.{each, mem}
use Rattle.basis.proofs.Tests.{and_first, and_second, and_both, eqb_swap, and-swap}
use Rattle.basis.proofs.Saids.{refused-given, onward-refused, mapped-refuses}
use Rattle.basis.proofs.Areas.{pad-length}
use Rattle.basis.proofs.Orders.{signed-order, same-places}
use Rattle.graph.specs.Arcs.{Arc, arcs}
use Rattle.graph.specs.Find.{place_in, is_there}
use Rattle.graph.specs.Sound.{Graph, outward, inward, sound_ids, sound_graph, Undirected}
use Rattle.store.proofs.Order.{Valid}
use Rattle.store.proofs.Meaning.{has_arc, stored_graph, stored-sound, stored-outward, stored-inward}
use Rattle.lists.proofs.Accepts.{vertices-accepted, edges-accepted, vertices-refused, edges-refused}
use Rattle.lists.proofs.Lookups.{there}
use Rattle.lists.specs.Good.{GoodVertices, GoodEdges, has_edge, lists_arc}
use Rattle.load.specs.declared.Limits.{Limits}
use Rattle.lists.specs.Files.{identifiers, vertex_number, edges_of, numbered, all_numbered}
use Rattle.load.specs.Load.{Lists, Room, is_undirected, places_for, arc_room, with_room, listed_arcs, arcs_read}
use Rattle.load.specs.Load.{lists_read, size_of, loaded, Outcome, outcome_of, load_call, capped}
use Rattle.load.specs.Good.{GoodLoad, RefusedLoad, unknown_mode}
use Rattle.load.specs.Good.{vertex_fault, no_places, edge_fault, no_arcs, graph_left}
use Rattle.load.proofs.Valids.{valid-file}
use Rattle.load.proofs.Accepts.{load-accepted}
use Rattle.load.proofs.Arranges.{arcs-few}

-- ---- a refused load
room-refused : {A : Type 0} (t : Bool) (x : A) (r : Refusal) → with_room t x ≡ refuses r → (t ≡ false) × (r ≡ plain no_room)
room-refused true x r e = refused-given (sym e)
room-refused false x r e = (refl, (cc))

module _ (limits : Limits) (mode : ℕ) (room : Room) (vertices edges : List ℕ) (r : Refusal) where
  abbrev Why : Type 0
  Why = RefusedLoad limits mode room vertices edges r

  abbrev has_arcs : List ℤ → List (ℤ × ℤ) → Bool
  has_arcs ids list = arc_room room.out_targets room.in_sources (length (listed_arcs (is_undirected mode) ids list))

  abbrev edges_said : List ℤ → Said (List (ℤ × ℤ))
  edges_said ids = edges_of (is_undirected mode) limits.edges (place_in ids) edges

  abbrev arcs_said : List ℤ → Said (List Arc)
  arcs_said ids = arcs_read (is_undirected mode) limits.edges ids edges room.out_targets room.in_sources

  abbrev lists_said : List ℤ → Said Lists
  lists_said ids = mapped (λ l. record { ids = ids; arcs = l }) (arcs_said ids)

  module _ (m : mode ≤ 1) (ids : List ℤ) (v : GoodVertices limits.vertices vertices ids) where
    from-edges : places_for room ids ≡ true → arcs_said ids ≡ refuses r → Why
    unfolding arcs_read
    from-edges p e = by (onward-refused (edges_said ids) _ r e)
      where
        by : (edges_said ids ≡ refuses r) ⊎ ((list : List (ℤ × ℤ)) × (edges_said ids ≡ gives list)
            × (with_room (has_arcs ids list) (listed_arcs (is_undirected mode) ids list) ≡ refuses r)) → Why
        by (inl f) = edge_fault m ids v p ((edges-refused (is_undirected mode) limits.edges ids edges r).0 f)
        by (inr k) =
            let w = room-refused (has_arcs ids k.0) (listed_arcs (is_undirected mode) ids k.0) r k.2 in
            no_arcs m ids v p k.0 ((edges-accepted (is_undirected mode) limits.edges ids edges k.0).0 k.1) w.0 w.1

    from_places : (t : Bool) → places_for room ids ≡ t → onward (with_room t ids) lists_said ≡ refuses r → Why
    from_places true p e = from-edges p (mapped-refuses (λ l. record { ids = ids; arcs = l }) (arcs_said ids) r (sym e))
    from_places false p e = no_places m ids v p (cc)

  refused_why : (t : Bool) → leb mode 1 ≡ t → check t unknown_number (lists_read limits (is_undirected mode) room vertices edges)
      ≡ refuses r
      → Why
  unfolding lists_read
  refused_why false q e = unknown_mode (leb-false mode 1 q) (cc)
  refused_why true q e = by (onward-refused (identifiers limits.vertices vertices) _ r e)
    where
      m : mode ≤ 1
      m = leb-true mode 1 q

      by : (identifiers limits.vertices vertices ≡ refuses r)
          ⊎ ((ids : List ℤ) × (identifiers limits.vertices vertices ≡ gives ids)
          × (onward (with_room (places_for room ids) ids) lists_said ≡ refuses r)) → Why
      by (inl f) = vertex_fault m ((vertices-refused limits.vertices vertices r).0 f)
      by (inr k) = from_places m k.0 ((vertices-accepted limits.vertices vertices k.0).0 k.1) (places_for room k.0) refl k.2

  why-refused : Why → loaded limits mode room vertices edges ≡ refuses r
  unfolding loaded lists_read arcs_read
  why-refused (unknown_mode m e) = rw (lt-leb mode 1 m, e)
  why-refused (vertex_fault m f) = rw (le-leb mode 1 m, (vertices-refused limits.vertices vertices r).1 f)
  why-refused (no_places m ids v p e) = rw (le-leb mode 1 m, (vertices-accepted limits.vertices vertices ids).1 v, p, e)
  why-refused (edge_fault m ids v p f) =
      rw (
        le-leb mode 1 m,
        (vertices-accepted limits.vertices vertices ids).1 v,
        p,
        (edges-refused (is_undirected mode) limits.edges ids edges r).1 f,
      )
  why-refused (no_arcs m ids v p list g k e) =
      rw (
        le-leb mode 1 m,
        (vertices-accepted limits.vertices vertices ids).1 v,
        p,
        (edges-accepted (is_undirected mode) limits.edges ids edges list).1 g,
        k,
        e,
      )

  -- a load is refused exactly by the first check that fails, in the order of the rules
  pub load-refused : (loaded limits mode room vertices edges ≡ refuses r) ↔ RefusedLoad limits mode room vertices edges r
  unfolding loaded
  load-refused = (λ h. refused_why (leb mode 1) refl h, why-refused)

-- ---- the arcs of an edge list, by identifiers
or-four : (a b c d : Bool) → (a || (b || (c || d))) ≡ ((a || c) || (b || d))
or-four true b c d = refl
or-four false true true d = refl
or-four false true false d = refl
or-four false false c d = refl

module _ (ids : List ℤ) (rise : rising_z ids ≡ true) (u w : ℕ) (hu : u < length ids) (hw : w < length ids) where
  abbrev name : ℕ → ℤ
  name v = get_or ids v (pos 0)

  same_first : (id : ℤ) (v : ℕ) → v < length ids → is_there (place_in ids id) ≡ true
      → same_z id (name v) ≡ eqb (vertex_number (place_in ids id)) v
  same_first id v h t =
      let p = there ids rise id t in
      rw p.1 at (same-places signed-order (pos 0) ids rise (vertex_number (place_in ids id)) v p.0 h)

  same-edge : (e : ℤ × ℤ) → is_there (place_in ids e.0) ≡ true → is_there (place_in ids e.1) ≡ true
      → (eqb (numbered (place_in ids) e).0 u && eqb w (numbered (place_in ids) e).1) ≡ (same_z e.0 (name u) && same_z e.1 (name w))
  same-edge e a b = rw (same_first e.0 u hu a, same_first e.1 w hw b, eqb_swap w (numbered (place_in ids) e).1)

  same_back : (e : ℤ × ℤ) → is_there (place_in ids e.0) ≡ true → is_there (place_in ids e.1) ≡ true
      → (eqb (numbered (place_in ids) e).1 u && eqb w (numbered (place_in ids) e).0) ≡ (same_z e.0 (name w) && same_z e.1 (name u))
  same_back e a b =
      rw (same_first e.0 w hw a, same_first e.1 u hu b, eqb_swap w (numbered (place_in ids) e).0)
      (and-swap (eqb (numbered (place_in ids) e).1 u) (eqb (numbered (place_in ids) e).0 w))

  has_listed : (undirected : Bool) (es : List (ℤ × ℤ)) → each (λ e. is_there (place_in ids e.0) && is_there (place_in ids e.1)) es ≡ true
      → has_arc (arcs undirected (all_numbered (place_in ids) es)) u w ≡ lists_arc undirected es (name u) (name w)
  unfolding has_arc has_edge each
  has_listed false [] h = refl
  has_listed true [] h = refl
  has_listed undirected (e ∷ es) h =
      let t = and_first (is_there (place_in ids e.0) && is_there (place_in ids e.1))
      (each (λ e. is_there (place_in ids e.0) && is_there (place_in ids e.1)) es) h in
      let a = and_first (is_there (place_in ids e.0)) (is_there (place_in ids e.1)) t in
      let b = and_second (is_there (place_in ids e.0)) (is_there (place_in ids e.1)) t in
      go undirected (same-edge e a b) (same_back e a b)
      (has_listed undirected es (and_second (is_there (place_in ids e.0) && is_there (place_in ids e.1))
      (each (λ e. is_there (place_in ids e.0) && is_there (place_in ids e.1)) es) h))
    where
      go : (t : Bool) → (eqb (numbered (place_in ids) e).0 u && eqb w (numbered (place_in ids) e).1)
          ≡ (same_z e.0 (name u) && same_z e.1 (name w))
          → (eqb (numbered (place_in ids) e).1 u && eqb w (numbered (place_in ids) e).0) ≡ (same_z e.0 (name w) && same_z e.1 (name u))
          → has_arc (arcs t (all_numbered (place_in ids) es)) u w ≡ lists_arc t es (name u) (name w)
          → has_arc (arcs t (all_numbered (place_in ids) (e ∷ es))) u w ≡ lists_arc t (e ∷ es) (name u) (name w)
      go false p q i = rw (p, i) (or-three (same_z e.0 (name u) && same_z e.1 (name w)) (has_edge es (name u) (name w)))
        where
          or-three : (x y : Bool) → (x || (y || false)) ≡ ((x || y) || false)
          or-three true y = refl
          or-three false y = refl
      go true p q i =
          rw (p, q, i)
          (or-four (same_z e.0 (name u) && same_z e.1 (name w)) (same_z e.0 (name w) && same_z e.1 (name u))
          (has_edge es (name u) (name w)) (has_edge es (name w) (name u)))

-- ---- an accepted load
module _ (limits : Limits) (mode : ℕ) (room : Room) (vertices edges : List ℕ) (g : Lists)
    (h : loaded limits mode room vertices edges ≡ gives g) where
  abbrev undirected : Bool
  undirected = is_undirected mode

  abbrev outcome : Outcome
  outcome = load_call limits mode room vertices edges

  -- the graph that stands in the areas
  abbrev graph : Graph
  graph = graph_left (size_of g) outcome

  ok : GoodLoad limits mode room vertices edges g
  ok = (load-accepted limits mode room vertices edges g).0 h

  abbrev es : List Arc
  es = all_numbered (place_in g.ids) ok.list

  valid : Valid undirected (length g.ids) es
  valid =
      valid-file g.ids ok.good_vertices.rise undirected limits.edges edges ok.list
      ((edges-accepted undirected limits.edges g.ids edges ok.list).1 ok.good_edges)

  abbrev stored : Graph
  stored =
      stored_graph (length g.ids) (arcs undirected es) (pad_z room.ids g.ids) room.out_offsets room.out_targets room.in_offsets
      room.in_sources

  -- the answer is the graph's size, and the areas hold it
  pub load-answer : outcome.answer ≡ gives (size_of g)
  unfolding load_call outcome_of
  load-answer = ap (λ x. mapped size_of x) h

  left-stored : graph ≡ stored
  unfolding load_call outcome_of
  left-stored =
      rw h (ap (λ (l : List Arc). stored_graph (length g.ids) l (pad_z room.ids g.ids) room.out_offsets room.out_targets
      room.in_offsets room.in_sources) ok.arcs_are)

  sound-ids : sound_ids stored ≡ true
  unfolding sound_ids
  sound-ids =
      let n = length g.ids in
      and_both (le-leb n (length (pad_z room.ids g.ids)) (rw (pad-length (pos 0) room.ids g.ids ok.ids_fit) ok.ids_fit))
      (subst (λ (l : List ℤ). rising_z l ≡ true) (sym (take_at g.ids (replicate (room.ids - n) (pos 0)) n refl))
      ok.good_vertices.rise)

  out-fits : length (arcs undirected es) ≤ room.out_targets
  out-fits = rw (← ok.arcs_are) ok.out_targets_fit

  in-fits : length (arcs undirected es) ≤ room.in_sources
  in-fits = rw (← ok.arcs_are) ok.in_sources_fit

  sound-within : limits.vertices ≤ most_vertices → limits.edges ≤ most_edges → sound_graph graph ≡ true
  sound-within a b =
      let e = ok.good_edges.few in
      let v = ok.good_vertices.few in
      let c = arcs-few undirected g.ids ok.list in
      ap sound_graph left-stored
      ∙ stored-sound undirected (length g.ids) es valid (pad_z room.ids g.ids) room.out_offsets room.out_targets
      room.in_offsets
      room.in_sources
      ok.out_offsets_fit out-fits ok.in_offsets_fit in-fits sound-ids (omega arith) (omega arith)

  same-list : (list : List (ℤ × ℤ)) → GoodEdges undirected limits.edges g.ids edges list → ok.list ≡ list
  same-list list fine =
      let a = (edges-accepted undirected limits.edges g.ids edges ok.list).1 ok.good_edges in
      let b = (edges-accepted undirected limits.edges g.ids edges list).1 fine in
      cc

  -- w is in u's outward part exactly where the edge file has that arc, and u in w's inward part
  pub load-outward : (list : List (ℤ × ℤ)) → GoodEdges undirected limits.edges g.ids edges list → (u w : ℕ) → u < length g.ids
      → w < length g.ids
      → mem w (outward graph u) ≡ lists_arc undirected list (get_or g.ids u (pos 0)) (get_or g.ids w (pos 0))
  load-outward list fine u w hu hw =
      ap (λ (x : Graph). mem w (outward x u)) left-stored
      ∙ stored-outward undirected (length g.ids) es valid (pad_z room.ids g.ids) room.out_offsets room.out_targets
      room.in_offsets
      room.in_sources
      ok.out_offsets_fit out-fits ok.in_offsets_fit in-fits u w hu
      ∙ has_listed g.ids ok.good_vertices.rise u w hu hw undirected ok.list ok.good_edges.there
      ∙ ap (λ (l : List (ℤ × ℤ)). lists_arc undirected l (get_or g.ids u (pos 0)) (get_or g.ids w (pos 0))) (same-list list fine)

  pub load-inward : (list : List (ℤ × ℤ)) → GoodEdges undirected limits.edges g.ids edges list → (u w : ℕ) → u < length g.ids
      → w < length g.ids
      → mem u (inward graph w) ≡ lists_arc undirected list (get_or g.ids u (pos 0)) (get_or g.ids w (pos 0))
  load-inward list fine u w hu hw =
      ap (λ (x : Graph). mem u (inward x w)) left-stored
      ∙ stored-inward undirected (length g.ids) es valid (pad_z room.ids g.ids) room.out_offsets room.out_targets
      room.in_offsets
      room.in_sources
      ok.out_offsets_fit out-fits ok.in_offsets_fit in-fits u w hw
      ∙ has_listed g.ids ok.good_vertices.rise u w hu hw undirected ok.list ok.good_edges.there
      ∙ ap (λ (l : List (ℤ × ℤ)). lists_arc undirected l (get_or g.ids u (pos 0)) (get_or g.ids w (pos 0))) (same-list list fine)

  arc-back : (t p q : Bool) → t ≡ true → (p || (t && q)) ≡ (q || (t && p))
  arc-back t true true e = refl
  arc-back t true false e = rw e
  arc-back t false true e = rw e
  arc-back t false false e = rw e

  -- "Undirected: each edge once, smaller first, and it stores two arcs": what an undirected load stores is an undirected graph
  pub load-undirected : mode ≡ 0 → Undirected graph
  load-undirected e u w hu hw m =
      let a = get_or g.ids u (pos 0) in
      let b = get_or g.ids w (pos 0) in
      load-outward ok.list ok.good_edges w u hw hu
      ∙ arc-back undirected (has_edge ok.list b a) (has_edge ok.list a b) (rw e)
      ∙ sym (load-outward ok.list ok.good_edges u w hu hw) ∙ m

-- what a load stores is sound, whatever limits it is given
pub load-sound : (limits : Limits) (mode : ℕ) (room : Room) (vertices edges : List ℕ) (g : Lists)
    → loaded (capped limits) mode room vertices edges ≡ gives g
    → sound_graph (graph_left (size_of g) (load_call (capped limits) mode room vertices edges)) ≡ true
load-sound limits mode room vertices edges g h = sound-within (capped limits) mode room vertices edges g h (omega arith) (omega arith)
