-- A load is accepted exactly when both files have the form and order that the rules ask for and the areas have room. Assumes nothing.
use Prim.Native.Nat.{ℕ}
use mathlib.Core.Path.{◌≡◌, sym, subst, ◌∙◌}
use mathlib.Core.Logic.{◌↔◌}
use mathlib.Core.Bool.{Bool, true, ◌&&◌}
use mathlib.Core.List.{List}
use borrow.Author.Tests.{leb-true, ltb-true, le-leb, lt-ltb}
use lib.ListN.{length}
use lib.Dec.{leb, ltb}
use lib.IntN.{ℤ}
use Rattle.basis.specs.Refusal.{gives, unknown_number, no_room}
use Rattle.basis.proofs.Tests.{and_first, and_second, and_both}
use Rattle.basis.proofs.Saids.{given-one, check-passed, onward-passed}
use Rattle.graph.specs.Arcs.{Arc}
use Rattle.graph.specs.Find.{place_in}
use Rattle.lists.proofs.Accepts.{vertices-accepted, edges-accepted}
use Rattle.load.specs.declared.Limits.{Limits}
use Rattle.lists.specs.Files.{identifiers, edges_of}
use Rattle.load.specs.Load.{Lists, Room, is_undirected, places_for, arc_room, with_room, listed_arcs, arcs_read, lists_read, loaded}
use Rattle.load.specs.Good.{GoodLoad}

-- ---- the load
module _ (limits : Limits) (mode : ℕ) (room : Room) (vertices edges : List ℕ) (g : Lists) where
  abbrev undirected : Bool
  undirected = is_undirected mode

  load-good : loaded limits mode room vertices edges ≡ gives g → GoodLoad limits mode room vertices edges g
  unfolding loaded lists_read arcs_read
  load-good h =
      let m = check-passed (leb mode 1) unknown_number (lists_read limits undirected room vertices edges) g h in
      let a = onward-passed (identifiers limits.vertices vertices) _ g m.1 in
      let b = onward-passed (with_room (places_for room a.0) a.0) _ g a.2 in
      let r = check-passed (places_for room a.0) no_room (gives a.0) b.0 b.1 in
      let c = onward-passed (arcs_read undirected limits.edges b.0 edges room.out_targets room.in_sources) _ g b.2 in
      let d = onward-passed (edges_of undirected limits.edges (place_in b.0) edges) _ c.0 c.1 in
      let es = listed_arcs undirected b.0 d.0 in
      let k = check-passed (arc_room room.out_targets room.in_sources (length es)) no_room (gives es) c.0 d.2 in
      let same-ids : a.0 ≡ b.0 = given-one r.1 in
      let same-arcs : es ≡ c.0 = given-one k.1 in
      let q : ◌≡◌ {A = Lists} (record { ids = b.0; arcs = c.0 }) g = (let e = c.2 in cc) in
      let p : places_for room b.0 ≡ true = subst (λ (l : List ℤ). places_for room l ≡ true) same-ids r.0 in
      let n = length b.0 in
      let o = and_second (leb n room.ids) (ltb n room.out_offsets && ltb n room.in_offsets) p in
      let t : arc_room room.out_targets room.in_sources (length c.0)
      ≡ true = subst (λ (l : List Arc). arc_room room.out_targets room.in_sources (length l) ≡ true) same-arcs k.0 in
      subst (GoodLoad limits mode room vertices edges) q
      (record {
        known = leb-true mode 1 m.0;
        good_vertices = (vertices-accepted limits.vertices vertices b.0).0 (a.1 ∙ r.1);
        ids_fit = leb-true n room.ids (and_first (leb n room.ids) (ltb n room.out_offsets && ltb n room.in_offsets) p);
        out_offsets_fit = ltb-true n room.out_offsets (and_first (ltb n room.out_offsets) (ltb n room.in_offsets) o);
        in_offsets_fit = ltb-true n room.in_offsets (and_second (ltb n room.out_offsets) (ltb n room.in_offsets) o);
        list = d.0;
        good_edges = (edges-accepted undirected limits.edges b.0 edges d.0).0 d.1;
        arcs_are = sym same-arcs;
        out_targets_fit =
            leb-true (length c.0) room.out_targets
            (and_first (leb (length c.0) room.out_targets) (leb (length c.0) room.in_sources) t);
        in_sources_fit =
            leb-true (length c.0) room.in_sources
            (and_second (leb (length c.0) room.out_targets) (leb (length c.0) room.in_sources) t);
      })

  good-load : GoodLoad limits mode room vertices edges g → loaded limits mode room vertices edges ≡ gives g
  unfolding loaded lists_read arcs_read
  good-load l =
      let n = length g.ids in
      let p : places_for room g.ids ≡ true =
      and_both (le-leb n room.ids l.ids_fit) (and_both (lt-ltb n room.out_offsets l.out_offsets_fit)
      (lt-ltb n room.in_offsets l.in_offsets_fit)) in
      let t : arc_room room.out_targets room.in_sources (length (listed_arcs undirected g.ids l.list)) ≡ true =
      rw (← l.arcs_are) (and_both (le-leb (length g.arcs) room.out_targets l.out_targets_fit)
      (le-leb (length g.arcs) room.in_sources l.in_sources_fit)) in
      rw (
        le-leb mode 1 l.known,
        (vertices-accepted limits.vertices vertices g.ids).1 l.good_vertices,
        p,
        (edges-accepted undirected limits.edges g.ids edges l.list).1 l.good_edges,
        t,
        ← l.arcs_are,
      )

  -- a load is accepted exactly where both files have the form and order that the rules ask for, and there is room
  pub load-accepted : (loaded limits mode room vertices edges ≡ gives g) ↔ GoodLoad limits mode room vertices edges g
  load-accepted = (load-good, good-load)
