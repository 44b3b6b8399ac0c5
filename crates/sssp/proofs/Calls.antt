-- Laws of the call: one for each way that a function of it ends, its premises the code's tests. Assumes nothing.
use Prim.Native.Nat.{ℕ, ◌≤◌}
use mathlib.Core.Path.{◌≡◌, refl, sym, ap, ◌∙◌, subst}
use mathlib.Core.Bool.{Bool, true, false, ◌&&◌}
use mathlib.Core.List.{List, ◌++◌}
use native.Mathlib.Omega.{arith}
use lib.IntN.{ℤ, pos}
use lib.ListN.{length, get_or, take, drop, length-replicate}
use lib.Seq.{length-take-le}
use lib.Dec.{leb}
use borrow.Author.Tests.{leb-true, le-leb}
use Rattle.basis.specs.Refusal.{Said, gives, no_room, unsound, not_there, unweighted}
use Rattle.basis.specs.Area.{cleared, cleared_z}
use Rattle.basis.specs.Limits.{most_weight}
use Rattle.basis.proofs.Tests.{and_first, and_second, failed, held}
use Rattle.basis.proofs.Scans.{each_of}
use Rattle.basis.proofs.Areas.{column-length}
use Rattle.std.specs.Prelude.{Option, Some, None}
use Rattle.graph.specs.Part.{part_of}
use Rattle.graph.specs.Find.{Searched, place_in}
use Rattle.graph.specs.Sound.{outward, names}
use Rattle.graph.specs.Walk.{arcs_checked}
use Rattle.graph.specs.Weights.{Weighted, Leg, counts_weighted, is_weighted, out_legs, legs_of, sound_weighted}
use Rattle.graph.proofs.Walks.{check-told, check-area}
use Rattle.graph.proofs.Sounds.{names-length, outward-below, vertex-found}
use Rattle.graph.proofs.Finds.{place_at, searched-is}
use Rattle.graph.proofs.Weighings.{area-each, weights-long, weighted-of}
use Rattle.kernels.proofs.Results.{front-padded, front-cleared}
use Rattle.sssp.specs.Distance.{distances, as_signed}
use Rattle.sssp.specs.Call.{Outcome, outcome, refusal, room_for, left_by, sssp_says, sssp_call}
use Rattle.sssp.specs.Steps.{Ready, WeighedAll, Lent}

-- equal parts, equal outcomes
outcomes : {s t : Said (Unit {0})} {D D' : List ℤ} {S S' W W' T T' : List ℕ} → s ≡ t → D ≡ D' → S ≡ S' → W ≡ W' → T ≡ T'
    → outcome s D S W T ≡ outcome t D' S' W' T'
outcomes a b c d e = cc

-- ---- areas with room for n places
module _ (n : ℕ) (D : List ℤ) (S W T : List ℕ) (h : room_for n D S W T ≡ true) where
  abbrev dr : Bool
  dr = leb n (length D)

  abbrev sr : Bool
  sr = leb n (length S)

  abbrev wr : Bool
  wr = leb n (length W)

  abbrev tr : Bool
  tr = leb n (length T)

  pub room-distance : n ≤ length D
  unfolding room_for
  room-distance = leb-true n (length D) (and_first dr sr (and_first (dr && sr) (wr && tr) h))

  room_settled : n ≤ length S
  unfolding room_for
  room_settled = leb-true n (length S) (and_second dr sr (and_first (dr && sr) (wr && tr) h))

  room-waiting : n ≤ length W
  unfolding room_for
  room-waiting = leb-true n (length W) (and_first wr tr (and_second (dr && sr) (wr && tr) h))

  room-tree : n ≤ length T
  unfolding room_for
  room-tree = leb-true n (length T) (and_second wr tr (and_second (dr && sr) (wr && tr) h))

-- ---- the arcs of a sound weighted graph stay among its vertices, and none is too heavy
pub sound-inside : (g : Weighted) → sound_weighted g ≡ true → is_weighted g ≡ true
    → WeighedAll g.graph.vertices (outward g.graph) (part_of g.graph.vertices g.graph.out_offsets g.out_weights)
sound-inside g h t u l =
    let s = weighted-of g h in
    let w = s.weights t in
    let side = s.graph.outward_side in
    record {
      low = outward-below g.graph s.graph u l;
      long = weights-long side g.out_weights w.out_room u;
      light = each_of (λ c. leb c most_weight) 0 (part_of g.graph.vertices g.graph.out_offsets g.out_weights u)
          (λ i k. le-leb _ most_weight (area-each side g.out_weights w.out_room u (λ c. c ≤ most_weight) w.out_light l i k));
    }

-- ---- the first n places of the areas, of a graph's n vertices
module _ {g : Weighted} {v : ℕ} {D : List ℤ} {S W T : List ℕ} (x : Ready g v D S W T) where
  abbrev n : ℕ
  n = g.graph.vertices

  -- the arcs that leave a vertex, as of a graph of m vertices: where they lead, their weights, and both
  abbrev to : ℕ → ℕ → List ℕ
  to m = part_of m g.graph.out_offsets g.graph.out_targets

  abbrev cost : ℕ → ℕ → List ℕ
  cost m = part_of m g.graph.out_offsets g.out_weights

  abbrev arcs : ℕ → ℕ → List Leg
  arcs m = legs_of m g.graph.out_offsets g.graph.out_targets g.out_weights

  lent-distance : n ≤ length D
  lent-distance = room-distance n D S W T x.room

  pub lent-settled : n ≤ length S
  lent-settled = room_settled n D S W T x.room

  pub lent-waiting : n ≤ length W
  lent-waiting = room-waiting n D S W T x.room

  pub lent-tree : n ≤ length T
  lent-tree = room-tree n D S W T x.room

  pub taken-settled : n ≡ length (take n S)
  taken-settled = sym (length-take-le n S lent-settled)

  pub taken-waiting : n ≡ length (take n W)
  taken-waiting = sym (length-take-le n W lent-waiting)

  pub taken-tree : n ≡ length (take n T)
  taken-tree = sym (length-take-le n T lent-tree)

  -- what the search needs
  pub fill-inside : WeighedAll (length (take n S)) (to (length (take n S))) (cost (length (take n S)))
  fill-inside =
      subst (λ (m : ℕ). WeighedAll m (to m) (cost m)) taken-settled (sound-inside g x.sound x.weighted)

  pub fill-lent : Lent v (take n S) (take n W) (take n T)
  fill-lent =
      let a = taken-settled in let b = taken-waiting in let c = taken-tree in
      record {
        few = let z = (weighted-of g x.sound).graph.few_vertices in omega arith;
        there = omega (arith, x.there);
        keys = omega arith;
        nodes = omega arith;
      }

  -- E is the cleared result area; its first n places and those of the others were lent to the search, which left A in it; then the others
  -- were cleared
  pub fill-distance : (E : List ℤ) → E ≡ cleared_z D → n ≤ length E
  fill-distance E e = let z = ap length e ∙ length-replicate {A = ℤ} (length D) (pos 0) in let y = lent-distance in omega arith

  pub fill-taken : (E : List ℤ) → E ≡ cleared_z D → n ≡ length (take n E)
  fill-taken E e = sym (length-take-le n E (fill-distance E e))

  pub fill-long : (E : List ℤ) → E ≡ cleared_z D → length (take n E) ≡ length (take n S)
  fill-long E e = sym (fill-taken E e) ∙ taken-settled

  pub fill-all : (E A : List ℤ) (B C F S₁ W₁ T₁ : List ℕ) → E ≡ cleared_z D
      → A ≡ as_signed (length (take n S)) (distances (length (take n S)) (arcs (length (take n S))) v)
      → length B ≡ length (take n S) → length C ≡ length (take n W) → length F ≡ length (take n T)
      → (S₁ ≡ cleared (B ++ drop n S)) × (W₁ ≡ cleared (C ++ drop n W)) × (T₁ ≡ cleared (F ++ drop n T))
      → outcome (gives tt) (A ++ drop n E) S₁ W₁ T₁ ≡ left_by (gives tt) g (Some v) D S W T
  unfolding left_by
  fill-all E A B C F S₁ W₁ T₁ e a b c d z =
      let f : A ≡ as_signed n (distances n (out_legs g) v) =
      a ∙ ap (λ (m : ℕ). as_signed m (distances m (arcs m) v)) (sym taken-settled) in
      outcomes refl
      (front-padded (pos 0) n D E (as_signed n (distances n (out_legs g) v)) A
      (column-length (λ u. pos (get_or (distances n (out_legs g) v) u 0)) 0 n) e f)
      (z.0 ∙ front-cleared n S B b) (z.1 ∙ front-cleared n W C c) (z.2 ∙ front-cleared n T F d)

-- ---- the call: how it ends, by its tests in their order
-- the check of the graph left zeros in the tree
call-over : (g : Weighted) (root : ℤ) (D : List ℤ) (S W T T₁ : List ℕ) → T₁ ≡ cleared T → sssp_call g root D S W T₁
    ≡ sssp_call g root D S W T
unfolding sssp_call left_by room_for
call-over g root D S W T T₁ q = rw (q, length-replicate {A = ℕ} (length T) 0)

-- T₁ is the tree that it left; s and t say that the graph is sound, and that it is weighted; z is the root as it is handed on
module _ (graph : Weighted) (root : ℤ) (D : List ℤ) (S W T T₁ : List ℕ) (o : Outcome) (s : Bool)
    (e : arcs_checked s T₁ ≡ arcs_checked (sound_weighted graph) (cleared T)) where
  abbrev place : Option ℕ
  place = place_in (names graph.graph) root

  over : sssp_call graph root D S W T₁ ≡ sssp_call graph root D S W T
  over = call-over graph root D S W T T₁ (check-area e)

  pub call-unsound : s ≡ false → o ≡ refusal unsound D S W T₁ → o ≡ sssp_call graph root D S W T
  unfolding sssp_call sssp_says left_by
  call-unsound h q = rw (failed s (sound_weighted graph) (check-told e) h) q ∙ over

  module _ (h : s ≡ true) (t : Bool) (f : t ≡ counts_weighted graph.weighted graph.graph.arcs) where
    sound : sound_weighted graph ≡ true
    sound = held s (sound_weighted graph) (check-told e) h

    pub call-plain : t ≡ false → o ≡ refusal unweighted D S W T₁ → o ≡ sssp_call graph root D S W T
    unfolding sssp_call sssp_says left_by
    call-plain k q = rw (sound, failed t (counts_weighted graph.weighted graph.graph.arcs) f k) q ∙ over

    module _ (k : t ≡ true) (z : ℤ) (same : z ≡ root) (x : Option ℕ) (b : Searched (names graph.graph) z x) where
      weights : is_weighted graph ≡ true
      weights = held t (counts_weighted graph.weighted graph.graph.arcs) f k

      -- a bisection of the names of a sound graph finds a vertex by its identifier
      found : place ≡ x
      found =
          sym (searched-is b ∙ vertex-found graph.graph (weighted-of graph sound).graph z
          ∙ ap (place_in (names graph.graph)) same)

      pub call-missing : x ≡ None → o ≡ refusal not_there D S W T₁ → o ≡ sssp_call graph root D S W T
      unfolding sssp_call sssp_says left_by
      call-missing a q = rw (sound, weights, found ∙ a) q ∙ over

      module _ (v : ℕ) (a : x ≡ Some v) (r : Bool) (i : r ≡ room_for graph.graph.vertices D S W T₁) where
        pub call-short : r ≡ false → o ≡ refusal no_room D S W T₁ → o ≡ sssp_call graph root D S W T
        unfolding sssp_call sssp_says left_by
        call-short l q = rw (sound, weights, found ∙ a, failed r (room_for graph.graph.vertices D S W T₁) i l) q ∙ over

        pub call-done : r ≡ true → o ≡ left_by (gives tt) graph (Some v) D S W T₁
            → o ≡ sssp_call graph root D S W T
        unfolding sssp_call sssp_says left_by
        call-done l q = rw (sound, weights, found ∙ a, held r (room_for graph.graph.vertices D S W T₁) i l) q ∙ over

-- and with weights, a root that is there and room, the areas can be filled
pub call-ready : (g : Weighted) (root : ℤ) (D : List ℤ) (S W T : List ℕ) (s : Bool) → s ≡ sound_weighted g → s ≡ true
    → (t : Bool) → t ≡ is_weighted g → t ≡ true → (f : Option ℕ) → Searched (names g.graph) root f → (v : ℕ) → f ≡ Some v
    → (r : Bool) → r ≡ room_for g.graph.vertices D S W T → r ≡ true → Ready g v D S W T
call-ready g root D S W T s e h t k j f b v a r i l =
    let sound = held s (sound_weighted g) e h in
    let d = (weighted-of g sound).graph in
    let p = sym (searched-is b ∙ vertex-found g.graph d root) ∙ a in
    record {
      sound = sound;
      weighted = held t (is_weighted g) k j;
      there = omega (arith, ((place_at (names g.graph) root d.ids_rise v).0 p).0, names-length g.graph d);
      room = held r (room_for g.graph.vertices D S W T) i l;
    }
