-- Laws of the call: one for each way that a function of it ends, its premises the code's tests. Assumes nothing.
use Prim.Native.Nat.{ℕ, ◌-◌, ◌≤◌, ◌<◌}
use mathlib.Core.Path.{◌≡◌, refl, sym, ap, ◌∙◌, subst}
use mathlib.Core.Bool.{Bool, true, false}
use mathlib.Core.List.{List, ◌++◌}
use native.Mathlib.Omega.{arith}
use lib.IntN.{ℤ, pos}
use lib.ListN.{length, take, drop, length-replicate}
use lib.Seq.{length-take-le}
use lib.Dec.{leb}
use borrow.Author.Tests.{leb-true}
use borrow.Rule.Slice.PartMut.{mid_of, put_mid}
use Rattle.std.specs.Prelude.{Option, Some, None}
use Rattle.basis.specs.Refusal.{Said, gives, no_room, unsound, not_there}
use Rattle.basis.specs.Area.{cleared, cleared_z, pad_z}
use Rattle.basis.specs.Scan.{Inside}
use Rattle.basis.proofs.Tests.{and_first, and_second, held}
use Rattle.basis.proofs.Areas.{column-length, fill-behind}
use Rattle.graph.specs.Part.{part_of}
use Rattle.graph.specs.Find.{Searched, place_in, is_there}
use Rattle.graph.specs.Sound.{Graph, outward, names, sound_graph}
use Rattle.graph.specs.Walk.{arcs_checked}
use Rattle.graph.proofs.Walks.{check-told, check-area}
use Rattle.graph.proofs.Sounds.{sound-of, names-length, outward-below, vertex-found}
use Rattle.graph.proofs.Finds.{place_at, searched-is}
use Rattle.kernels.proofs.Ends.{ends-unsound, ends-refused, ends-short, ends-done}
use Rattle.kernels.proofs.Results.{front-cleared}
use Rattle.bfs.specs.Depth.{depth_of, depths}
use Rattle.bfs.specs.Call.{Outcome, outcome, refusal, room_for, left_by, bfs_call}
use Rattle.bfs.specs.Steps.{Ready}

-- equal parts, equal outcomes
outcomes : {s t : Said (Unit {0})} {D D' : List ℤ} {Q Q' : List ℕ} → s ≡ t → D ≡ D' → Q ≡ Q' → outcome s D Q ≡ outcome t D' Q'
outcomes d p q = cc

-- ---- areas with room for n places
module _ (n : ℕ) (D : List ℤ) (Q : List ℕ) (h : room_for n D Q ≡ true) where
  pub first-depth : n ≤ length D
  unfolding room_for
  first-depth = leb-true n (length D) (and_first (leb n (length D)) (leb n (length Q)) h)

  pub first-queue : n ≤ length Q
  unfolding room_for
  first-queue = leb-true n (length Q) (and_second (leb n (length D)) (leb n (length Q)) h)

-- ---- their first n places, of a graph's n vertices
module _ {g : Graph} {v : ℕ} {D : List ℤ} {Q : List ℕ} (x : Ready g v D Q) where
  abbrev n : ℕ
  n = g.vertices

  pub lent-depth : n ≤ length D
  lent-depth = first-depth n D Q x.room

  pub lent-queue : n ≤ length Q
  lent-queue = first-queue n D Q x.room

  pub taken-depth : n ≡ length (take n D)
  taken-depth = sym (length-take-le n D lent-depth)

  pub taken-queue : n ≡ length (take n Q)
  taken-queue = sym (length-take-le n Q lent-queue)

  -- what the search needs
  pub search-inside : Inside (length (take n D)) (part_of (length (take n D)) g.out_offsets g.out_targets)
  search-inside = subst (λ (m : ℕ). Inside m (part_of m g.out_offsets g.out_targets)) taken-depth (outward-below g (sound-of g x.sound))

  pub search-there : v < length (take n D)
  search-there = let h = x.there in omega (arith, taken-depth)

  pub search-room : length (take n Q) ≡ length (take n D)
  search-room = sym taken-queue ∙ taken-depth

  -- the search ran on the first n places of both areas; then the rest of the first and all of the second were cleared
  pub fill-all : (A Z : List ℤ) (B C : List ℕ) → A ≡ depths (length (take n D)) (part_of (length (take n D)) g.out_offsets g.out_targets) v
      → length B ≡ length (take n Q) → Z ≡ cleared_z (mid_of n (length (A ++ drop n D) - n) (A ++ drop n D)) → C ≡ cleared (B ++ drop n Q)
      → outcome (gives tt) (put_mid n (length (A ++ drop n D) - n) (A ++ drop n D) Z) C ≡ left_by (gives tt) g (Some v) D Q
  unfolding left_by
  fill-all A Z B C a b z c =
      let e : A ≡ depths n (outward g) v = a ∙ ap (λ (m : ℕ). depths m (part_of m g.out_offsets g.out_targets) v) (sym taken-depth) in
      let k : length A ≡ n = ap length e ∙ column-length (depth_of n (outward g) v) 0 n in
      outcomes refl (fill-behind (pos 0) n A D Z k lent-depth z ∙ ap (pad_z (length D)) e) (c ∙ front-cleared n Q B b)

-- ---- the call: how it ends, by its tests in their order
-- the check of the graph left zeros in the queue
call-over : (g : Graph) (root : ℤ) (D : List ℤ) (Q Q₁ : List ℕ) → Q₁ ≡ cleared Q → bfs_call g root D Q₁ ≡ bfs_call g root D Q
unfolding bfs_call left_by room_for
call-over g root D Q Q₁ q = rw (q, length-replicate {A = ℕ} (length Q) 0)

-- Q₁ is the queue that it left; z is the root as it is handed on
module _ (graph : Graph) (root : ℤ) (D : List ℤ) (Q Q₁ : List ℕ) (o : Outcome) (s : Bool)
    (e : arcs_checked s Q₁ ≡ arcs_checked (sound_graph graph) (cleared Q)) where
  abbrev place : Option ℕ
  place = place_in (names graph) root

  abbrev roomy : Bool
  roomy = room_for graph.vertices D Q₁

  -- what the call leaves by what it says
  abbrev left : Said (Unit {0}) → Outcome
  left said = left_by said graph place D Q₁

  over : bfs_call graph root D Q₁ ≡ bfs_call graph root D Q
  over = call-over graph root D Q Q₁ (check-area e)

  pub call-unsound : s ≡ false → o ≡ refusal unsound D Q₁ → o ≡ bfs_call graph root D Q
  unfolding bfs_call left_by
  call-unsound h q = ends-unsound left o (sound_graph graph) (is_there place) not_there roomy s (check-told e) h q ∙ over

  module _ (h : s ≡ true) (z : ℤ) (same : z ≡ root) (f : Option ℕ) (b : Searched (names graph) z f) where
    -- a bisection of the names of a sound graph finds a vertex by its identifier
    found : f ≡ place
    found =
        searched-is b ∙ vertex-found graph (sound-of graph (held s _ (check-told e) h)) z
        ∙ ap (place_in (names graph)) same

    pub call-refused : f ≡ None → o ≡ refusal not_there D Q₁ → o ≡ bfs_call graph root D Q
    unfolding bfs_call left_by
    call-refused m q =
        ends-refused left o (sound_graph graph) (is_there place) not_there roomy s (check-told e) h (is_there f) (ap is_there found)
        (ap is_there m) q
        ∙ over

    module _ (v : ℕ) (a : f ≡ Some v) (r : Bool) (i : r ≡ room_for graph.vertices D Q₁) where
      given : is_there f ≡ true
      given = ap is_there a

      pub call-short : r ≡ false → o ≡ refusal no_room D Q₁ → o ≡ bfs_call graph root D Q
      unfolding bfs_call left_by
      call-short l q =
          ends-short left o (sound_graph graph) (is_there place) not_there roomy s (check-told e) h (is_there f) (ap is_there found) given r
          i l
          q
          ∙ over

      pub call-done : r ≡ true → o ≡ left_by (gives tt) graph (Some v) D Q₁ → o ≡ bfs_call graph root D Q
      unfolding bfs_call
      call-done l q =
          ends-done left o (sound_graph graph) (is_there place) not_there roomy s (check-told e) h (is_there f) (ap is_there found) given r
          i l
          (q ∙ ap (λ (x : Option ℕ). left_by (gives tt) graph x D Q₁) (sym a ∙ found))
          ∙ over

-- and with a root that is there and room, the areas can be filled
pub call-ready : (g : Graph) (root : ℤ) (D : List ℤ) (Q : List ℕ) (s : Bool) → s ≡ sound_graph g → s ≡ true
    → (f : Option ℕ) → Searched (names g) root f → (v : ℕ) → f ≡ Some v
    → (r : Bool) → r ≡ room_for g.vertices D Q → r ≡ true → Ready g v D Q
call-ready g root D Q s e h f b v a r i l =
    let sound = held s (sound_graph g) e h in
    let d = sound-of g sound in
    let p = sym (searched-is b ∙ vertex-found g d root) ∙ a in
    record {
      sound = sound;
      there = omega (arith, ((place_at (names g) root d.ids_rise v).0 p).0, names-length g d);
      room = held r (room_for g.vertices D Q) i l;
    }
