-- Laws of the call: one for each way that a function of it ends, its premises the code's tests. Assumes nothing.
use Prim.Native.Nat.{ℕ, ◌≤◌}
use mathlib.Core.Path.{◌≡◌, refl, sym, ◌∙◌}
use mathlib.Core.Bool.{Bool, true, false}
use mathlib.Core.List.{List, ◌++◌}
use native.Mathlib.Omega.{arith}
use lib.IntN.{ℤ, pos}
use lib.ListN.{length, take, drop, length-replicate}
use lib.Seq.{length-take-le}
use lib.Dec.{leb}
use borrow.Author.Tests.{leb-true}
use Rattle.basis.specs.Refusal.{Said, gives, refuses, plain, unsound, no_room}
use Rattle.basis.specs.Area.{cleared, cleared_z}
use Rattle.basis.proofs.Tests.{and_first, and_second}
use Rattle.basis.proofs.Areas.{column-length}
use Rattle.graph.specs.declared.Size.{Size}
use Rattle.graph.specs.Part.{part_of}
use Rattle.graph.specs.Sound.{Graph, outward, names, lent, sound_graph}
use Rattle.graph.specs.Walk.{arcs_checked}
use Rattle.graph.proofs.Walks.{check-told, check-area}
use Rattle.graph.proofs.Sounds.{sound-of, outward-below, names-length}
use Rattle.kernels.proofs.Results.{front-padded, front-cleared}
use Rattle.kernels.proofs.Ends.{ends-unsound, ends-short, ends-done}
use Rattle.wcc.specs.Component.{label_of, wcc_of}
use Rattle.wcc.specs.Call.{Outcome, outcome, refusal, room_for, left_by, wcc_call}
use Rattle.wcc.specs.Steps.{Ready, Fitting}

-- equal parts, equal outcomes
outcomes : {s t : Said (Unit {0})} {R R' : List ℤ} {H H' : List ℕ} → s ≡ t → R ≡ R' → H ≡ H' → outcome s R H ≡ outcome t R' H'
outcomes d p q = cc

-- ---- a refusal, from its parts
pub refuse-all : (s : Said (Unit {0})) (k : ℕ) (R R₁ : List ℤ) (H H₁ : List ℕ) → s ≡ refuses (plain k) → R₁ ≡ cleared_z R
    → H₁ ≡ cleared H
    → outcome s R₁ H₁ ≡ refusal k R H
refuse-all s k R R₁ H H₁ d p q = outcomes d p q

-- ---- areas with room for n places
module _ (n : ℕ) (R : List ℤ) (H : List ℕ) (h : room_for n R H ≡ true) where
  pub first-result : n ≤ length R
  unfolding room_for
  first-result = leb-true n (length R) (and_first (leb n (length R)) (leb n (length H)) h)

  first-heads : n ≤ length H
  unfolding room_for
  first-heads = leb-true n (length H) (and_second (leb n (length R)) (leb n (length H)) h)

-- ---- their first n places, of a graph's n vertices; R₁ is the result area after it was cleared
module _ (size : Size) (ids : List ℤ) (oo ot io is : List ℕ) (R : List ℤ) (H : List ℕ) (x : Ready (lent size ids oo ot io is) R H) where
  abbrev g : Graph
  g = lent size ids oo ot io is

  abbrev n : ℕ
  n = size.vertices

  pub taken-ids : n ≡ length (take n ids)
  taken-ids = sym (names-length g (sound-of g x.sound))

  pub lent-heads : n ≤ length H
  lent-heads = first-heads n R H x.room

  pub taken-heads : n ≡ length (take n H)
  taken-heads = sym (length-take-le n H lent-heads)

  module _ (R₁ : List ℤ) (e : length R₁ ≡ length R) where
    pub lent-result : n ≤ length R₁
    lent-result = let r = first-result n R H x.room in omega arith

    pub taken-result : n ≡ length (take n R₁)
    taken-result = sym (length-take-le n R₁ lent-result)

    pub fitting-of : Fitting n (part_of n oo ot) (take n ids) (take n R₁) (take n H)
    fitting-of =
        record {
          few = (sound-of g x.sound).few_vertices;
          inside = outward-below g (sound-of g x.sound);
          named = sym taken-ids;
          result_room = sym taken-result;
          heads_room = sym taken-heads;
        }

  -- the labels with zeros behind them, and a working area of zeros, whatever its first places held
  pub fill-all : (R₁ X : List ℤ) (H₂ H₃ : List ℕ) → R₁ ≡ cleared_z R → X ≡ wcc_of g → length H₂ ≡ length (take n H)
      → H₃ ≡ cleared (H₂ ++ drop n H)
      → outcome (gives tt) (X ++ drop n R₁) H₃ ≡ left_by (gives tt) g R H
  unfolding left_by
  fill-all R₁ X H₂ H₃ e q p c =
      outcomes refl (front-padded (pos 0) n R R₁ (wcc_of g) X (column-length (label_of n (outward g) (names g)) 0 n) e q)
      (c ∙ front-cleared n H H₂ p)

-- ---- the call: how it ends, by its tests in their order
-- the check of the graph left zeros in the working area
call-over : (g : Graph) (R : List ℤ) (H H₁ : List ℕ) → H₁ ≡ cleared H → wcc_call g R H₁ ≡ wcc_call g R H
unfolding wcc_call left_by room_for
call-over g R H H₁ q = rw (q, length-replicate {A = ℕ} (length H) 0)

-- H₁ is the working area as it left it
module _ (size : Size) (ids : List ℤ) (oo ot io is : List ℕ) (R : List ℤ) (H H₁ : List ℕ) (o : Outcome) (s : Bool)
    (e : arcs_checked s H₁ ≡ arcs_checked (sound_graph (lent size ids oo ot io is)) (cleared H)) where
  abbrev graph : Graph
  graph = lent size ids oo ot io is

  -- what the call leaves by what it says
  abbrev left : Said (Unit {0}) → Outcome
  left said = left_by said graph R H₁

  over : wcc_call graph R H₁ ≡ wcc_call graph R H
  over = call-over graph R H H₁ (check-area e)

  pub call-unsound : s ≡ false → o ≡ refusal unsound R H₁ → o ≡ wcc_call graph R H
  unfolding wcc_call left_by
  call-unsound h q = ends-unsound left o (sound_graph graph) true 0 (room_for size.vertices R H₁) s (check-told e) h q ∙ over

  module _ (h : s ≡ true) (r : Bool) (i : r ≡ room_for size.vertices R H₁) where
    pub call-short : r ≡ false → o ≡ refusal no_room R H₁ → o ≡ wcc_call graph R H
    unfolding wcc_call left_by
    call-short l q =
        ends-short left o (sound_graph graph) true 0 (room_for size.vertices R H₁) s (check-told e) h true refl refl r i l q ∙ over

    pub call-done : r ≡ true → o ≡ left_by (gives tt) graph R H₁ → o ≡ wcc_call graph R H
    unfolding wcc_call
    call-done l q =
        ends-done left o (sound_graph graph) true 0 (room_for size.vertices R H₁) s (check-told e) h true refl refl r i l q ∙ over
