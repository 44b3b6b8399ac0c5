-- Laws of the loops that look for a mismatch of numbers: what holds at the start, at a turn and at each way out. Assumes nothing.
use Rattle.std.specs.Prelude.{Some}
use Rattle.std.specs.List.{position, position_from, zip}
use Rattle.std.proofs.lemmas.Iterator.Adapters.{position_from-zero}
use mathlib.Core.Path.{◌≡◌, refl, sym, ap, ap₂, ◌∙◌}
use mathlib.Core.Bool.{Bool, true, false, not, beq, cond}
use mathlib.Core.List.{List, [], ◌∷◌}
use Prim.Native.Nat.{ℕ, suc, ◌+◌, ◌-◌, ◌≤◌, ◌<◌}
use native.Mathlib.Numerals.{add-one}
use native.Mathlib.Omega.{arith}
use lib.IntN.{ℤ, pos}
use lib.ListN.{length, get_or}
use borrow.Author.Tests.{not-true, not-false}
use Rattle.basis.specs.Order.{same_z}
use Rattle.basis.specs.Scan.{every}
use Rattle.basis.proofs.Scans.{every_more, every-fail}
use Rattle.matching.specs.Cover.{failing_place}
use Rattle.matching.specs.Steps.{counted}
use Rattle.matching.specs.Verdict.{first_place, unequal_vertex, same_kind, agrees, unlike_vertex}
use Rattle.matching.proofs.FirstPlaces.{fails-nowhere, fails-here, fails-later}

-- ---- the first place at which two lists of one length differ
unequal-from : (a b : List ℤ) → length a ≡ length b → (k : ℕ)
    → counted (position_from (λ x. not (same_z x.0 x.1)) k (zip a b)) ≡ first_place same_z (k + 1) a b
unfolding first_place
unequal-from [] [] e k = refl
unequal-from [] (y ∷ b) e k = absurd (omega arith)
unequal-from (x ∷ a) [] e k = absurd (omega arith)
unequal-from (x ∷ a) (y ∷ b) e k = by (same_z x y) (unequal-from a b (omega arith) (k + 1))
  where
    by : (t : Bool) → counted (position_from (λ x. not (same_z x.0 x.1)) (k + 1) (zip a b)) ≡ first_place same_z (k + 1 + 1) a b
        → counted (cond (not t) (Some k) (position_from (λ x. not (same_z x.0 x.1)) (k + 1) (zip a b)))
        ≡ cond t (first_place same_z (k + 1 + 1) a b) (k + 1)
    by true h = h
    by false h = sym (add-one k)

pub unequal-at : (a b : List ℤ) → length a ≡ length b
    → counted (position (λ x. not (same_z x.0 x.1)) (zip a b)) ≡ unequal_vertex a b
unequal-at a b e = ap counted (position_from-zero (λ (x : ℤ × ℤ). not (same_z x.0 x.1)) (zip a b)) ∙ unequal-from a b e 0

-- ---- the smallest vertex that disagrees in kind with a smaller one
pub unlike-start : (a b : List ℤ) → unlike_vertex a b ≡ failing_place (agrees a b) (length a - 0) 0
unfolding unlike_vertex
unlike-start a b = let e : length a - 0 ≡ length a = omega arith in rw e

module _ (a b : List ℤ) (n i : ℕ) (h : unlike_vertex a b ≡ failing_place (agrees a b) (n - i) i) where
  pub unlike-end : n ≤ i → 0 ≡ unlike_vertex a b
  unlike-end l = sym (h ∙ fails-nowhere (agrees a b) n i l)

  -- the smaller vertices up to j agree with vertex i
  module _ (l : i < n) (j : ℕ) (k : every j (same_kind a b i) ≡ true) where
    pub unlike-later : i ≤ j → j ≤ i → unlike_vertex a b ≡ failing_place (agrees a b) (n - (i + 1)) (i + 1)
    unfolding agrees
    unlike-later f g =
        let q : j ≡ i = omega arith in
        h ∙ fails-later (agrees a b) n i l (rw q at k)

    -- the test of vertices i and j, by what was read
    module _ {x y v w : ℤ} (p : x ≡ get_or b i (pos 0)) (q : y ≡ get_or b j (pos 0)) (r : v ≡ get_or a i (pos 0))
        (o : w ≡ get_or a j (pos 0))
        {t : Bool} (s : t ≡ not (beq (same_z x y) (same_z v w))) where
      kind : t ≡ not (same_kind a b i j)
      unfolding same_kind
      kind = s ∙ ap₂ (λ s t. not (beq s t)) (ap₂ same_z p q) (ap₂ same_z r o)

      pub unlike-here : j < i → t ≡ true → suc i ≡ unlike_vertex a b
      unfolding agrees
      unlike-here f g =
          sym (add-one i)
          ∙ sym (h ∙ fails-here (agrees a b) n i l (every-fail (same_kind a b i) i j f (not-true (same_kind a b i j) (sym kind ∙ g))))

      pub like-more : t ≡ false → every (j + 1) (same_kind a b i) ≡ true
      like-more g = every_more (same_kind a b i) j k (not-false (same_kind a b i j) (sym kind ∙ g))
