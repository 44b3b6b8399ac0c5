-- Laws of the labels of a list of vertices. Assumes nothing.
use mathlib.Core.Path.{◌≡◌, refl, sym, ap, ap₂, ◌∙◌, subst}
use mathlib.Core.Bool.{true}
use mathlib.Core.List.{List, [], ◌∷◌, ◌++◌}
use Prim.Native.Nat.{ℕ, zero, suc, ◌+◌, ◌≤◌, ◌<◌}
use native.Mathlib.Nat.{not-suc-le-zero}
use native.Mathlib.Numerals.{add-one}
use native.Mathlib.Omega.{arith}
use lib.ListN.{length, get_or, take, drop, drop_of_length-le}
use lib.Seq.{drop-cons, get_or-take}
use Rattle.basis.specs.Area.{column}
use Rattle.basis.specs.Scan.{all_below}
use Rattle.basis.proofs.Areas.{column-is, column-length, column-at}
use Rattle.basis.proofs.Scans.{below_at, below_of, below_none, below_more, below-first, below_rest}
use Rattle.cdlp.specs.Rounds.{labels_at}

pub column-low : (f : ℕ → ℕ) (n k : ℕ) → ((v : ℕ) → v < k → f v < n) → all_below n (column f 0 k) ≡ true
column-low f n k h =
    below_of n (column f 0 k) (λ i g. let l : i < k = subst (λ (j : ℕ). i < j) (column-length f 0 k) g in rw (column-at f k i 0 l) (h i l))

-- ---- labels of vertices
pub labels-low : (n : ℕ) (L us : List ℕ) → all_below (length L) us ≡ true → all_below n L ≡ true → all_below n (labels_at 0 L us) ≡ true
unfolding labels_at
labels-low n L [] h g = below_none n
labels-low n L (u ∷ us) h g =
    below_more n (get_or L u 0) (labels_at 0 L us) (below_at n L g u (below-first (length L) u us h))
    (labels-low n L us (below_rest (length L) u us h) g)

pub labels-step : (L part : List ℕ) (i : ℕ) → i < length part
    → labels_at 0 L (drop i part) ≡ get_or L (get_or part i 0) 0 ∷ labels_at 0 L (drop (i + 1) part)
unfolding labels_at
labels-step L part i h = ap (labels_at 0 L) (drop-cons part i 0 h) ∙ rw (add-one i) refl

pub labels-end : (L part : List ℕ) (i : ℕ) → length part ≤ i → labels_at 0 L (drop i part) ≡ []
unfolding labels_at
labels-end L part i h = ap (labels_at 0 L) (drop_of_length-le part h)

module _ {A : Type 0} (z : A) where
  pub labels_append : (L : List A) (a b : List ℕ) → labels_at z L (a ++ b) ≡ labels_at z L a ++ labels_at z L b
  unfolding labels_at
  labels_append L [] b = refl
  labels_append L (u ∷ a) b = ap (λ s. get_or L u z ∷ s) (labels_append L a b)

  pub labels_length : (L : List A) (us : List ℕ) → length (labels_at z L us) ≡ length us
  unfolding labels_at
  labels_length L [] = refl
  labels_length L (u ∷ us) = ap suc (labels_length L us)

  pub labels_at_lem : (L : List A) (us : List ℕ) (i : ℕ) → i < length us → get_or (labels_at z L us) i z ≡ get_or L (get_or us i 0) z
  unfolding labels_at
  labels_at_lem L [] i h = absurd (not-suc-le-zero h)
  labels_at_lem L (u ∷ us) zero h = refl
  labels_at_lem L (u ∷ us) (suc i) h = labels_at_lem L us i (omega arith)

  -- the label of the i-th vertex of a list
  abbrev pub look : List A → List ℕ → ℕ → A
  look L us i = get_or L (get_or us i 0) z

  pub column-look : (L : List A) (us : List ℕ) → column (look L us) 0 (length us) ≡ labels_at z L us
  column-look L us = column-is (look L us) z (labels_at z L us) (length us) (labels_length L us) (labels_at_lem L us)

  pub column-labels : (L : List A) (g : ℕ → A) (f : ℕ → ℕ) (s k m : ℕ) → s + k ≤ m → ((v : ℕ) → v < m → g v ≡ get_or L (f v) z)
      → column g s k ≡ labels_at z L (column f s k)
  unfolding column labels_at
  column-labels L g f s zero m e h = refl
  column-labels L g f s (suc k) m e h = ap₂ (λ x t. x ∷ t) (h s (omega arith)) (column-labels L g f (suc s) k m (omega arith) h)

  -- vertices below n look only at the first n labels
  pub labels-front : (n : ℕ) (L : List A) (us : List ℕ) → all_below n us ≡ true → labels_at z L us ≡ labels_at z (take n L) us
  unfolding labels_at
  labels-front n L [] h = refl
  labels-front n L (u ∷ us) h =
      ap₂ (λ x t. x ∷ t) (sym (get_or-take n L u z (below-first n u us h))) (labels-front n L us (below_rest n u us h))
