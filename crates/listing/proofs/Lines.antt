-- Laws of the writers of lines, one for each answer of the code. Assumes nothing.
use Prim.Native.Nat.{ℕ}
use mathlib.Core.Path.{◌≡◌, refl}
use native.Mathlib.Omega.{arith}
use mathlib.Core.Logic.{◌⊎◌, inl, inr}
use Rattle.basis.proofs.Tests.{no-case}
use mathlib.Core.List.{List, [], ◌∷◌, ◌++◌}
use lib.IntN.{ℤ}
use lib.ListN.{length}
use Rattle.basis.specs.declared.refusal.Refusal.{Refusal}
use Rattle.text.specs.Bytes.{lf, space}
use Rattle.write.specs.Put.{Written, written, put_at}
use Rattle.write.specs.Number.{count_text, signed_text}
use Rattle.write.proofs.Puts.{put_then, putting-more, putting-end}
use Rattle.listing.specs.Listing.{slash, refused_word, spaced_text, numbers_text, refused_text, head_text}
use Rattle.listing.specs.Listing.{named_text, pair_text, fraction_text, ratio_text, pair_lines, ratio_lines}

-- ---- two texts or three, one after another
module _ (o : List ℕ) (at : ℕ) {o₁ o₂ : List ℕ} {p₁ p₂ : ℕ} where
  pub spaced-put : (n : ℕ) → written o₁ p₁ ≡ put_at o at (space ∷ []) → written o₂ p₂ ≡ put_at o₁ p₁ (count_text n)
      → written o₂ p₂ ≡ put_at o at (spaced_text n)
  unfolding spaced_text
  spaced-put n x y = put_then o at (space ∷ []) x (count_text n) y

  pub named_put : (id x : ℤ) → x ≡ id → written o₁ p₁ ≡ put_at o at (signed_text x) → written o₂ p₂ ≡ put_at o₁ p₁ (space ∷ [])
      → written o₂ p₂ ≡ put_at o at (named_text id)
  unfolding named_text
  named_put id x e f g = rw (← e) (put_then o at (signed_text x) f (space ∷ []) g)

module _ (o : List ℕ) (at : ℕ) {o₁ o₂ o₃ : List ℕ} {p₁ p₂ p₃ : ℕ} where
  three : (a b c : List ℕ) → written o₁ p₁ ≡ put_at o at a → written o₂ p₂ ≡ put_at o₁ p₁ b → written o₃ p₃ ≡ put_at o₂ p₂ c
      → written o₃ p₃ ≡ put_at o at (a ++ (b ++ c))
  three a b c x y z = put_then o at a x (b ++ c) (put_then o₁ p₁ b y c z)

  pub numbers-put : (r : Refusal) {o₄ : List ℕ} {p₄ : ℕ} → written o₁ p₁ ≡ put_at o at (spaced_text r.number)
      → written o₂ p₂ ≡ put_at o₁ p₁ (spaced_text r.file)
      → written o₃ p₃ ≡ put_at o₂ p₂ (spaced_text r.line) → written o₄ p₄ ≡ put_at o₃ p₃ (spaced_text r.column)
      → written o₄ p₄ ≡ put_at o at (numbers_text r)
  unfolding numbers_text
  numbers-put r x y z w =
      put_then o at (spaced_text r.number) x (spaced_text r.file ++ (spaced_text r.line ++ spaced_text r.column))
      (put_then o₁ p₁ (spaced_text r.file) y (spaced_text r.line ++ spaced_text r.column)
      (put_then o₂ p₂ (spaced_text r.line) z (spaced_text r.column) w))

  pub refused-put : (r : Refusal) → written o₁ p₁ ≡ put_at o at refused_word → written o₂ p₂ ≡ put_at o₁ p₁ (numbers_text r)
      → written o₃ p₃ ≡ put_at o₂ p₂ (lf ∷ []) → written o₃ p₃ ≡ put_at o at (refused_text r)
  unfolding refused_text
  refused-put r = three refused_word (numbers_text r) (lf ∷ [])

  pub head-put : (line : List ℕ) (n : ℕ) → written o₁ p₁ ≡ put_at o at line → written o₂ p₂ ≡ put_at o₁ p₁ (count_text n)
      → written o₃ p₃ ≡ put_at o₂ p₂ (lf ∷ []) → written o₃ p₃ ≡ put_at o at (head_text line n)
  unfolding head_text
  head-put line n = three line (count_text n) (lf ∷ [])

  pub fraction-put : (n d : ℕ) → written o₁ p₁ ≡ put_at o at (count_text n) → written o₂ p₂ ≡ put_at o₁ p₁ (slash ∷ [])
      → written o₃ p₃ ≡ put_at o₂ p₂ (count_text d) → written o₃ p₃ ≡ put_at o at (fraction_text n d)
  unfolding fraction_text
  fraction-put n d = three (count_text n) (slash ∷ []) (count_text d)

  pub pair_put : (id x v y : ℤ) → x ≡ id → y ≡ v → written o₁ p₁ ≡ put_at o at (named_text x) → written o₂ p₂ ≡ put_at o₁ p₁ (signed_text y)
      → written o₃ p₃ ≡ put_at o₂ p₂ (lf ∷ []) → written o₃ p₃ ≡ put_at o at (pair_text id v)
  unfolding pair_text
  pair_put id x v y e f = rw (← e, ← f) (three (named_text x) (signed_text y) (lf ∷ []))

  pub ratio-put : (id x : ℤ) (n d : ℕ) → x ≡ id → written o₁ p₁ ≡ put_at o at (named_text x) → written o₂ p₂
      ≡ put_at o₁ p₁ (fraction_text n d)
      → written o₃ p₃ ≡ put_at o₂ p₂ (lf ∷ []) → written o₃ p₃ ≡ put_at o at (ratio_text id n d)
  unfolding ratio_text
  ratio-put id x n d e = rw (← e) (three (named_text x) (fraction_text n d) (lf ∷ []))

-- ---- the loops: what is left of the lines, written from here on, makes the whole
module _ {w : Written} (o : List ℕ) (p : ℕ) where
  pub pairs_end : (ids vs : List ℤ) → put_at o p (pair_lines ids vs) ≡ w → (length ids ≡ 0) ⊎ (length vs ≡ 0) → written o p ≡ w
  unfolding pair_lines
  pairs_end [] vs left e = putting-end o p _ left refl
  pairs_end (id ∷ ids) [] left e = putting-end o p _ left refl
  pairs_end (id ∷ ids) (v ∷ vs) left (inl e) = no-case (omega (arith, e))
  pairs_end (id ∷ ids) (v ∷ vs) left (inr e) = no-case (omega (arith, e))

  pub pairs-more : (x y x' y' : ℤ) (ids vs ids' vs' : List ℤ) {o' : List ℕ} {p' : ℕ} → put_at o p (pair_lines ids vs) ≡ w
      → (ids ≡ x ∷ ids') × (vs ≡ y ∷ vs') → x' ≡ x → y' ≡ y → written o' p' ≡ put_at o p (pair_text x' y')
      → put_at o' p' (pair_lines ids' vs') ≡ w
  unfolding pair_lines
  pairs-more x y x' y' ids vs ids' vs' left h e f step =
      putting-more o p (pair_text x y) (pair_lines ids' vs') (rw (h.0, h.1) at left) (rw (e, f) at step)

  pub ratios-end : (ids : List ℤ) (ns ds : List ℕ) → put_at o p (ratio_lines ids ns ds) ≡ w
      → ((length ids ≡ 0) ⊎ (length ns ≡ 0)) ⊎ (length ds ≡ 0) → written o p ≡ w
  unfolding ratio_lines
  ratios-end [] ns ds left e = putting-end o p _ left refl
  ratios-end (id ∷ ids) [] ds left e = putting-end o p _ left refl
  ratios-end (id ∷ ids) (n ∷ ns) [] left e = putting-end o p _ left refl
  ratios-end (id ∷ ids) (n ∷ ns) (d ∷ ds) left (inl (inl e)) = no-case (omega (arith, e))
  ratios-end (id ∷ ids) (n ∷ ns) (d ∷ ds) left (inl (inr e)) = no-case (omega (arith, e))
  ratios-end (id ∷ ids) (n ∷ ns) (d ∷ ds) left (inr e) = no-case (omega (arith, e))

  pub ratios-more : (x x' : ℤ) (n d : ℕ) (ids ids' : List ℤ) (ns ds ns' ds' : List ℕ) {o' : List ℕ} {p' : ℕ}
      → put_at o p (ratio_lines ids ns ds) ≡ w → ((ids ≡ x ∷ ids') × (ns ≡ n ∷ ns')) × (ds ≡ d ∷ ds') → x' ≡ x
      → written o' p' ≡ put_at o p (ratio_text x' n d) → put_at o' p' (ratio_lines ids' ns' ds') ≡ w
  unfolding ratio_lines
  ratios-more x x' n d ids ids' ns ds ns' ds' left h e step =
      putting-more o p (ratio_text x n d) (ratio_lines ids' ns' ds') (rw (h.0.0, h.0.1, h.1) at left) (rw e at step)
