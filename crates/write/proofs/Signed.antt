-- Laws of the text of an identifier, by its size. Assumes nothing.
use Prim.Native.Nat.{ℕ, ◌<◌}
use mathlib.Core.Path.{◌≡◌, refl, ap, ◌∙◌}
use mathlib.Core.Bool.{true, false}
use mathlib.Core.List.{List, [], ◌∷◌}
use native.Mathlib.Omega.{arith}
use borrow.Author.Tests.{ltb-true}
use lib.IntN.{ℤ, pos, negsuc, nat_abs}
use lib.Signed.{lt_z}
use mir.Syntax.{w64}
use mir.Val.{to_z, of_z, SFits}
use mir.ValLaws.{to_z-of_z}
use Rattle.basis.proofs.Tests.{clash}
use Rattle.write.specs.Put.{written, put_at}
use Rattle.write.specs.Number.{count_text, signed_text}
use Rattle.write.proofs.Puts.{put_then, put_as}

low-text : (z : ℤ) → lt_z z (pos 0) ≡ true → 45 ∷ count_text (nat_abs z) ≡ signed_text z
unfolding signed_text
low-text (pos n) e = let h : n < 0 = ltb-true n 0 e in absurd (omega arith)
low-text (negsuc n) e = refl

high-text : (z : ℤ) → lt_z z (pos 0) ≡ false → count_text (nat_abs z) ≡ signed_text z
unfolding signed_text
high-text (pos n) e = refl
high-text (negsuc n) e = clash refl e

-- z as the machine holds it, and its size m
module _ (z : ℤ) (f : SFits w64 z) (m : ℕ) (size : m ≡ nat_abs (to_z w64 (of_z w64 z))) (o : List ℕ) (at : ℕ) {o' : List ℕ} {p : ℕ} where
  pub signed_low : {o'' : List ℕ} {r : ℕ} → lt_z (to_z w64 (of_z w64 z)) (pos 0) ≡ true
      → written o' p ≡ put_at o at (45 ∷ []) → written o'' r ≡ put_at o' p (count_text m) → written o'' r ≡ put_at o at (signed_text z)
  signed_low e x y =
      put_as o at (45 ∷ count_text m) (put_then o at (45 ∷ []) x (count_text m) y) (signed_text z)
      (ap (λ k. 45 ∷ count_text k) (size ∙ ap nat_abs (to_z-of_z w64 z f)) ∙ low-text z (rw (to_z-of_z w64 z f) at e))

  pub signed_high : lt_z (to_z w64 (of_z w64 z)) (pos 0) ≡ false → written o' p ≡ put_at o at (count_text m)
      → written o' p ≡ put_at o at (signed_text z)
  signed_high e x =
      put_as o at (count_text m) x (signed_text z)
      (ap count_text (size ∙ ap nat_abs (to_z-of_z w64 z f)) ∙ high-text z (rw (to_z-of_z w64 z f) at e))
