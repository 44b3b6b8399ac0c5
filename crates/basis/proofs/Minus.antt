-- Laws of minus a number: its range, and how the machine makes it. Assumes nothing.
use mathlib.Core.Path.{◌≡◌, ap, ◌∙◌}
use Prim.Native.Nat.{ℕ, zero, suc, ◌^◌, ◌≤◌, ◌<◌}
use native.Mathlib.Omega.{arith}
use lib.IntN.{ℤ, pos, neg_ℤ, ◌-ℤ◌, +ℤ_idl}
use lib.Signed.{mag}
use mir.Syntax.{w64}
use mir.Val.{SFits, to_z, of_z}
use mir.Facts.{to_z-of_z}
use mir.ValLaws.{to_z_pos}

pub mag-minus : (n : ℕ) → n ≤ 2 ^ 63 → mag (neg_ℤ (pos n)) < 2 ^ 63
mag-minus zero h = omega arith
mag-minus (suc n) h = omega arith

-- 0 - n as the machine has it
module _ (n : ℕ) (h : n < 2 ^ 63) where
  minus_is : pos 0 -ℤ to_z w64 n ≡ neg_ℤ (pos n)
  minus_is = ap (λ (z : ℤ). pos 0 -ℤ z) (to_z_pos w64 n h) ∙ +ℤ_idl (neg_ℤ (pos n))

  pub minus-fits : SFits w64 (pos 0 -ℤ to_z w64 n)
  minus-fits = rw minus_is (record { sfits = mag-minus n (omega arith) })

  pub minus-again : to_z w64 (of_z w64 (pos 0 -ℤ to_z w64 n)) ≡ neg_ℤ (pos n)
  minus-again = to_z-of_z minus-fits ∙ minus_is
