-- Laws of an entry: a signed number as the machine reads it off the area, and a size as it is written there. Assumes nothing.
use mathlib.Core.Path.{◌≡◌, refl, sym, ap, ap₂, ◌∙◌}
use mathlib.Core.Bool.{true, false}
use mathlib.Core.List.{List}
use Prim.Native.Nat.{ℕ, zero, suc, ◌+◌, ◌^◌, ◌≤◌, ◌<◌, min}
use native.Mathlib.Omega.{arith}
use lib.IntN.{ℤ, pos, negsuc, neg_ℤ, nat_abs, ◌-ℤ◌, +ℤ_idl}
use lib.Signed.{mag, lt_z, non_neg}
use lib.Dec.{T, ltb}
use lib.ListN.{length, get_or}
use mir.Syntax.{w64}
use mir.Val.{Fits, SFits, to_z, of_z}
use mir.Facts.{to_z-of_z}
use borrow.Author.Tests.{ltb-true, ltb-false, lt-ltb, le-ltb}
use Rattle.basis.proofs.Tests.{clash, no-case, same_test}
use Rattle.basis.proofs.Minus.{minus-fits, minus-again}
use Rattle.book.specs.Rules.{stop, to, is_stop}
use Rattle.book.specs.One.{next_of, size_of, next_here, size_here}
use Rattle.book.specs.Steps.{AtHead}

-- ---- minus a size

pub minus-head : (n : ℕ) → 0 < n → next_of (neg_ℤ (pos n)) ≡ stop
minus-head zero h = absurd (omega arith)
minus-head (suc n) h = refl

pub minus-size : (n : ℕ) → size_of (neg_ℤ (pos n)) ≡ n
minus-size zero = refl
minus-size (suc n) = refl

-- a head's entry is below minus n exactly where the size that it says is above n
pub low-entry : (z : ℤ) (n : ℕ) → next_of z ≡ stop → lt_z z (neg_ℤ (pos n)) ≡ ltb n (size_of z)
low-entry (pos p) n e = no-case cc
low-entry (negsuc k) zero e = sym (lt-ltb 0 (suc k) (omega arith))
low-entry (negsuc k) (suc m) e =
    same_test (ltb m k) (ltb (suc m) (suc k)) (λ t. lt-ltb (suc m) (suc k) (let d = ltb-true m k t in omega arith))
    (λ t. lt-ltb m k (let d = ltb-true (suc m) (suc k) t in omega arith))

-- ---- the entry of v, as it is read
module _ (xs : List ℤ) (v : ℕ) (f : mag (get_or xs v (pos 0)) < 2 ^ 63) where
  abbrev z : ℤ
  z = get_or xs v (pos 0)

  again : to_z w64 (of_z w64 z) ≡ z
  again = to_z-of_z {w = w64} (record { sfits = f })

  pub head-test : lt_z (to_z w64 (of_z w64 z)) (pos 0) ≡ is_stop (next_here xs v)
  unfolding next_here
  head-test = ap (λ (x : ℤ). lt_z x (pos 0)) again ∙ go z
    where
      go : (x : ℤ) → lt_z x (pos 0) ≡ is_stop (next_of x)
      go (pos n) = le-ltb n 0 (omega arith)
      go (negsuc k) = refl

  -- v is no head
  module _ (h : is_stop (next_here xs v) ≡ false) where
    is-parent : (p : ℕ) × (z ≡ pos p) × (p < 2 ^ 63)
    unfolding next_here
    is-parent = go z f h
      where
        go : (x : ℤ) → mag x < 2 ^ 63 → is_stop (next_of x) ≡ false → (p : ℕ) × (x ≡ pos p) × (p < 2 ^ 63)
        go (pos p) l e = (p, refl, l)
        go (negsuc k) l e = clash refl e

    pub parent-cast : T (non_neg (to_z w64 (of_z w64 z))) × Fits w64 (nat_abs (to_z w64 (of_z w64 z)))
    parent-cast = rw (again ∙ is-parent.1) (tt, record { fits = omega (arith, is-parent.2) })

    pub parent_is : next_here xs v ≡ to (nat_abs (to_z w64 (of_z w64 z)))
    unfolding next_here
    parent_is = ap next_of is-parent.1 ∙ ap (λ (x : ℤ). to (nat_abs x)) (sym (again ∙ is-parent.1))

  -- v is a head of an area that is well lent
  module _ (x : AtHead xs v) where
    few : length xs < 2 ^ 63
    few = omega (arith, x.lent)

    pub length-fits : SFits w64 (pos 0 -ℤ to_z w64 (length xs))
    length-fits = minus-fits (length xs) few

    below-minus : lt_z (to_z w64 (of_z w64 z)) (to_z w64 (of_z w64 (pos 0 -ℤ to_z w64 (length xs)))) ≡ ltb (length xs) (size_here xs v)
    unfolding next_here size_here
    below-minus = ap₂ lt_z again (minus-again (length xs) few) ∙ low-entry z (length xs) x.head

    pub size_above : lt_z (to_z w64 (of_z w64 z)) (to_z w64 (of_z w64 (pos 0 -ℤ to_z w64 (length xs)))) ≡ true
        → length xs + 1 ≡ min (size_here xs v) (length xs + 1)
    size_above t = let d = ltb-true (length xs) (size_here xs v) (sym below-minus ∙ t) in omega arith

    module _ (t : lt_z (to_z w64 (of_z w64 z)) (to_z w64 (of_z w64 (pos 0 -ℤ to_z w64 (length xs)))) ≡ false) where
      within : size_here xs v ≤ length xs
      within = ltb-false (length xs) (size_here xs v) (sym below-minus ∙ t)

      turned : pos 0 -ℤ to_z w64 (of_z w64 z) ≡ pos (size_here xs v)
      unfolding next_here size_here
      turned = ap (λ (y : ℤ). pos 0 -ℤ y) again ∙ +ℤ_idl (neg_ℤ z) ∙ go z x.head
        where
          go : (y : ℤ) → next_of y ≡ stop → neg_ℤ y ≡ pos (size_of y)
          go (pos p) e = no-case cc
          go (negsuc k) e = refl

      pub size_fits : SFits w64 (pos 0 -ℤ to_z w64 (of_z w64 z))
      size_fits = rw turned (record { sfits = omega (arith, within, few) })

      size-again : to_z w64 (of_z w64 (pos 0 -ℤ to_z w64 (of_z w64 z))) ≡ pos (size_here xs v)
      size-again = to_z-of_z size_fits ∙ turned

      pub size-cast : T (non_neg (to_z w64 (of_z w64 (pos 0 -ℤ to_z w64 (of_z w64 z)))))
          × Fits w64 (nat_abs (to_z w64 (of_z w64 (pos 0 -ℤ to_z w64 (of_z w64 z)))))
      size-cast = rw size-again (tt, record { fits = omega (arith, within, few) })

      pub size-read : nat_abs (to_z w64 (of_z w64 (pos 0 -ℤ to_z w64 (of_z w64 z)))) ≡ min (size_here xs v) (length xs + 1)
      size-read = ap nat_abs size-again ∙ omega (arith, within)
