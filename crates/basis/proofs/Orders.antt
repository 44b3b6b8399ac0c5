-- Laws of order, over any type with a test for same and one for less; numbers and signed numbers are two of them. Assumes nothing.
use Prim.Native.Nat.{ℕ, zero, suc, ◌-◌, ◌^◌, ◌<◌, min}
use mathlib.Core.Path.{◌≡◌, refl, sym, ap, ◌∙◌, subst}
use mathlib.Core.Bool.{Bool, true, false, ◌&&◌}
use mathlib.Core.List.{List, [], ◌∷◌}
use native.Mathlib.Omega.{arith}
use native.Mathlib.Nat.{not-suc-le-zero}
use native.Mathlib.Decide.{ℕ_discrete, dec_lt}
use lib.IntN.{ℤ, pos, negsuc}
use lib.ListN.{length, get_or}
use lib.Signed.{lt_z, mag}
use lib.Dec.{eqb, leb, ltb}
use mir.Syntax.{w64}
use mir.Val.{of_z, hbits}
use borrow.Author.Tests.{eq-eqb, ne_eqb, eqb-true, eqb-false, lt-ltb, le-ltb, ltb-true, ltb-false, le-leb, leb-true}
use Rattle.basis.specs.Order.{same_z, above_by, rising_by, rising}
use Rattle.basis.proofs.Tests.{clash, false_of, bool_cases, same_test, and_first, and_second, and_both}

-- what the two tests must be
pub record Order {A : Type 0} (same less : A → A → Bool) : Type 0 where
  pub same_refl : (a : A) → same a a ≡ true
  pub same-eq : (a b : A) → same a b ≡ true → a ≡ b
  pub less-not : (a : A) → less a a ≡ false
  pub less-asym : (a b : A) → less a b ≡ true → less b a ≡ false
  pub less-down : (a b c : A) → less a b ≡ false → less b c ≡ false → less a c ≡ false
  pub less-eq : (a b : A) → less a b ≡ false → less b a ≡ false → a ≡ b

-- ---- what follows for every such order
module _ {A : Type 0} {same less : A → A → Bool} (order : Order same less) where
  pub less-trans : (a b c : A) → less a b ≡ true → less b c ≡ true → less a c ≡ true
  less-trans a b c h k =
      bool_cases (less a c) (less a c ≡ true) (λ e. e) (λ e. clash h (order.less-down a c b e (order.less-asym b c k)))

  -- a number below another, either way, is not the same
  pub less-differs : (a b : A) → less a b ≡ true → same a b ≡ false
  less-differs a b h =
      false_of (same a b) (λ e. clash (subst (λ (x : A). less a x ≡ true) (sym (order.same-eq a b e)) h) (order.less-not a))

  pub more-differs : (a b : A) → less b a ≡ true → same a b ≡ false
  more-differs a b h =
      false_of (same a b) (λ e. clash (subst (λ (x : A). less x a ≡ true) (sym (order.same-eq a b e)) h) (order.less-not a))

-- ---- lists that rise, by neighbours and by pairs
module _ {A : Type 0} (less : A → A → Bool) (z : A) where
  above_at : (x : A) (l : List A) → above_by less x l ≡ true → (i : ℕ) → i < length l → less (get_or (x ∷ l) i z) (get_or l i z) ≡ true
  above_at x [] h i g = absurd (not-suc-le-zero g)
  above_at x (y ∷ l) h zero g = and_first (less x y) (above_by less y l) h
  above_at x (y ∷ l) h (suc i) g = above_at y l (and_second (less x y) (above_by less y l) h) i (omega arith)

  above_of : (x : A) (l : List A) → ((i : ℕ) → i < length l → less (get_or (x ∷ l) i z) (get_or l i z) ≡ true) → above_by less x l ≡ true
  above_of x [] h = refl
  above_of x (y ∷ l) h = and_both (h 0 (omega arith)) (above_of y l (λ i g. h (suc i) (omega arith)))

  pub rising_by-of : (l : List A) → ((i : ℕ) → suc i < length l → less (get_or l i z) (get_or l (suc i) z) ≡ true) → rising_by less l ≡ true
  rising_by-of [] h = refl
  rising_by-of (x ∷ l) h = above_of x l (λ i g. h i (omega arith))

  pub rising_by-next : (l : List A) → rising_by less l ≡ true → (i : ℕ) → suc i < length l → less (get_or l i z) (get_or l (suc i) z) ≡ true
  rising_by-next [] h i g = absurd (not-suc-le-zero g)
  rising_by-next (x ∷ l) h i g = above_at x l h i (omega arith)

  pub rising_by-fail : (l : List A) (i : ℕ) → suc i < length l → less (get_or l i z) (get_or l (suc i) z) ≡ false → rising_by less l ≡ false
  rising_by-fail l i g h = false_of (rising_by less l) (λ e. clash (rising_by-next l e i g) h)

module _ {A : Type 0} {same less : A → A → Bool} (order : Order same less) (z : A) (l : List A) (r : rising_by less l ≡ true) where
  pub rising-less : (i j : ℕ) → i < j → j < length l → less (get_or l i z) (get_or l j z) ≡ true
  rising-less i zero a b = absurd (not-suc-le-zero a)
  rising-less i (suc j) a b =
      let s = rising_by-next less z l r j b in
      elim (ℕ_discrete i j) as (λ _. less (get_or l i z) (get_or l (suc j) z) ≡ true) [
        | yes q ↦ rw q s
        | no d ↦ less-trans order (get_or l i z) (get_or l j z) (get_or l (suc j) z) (rising-less i j (omega arith) (omega arith)) s
      ]

  -- the tests of two members are the tests of their places
  pub less-places : (i j : ℕ) → i < length l → j < length l → less (get_or l i z) (get_or l j z) ≡ ltb i j
  less-places i j a b =
      elim (dec_lt i j) as (λ _. less (get_or l i z) (get_or l j z) ≡ ltb i j) [
        | yes h ↦ rising-less i j h b ∙ sym (lt-ltb i j h)
        | no h ↦
            elim (ℕ_discrete i j) as (λ _. less (get_or l i z) (get_or l j z) ≡ ltb i j) [
              | yes q ↦ rw q (order.less-not (get_or l j z) ∙ sym (le-ltb j j (omega arith)))
              | no d ↦ order.less-asym (get_or l j z) (get_or l i z) (rising-less j i (omega arith) a) ∙ sym (le-ltb i j (omega arith))
            ]
      ]

  pub same-places : (i j : ℕ) → i < length l → j < length l → same (get_or l i z) (get_or l j z) ≡ eqb i j
  same-places i j a b =
      elim (ℕ_discrete i j) as (λ _. same (get_or l i z) (get_or l j z) ≡ eqb i j) [
        | yes q ↦ rw q (order.same_refl (get_or l j z) ∙ sym (eq-eqb j j refl))
        | no d ↦
            elim (dec_lt i j) as (λ _. same (get_or l i z) (get_or l j z) ≡ eqb i j) [
              | yes h ↦ less-differs order (get_or l i z) (get_or l j z) (rising-less i j h b) ∙ sym (ne_eqb i j d)
              | no h ↦ more-differs order (get_or l i z) (get_or l j z) (rising-less j i (omega arith) a) ∙ sym (ne_eqb i j d)
            ]
      ]

-- ---- numbers
pub number-order : Order eqb ltb
number-order =
    record {
      same_refl = λ a. eq-eqb a a refl;
      same-eq = eqb-true;
      less-not = λ a. le-ltb a a (omega arith);
      less-asym = λ a b h. let l = ltb-true a b h in le-ltb b a (omega arith);
      less-down = λ a b c h k. let l = ltb-false a b h in let m = ltb-false b c k in le-ltb a c (omega arith);
      less-eq = λ a b h k. let l = ltb-false a b h in let m = ltb-false b a k in omega arith;
    }

pub rising-lt : (l : List ℕ) → rising l ≡ true → (i j : ℕ) → i < j → j < length l → get_or l i 0 < get_or l j 0
rising-lt l r i j a b = ltb-true (get_or l i 0) (get_or l j 0) (rising-less number-order 0 l r i j a b)

-- at most the lesser of two is at most both
pub leb-min : (n a b : ℕ) → leb n (min a b) ≡ (leb n a && leb n b)
leb-min n a b =
    same_test (leb n (min a b)) (leb n a && leb n b)
    (λ h. let l = leb-true n (min a b) h in and_both (le-leb n a (omega arith)) (le-leb n b (omega arith)))
    (λ h. let k = leb-true n a (and_first (leb n a) (leb n b) h) in let l = leb-true n b (and_second (leb n a) (leb n b) h) in
    le-leb n (min a b) (omega arith))

-- ---- signed numbers
refl-z : (a : ℤ) → same_z a a ≡ true
refl-z (pos a) = eq-eqb a a refl
refl-z (negsuc a) = eq-eqb a a refl

same-z : (a b : ℤ) → same_z a b ≡ true → a ≡ b
same-z (pos a) (pos b) h = ap pos (eqb-true a b h)
same-z (pos a) (negsuc b) h = clash h refl
same-z (negsuc a) (pos b) h = clash h refl
same-z (negsuc a) (negsuc b) h = ap negsuc (eqb-true a b h)

not-z : (a : ℤ) → lt_z a a ≡ false
not-z (pos a) = le-ltb a a (omega arith)
not-z (negsuc a) = le-ltb a a (omega arith)

asym-z : (a b : ℤ) → lt_z a b ≡ true → lt_z b a ≡ false
asym-z (pos a) (pos b) h = number-order.less-asym a b h
asym-z (pos a) (negsuc b) h = clash h refl
asym-z (negsuc a) (pos b) h = refl
asym-z (negsuc a) (negsuc b) h = number-order.less-asym b a h

down-z : (a b c : ℤ) → lt_z a b ≡ false → lt_z b c ≡ false → lt_z a c ≡ false
down-z (pos a) (pos b) (pos c) h k = number-order.less-down a b c h k
down-z (pos a) (pos b) (negsuc c) h k = refl
down-z (pos a) (negsuc b) (pos c) h k = clash refl k
down-z (pos a) (negsuc b) (negsuc c) h k = refl
down-z (negsuc a) (pos b) c h k = clash refl h
down-z (negsuc a) (negsuc b) (pos c) h k = clash refl k
down-z (negsuc a) (negsuc b) (negsuc c) h k = number-order.less-down c b a k h

eq-z : (a b : ℤ) → lt_z a b ≡ false → lt_z b a ≡ false → a ≡ b
eq-z (pos a) (pos b) h k = ap pos (number-order.less-eq a b h k)
eq-z (pos a) (negsuc b) h k = clash refl k
eq-z (negsuc a) (pos b) h k = clash refl h
eq-z (negsuc a) (negsuc b) h k = ap negsuc (number-order.less-eq a b k h)

pub signed-order : Order same_z lt_z
signed-order = record { same_refl = refl-z; same-eq = same-z; less-not = not-z; less-asym = asym-z; less-down = down-z; less-eq = eq-z }

-- ---- the machine's bits of signed numbers are the same exactly where the numbers are
neg_inj : (a b : ℕ) → a < 2 ^ 63 → b < 2 ^ 63 → 2 ^ 64 - suc a ≡ 2 ^ 64 - suc b → a ≡ b
neg_inj a b h k e = omega arith

pos-neg : (a b : ℕ) → a < 2 ^ 63 → b < 2 ^ 63 → a ≡ 2 ^ 64 - suc b → ⊥
pos-neg a b h k e = omega arith

pub same_bits : (a b : ℤ) → mag a < 2 ^ hbits w64 → mag b < 2 ^ hbits w64 → eqb (of_z w64 a) (of_z w64 b) ≡ same_z a b
same_bits (pos a) (pos b) h k = refl
same_bits (pos a) (negsuc b) h k = ne_eqb a (2 ^ 64 - suc b) (pos-neg a b h k)
same_bits (negsuc a) (pos b) h k = ne_eqb (2 ^ 64 - suc a) b (λ e. pos-neg b a k h (sym e))
same_bits (negsuc a) (negsuc b) h k =
    bool_cases (eqb a b) (eqb (2 ^ 64 - suc a) (2 ^ 64 - suc b) ≡ eqb a b)
    (λ e. eq-eqb (2 ^ 64 - suc a) (2 ^ 64 - suc b) (ap (λ (x : ℕ). 2 ^ 64 - suc x) (eqb-true a b e)) ∙ sym e)
    (λ e. ne_eqb (2 ^ 64 - suc a) (2 ^ 64 - suc b) (λ q. eqb-false a b e (neg_inj a b h k q)) ∙ sym e)
