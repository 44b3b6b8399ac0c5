-- Laws of Euclid's rule: its own step, that it divides both, that it is the greatest, and lowest terms. Assumes nothing.
use mathlib.Core.Path.{◌≡◌, refl, sym, ap, ◌∙◌, subst}
use Prim.Native.Nat.{ℕ, zero, suc, ◌*◌, ◌/◌, ◌%◌, ◌≤◌, ◌<◌, ◌∣◌}
use native.Mathlib.Nat.{mod-lt, dvd_refl, dvd_antisymm, dvd-mul_right, dvd-zero, dvd-mod_iff, pos_of_dvd_of_pos}
use native.Mathlib.Nat.{mul-dvd-mul_left, mul-div_cancel', div-mul_cancel, dvd_of_mul-dvd-mul_left}
use native.Mathlib.Nat.{eq-one_of_dvd-one, mul-one, zero-div, div_self, div-zero, mul_assoc}
use native.Mathlib.Omega.{arith}
use Rattle.lcc.specs.Ratio.{Lowest, euclid, gcd_of, lowest}

-- more steps than enough change nothing
enough : (k m a b : ℕ) → b ≤ k → b ≤ m → euclid k a b ≡ euclid m a b
unfolding euclid
enough zero zero a b p q = refl
enough zero (suc m) a zero p q = refl
enough zero (suc m) a (suc b) p q = absurd (omega arith)
enough (suc k) zero a zero p q = refl
enough (suc k) zero a (suc b) p q = absurd (omega arith)
enough (suc k) (suc m) a zero p q = refl
enough (suc k) (suc m) a (suc b) p q =
    let h : a % suc b < suc b = mod-lt a (omega arith) in
    enough k m (suc b) (a % suc b) (omega arith) (omega arith)

pub gcd-zero : (a : ℕ) → gcd_of a 0 ≡ a
unfolding gcd_of euclid
gcd-zero a = refl

pub gcd-step : (a b : ℕ) → 0 < b → gcd_of a b ≡ gcd_of b (a % b)
unfolding gcd_of euclid
gcd-step a zero h = absurd (omega arith)
gcd-step a (suc b) h =
    let l : a % suc b < suc b = mod-lt a (omega arith) in
    enough b (a % suc b) (suc b) (a % suc b) (omega arith) (omega arith)

-- it divides both
euclid-divides : (k a b : ℕ) → b ≤ k → (euclid k a b ∣ a) × (euclid k a b ∣ b)
unfolding euclid
euclid-divides zero a zero h = (dvd_refl a, dvd-zero a)
euclid-divides zero a (suc b) h = absurd (omega arith)
euclid-divides (suc k) a zero h = (dvd_refl a, dvd-zero a)
euclid-divides (suc k) a (suc b) h =
    let l : a % suc b < suc b = mod-lt a (omega arith) in
    let i = euclid-divides k (suc b) (a % suc b) (omega arith) in
    ((dvd-mod_iff (euclid k (suc b) (a % suc b)) i.0).0 i.1, i.0)

-- and every divisor of both divides it
euclid-greatest : (k a b d : ℕ) → b ≤ k → d ∣ a → d ∣ b → d ∣ euclid k a b
unfolding euclid
euclid-greatest zero a b d h p q = p
euclid-greatest (suc k) a zero d h p q = p
euclid-greatest (suc k) a (suc b) d h p q =
    let l : a % suc b < suc b = mod-lt a (omega arith) in
    euclid-greatest k (suc b) (a % suc b) d (omega arith) q ((dvd-mod_iff d q).1 p)

pub gcd-left : (a b : ℕ) → gcd_of a b ∣ a
unfolding gcd_of
gcd-left a b = (euclid-divides b a b (omega arith)).0

pub gcd-right : (a b : ℕ) → gcd_of a b ∣ b
unfolding gcd_of
gcd-right a b = (euclid-divides b a b (omega arith)).1

pub gcd-greatest : (a b d : ℕ) → d ∣ a → d ∣ b → d ∣ gcd_of a b
unfolding gcd_of
gcd-greatest a b d = euclid-greatest b a b d (omega arith)

pub gcd-pos : (a b : ℕ) → 0 < b → 0 < gcd_of a b
gcd-pos a b h = pos_of_dvd_of_pos (gcd-right a b) h

-- the fraction is the same, and in lowest terms; zero is 0/1
module _ (a b : ℕ) (p : 0 < b) where
  pub reduce-same : (lowest a b).numerator * b ≡ a * (lowest a b).denominator
  unfolding lowest
  reduce-same =
      let g = gcd_of a b in
      let x : a / g * g ≡ a = div-mul_cancel g (gcd-left a b) in
      let y : g * (b / g) ≡ b = mul-div_cancel' g (gcd-right a b) in
      ap (λ (k : ℕ). a / g * k) (sym y) ∙ sym (mul_assoc (a / g) g (b / g)) ∙ ap (λ (k : ℕ). k * (b / g)) x

  pub reduce-pos : 0 < (lowest a b).denominator
  unfolding lowest
  reduce-pos =
      let g = gcd_of a b in
      let d : b / g ∣ b = subst (λ (k : ℕ). b / g ∣ k) (div-mul_cancel g (gcd-right a b)) (dvd-mul_right (b / g) g) in
      pos_of_dvd_of_pos d p

  -- what divides both sides divides both a and b that often more, so it divides the greatest divisor that often more
  pub reduce-lowest : Lowest (lowest a b)
  unfolding lowest
  reduce-lowest d m n =
      let g = gcd_of a b in
      let x : g * d ∣ a = subst (λ (k : ℕ). g * d ∣ k) (mul-div_cancel' g (gcd-left a b)) (mul-dvd-mul_left d g m) in
      let y : g * d ∣ b = subst (λ (k : ℕ). g * d ∣ k) (mul-div_cancel' g (gcd-right a b)) (mul-dvd-mul_left d g n) in
      let z : g * d ∣ g * 1 = subst (λ (k : ℕ). g * d ∣ k) (sym (mul-one g)) (gcd-greatest a b (g * d) x y) in
      eq-one_of_dvd-one (dvd_of_mul-dvd-mul_left d (gcd-pos a b p) z)

pub reduce-zero : (b : ℕ) → 0 < b → ((lowest 0 b).numerator ≡ 0) × ((lowest 0 b).denominator ≡ 1)
unfolding lowest
reduce-zero b p =
    let e : gcd_of 0 b ≡ b = dvd_antisymm (gcd-right 0 b) (gcd-greatest 0 b b (dvd-zero b) (dvd_refl b)) in
    (zero-div (gcd_of 0 b), ap (λ (k : ℕ). b / k) e ∙ div_self p)

-- what the code computes, once it has the divisor
pub reduce-by : (a b : ℕ) {g : ℕ} → g ≡ gcd_of a b → record { numerator = a / g; denominator = b / g } ≡ lowest a b
unfolding lowest
reduce-by a b e = ap (λ (g : ℕ). record { numerator = a / g; denominator = b / g }) e

pub reduce-none : (a b : ℕ) {g : ℕ} → g ≡ gcd_of a b → g ≡ 0 → record { numerator = 0; denominator = 0 } ≡ lowest a b
reduce-none a b {g} e z =
    let p : a / g ≡ 0 = rw z (div-zero a) in let q : b / g ≡ 0 = rw z (div-zero b) in
    let r : record { numerator = a / g; denominator = b / g } ≡ lowest a b = reduce-by a b e in
    rw (p, q) at r
