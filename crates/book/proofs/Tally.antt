-- Laws of `tally`, the count of the numbers below n that pass a test. Assumes nothing.
use mathlib.Core.Path.{◌≡◌, refl, ap, ◌∙◌}
use mathlib.Core.Bool.{Bool, true, false, cond}
use Prim.Native.Nat.{ℕ, zero, suc, ◌+◌, ◌≤◌, ◌<◌}
use native.Mathlib.Omega.{arith}
use native.Mathlib.Decide.{ℕ_discrete}
use lib.Dec.{eqb}
use borrow.Author.Tests.{eq-eqb, ne_eqb}
use Rattle.basis.specs.Scan.{bit}
use Rattle.book.specs.Rules.{tally}

pub tally-yes : (p : ℕ → Bool) (i : ℕ) → p i ≡ true → tally p (suc i) ≡ suc (tally p i)
unfolding tally
tally-yes p i e = simp e

pub tally-no : (p : ℕ → Bool) (i : ℕ) → p i ≡ false → tally p (suc i) ≡ tally p i
unfolding tally
tally-no p i e = simp e

cond-le : (b : Bool) (t n : ℕ) → t ≤ n → cond b (suc t) t ≤ suc n
cond-le true t n h = omega arith
cond-le false t n h = omega arith

pub tally-le : (p : ℕ → Bool) (n : ℕ) → tally p n ≤ n
unfolding tally
tally-le p zero = omega arith
tally-le p (suc n) = cond-le (p n) (tally p n) n (tally-le p n)

cond-bit : (b : Bool) (t : ℕ) → cond b (suc t) t ≡ bit b + t
cond-bit true t = omega arith
cond-bit false t = omega arith

pub tally-step : (p : ℕ → Bool) (n : ℕ) → tally p (suc n) ≡ bit (p n) + tally p n
unfolding tally
tally-step p n = cond-bit (p n) (tally p n)

-- a test that is the sum of two others
pub tally-sum : (p q r : ℕ → Bool) (n : ℕ) → ((x : ℕ) → x < n → bit (r x) ≡ bit (p x) + bit (q x)) → tally r n ≡ tally p n + tally q n
unfolding tally
tally-sum p q r zero h = refl
tally-sum p q r (suc n) h =
    omega (arith, tally-step p n, tally-step q n, tally-step r n, h n (omega arith), tally-sum p q r n (λ x l. h x (omega arith)))

-- two tests that never hold together
pub tally-apart : (p q : ℕ → Bool) (n : ℕ) → ((x : ℕ) → x < n → bit (p x) + bit (q x) ≤ 1) → tally p n + tally q n ≤ n
unfolding tally
tally-apart p q zero h = omega arith
tally-apart p q (suc n) h = omega (arith, tally-step p n, tally-step q n, h n (omega arith), tally-apart p q n (λ x l. h x (omega arith)))

pub tally-same : (p q : ℕ → Bool) (n : ℕ) → ((x : ℕ) → x < n → p x ≡ q x) → tally p n ≡ tally q n
unfolding tally
tally-same p q zero h = refl
tally-same p q (suc n) h =
    omega (arith, tally-step p n, tally-step q n, ap bit (h n (omega arith)), tally-same p q n (λ x l. h x (omega arith)))

pub tally-all : (p : ℕ → Bool) (n : ℕ) → ((x : ℕ) → x < n → p x ≡ true) → tally p n ≡ n
unfolding tally
tally-all p zero h = refl
tally-all p (suc n) h = omega (arith, tally-step p n, ap bit (h n (omega arith)), tally-all p n (λ x l. h x (omega arith)))

pub tally-none : (p : ℕ → Bool) (n : ℕ) → ((x : ℕ) → x < n → p x ≡ false) → tally p n ≡ 0
unfolding tally
tally-none p zero h = refl
tally-none p (suc n) h = omega (arith, tally-step p n, ap bit (h n (omega arith)), tally-none p n (λ x l. h x (omega arith)))

-- one number equals h
pub tally-one : (h n : ℕ) → h < n → tally (λ x. eqb x h) n ≡ 1
tally-one h zero l = absurd (omega arith)
tally-one h (suc n) l = go (ℕ_discrete n h) (λ m. tally-one h n m)
  where
    go : Dec (n ≡ h) → (h < n → tally (λ x. eqb x h) n ≡ 1) → tally (λ x. eqb x h) (suc n) ≡ 1
    go (yes q) ih =
        omega (
          arith,
          tally-step (λ x. eqb x h) n,
          ap bit (eq-eqb n h q),
          tally-none (λ x. eqb x h) n (λ x m. ne_eqb x h (λ r. omega arith)),
        )
    go (no q) ih = omega (arith, tally-step (λ x. eqb x h) n, ap bit (ne_eqb n h q), ih (omega arith))

-- a test that one number less passes
pub tally-less : (p q : ℕ → Bool) (y n : ℕ) → y < n → p y ≡ false → q y ≡ true → ((x : ℕ) → (x ≡ y → ⊥) → p x ≡ q x)
    → tally q n ≡ tally p n + 1
tally-less p q y n l a b h = omega (arith, tally-one y n l, tally-sum p (λ x. eqb x y) q n (λ x _. go x (ℕ_discrete x y)))
  where
    go : (x : ℕ) → Dec (x ≡ y) → bit (q x) ≡ bit (p x) + bit (eqb x y)
    go x (yes r) = simp (eq-eqb _ _ r, ap q r ∙ b, ap p r ∙ a)
    go x (no r) = simp (ne_eqb _ _ r, h x r) (omega arith)
