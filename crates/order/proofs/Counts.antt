-- Where the numbers that pass one test go to numbers that pass another, no two to one, no fewer pass the other. Assumes nothing.
use mathlib.Core.Path.{◌≡◌, refl}
use mathlib.Core.Bool.{Bool, true, false, cond}
use Prim.Native.Nat.{ℕ, zero, suc, ◌+◌, ◌≤◌, ◌<◌}
use native.Mathlib.Omega.{arith}
use lib.Dec.{eqb}
use borrow.Author.Tests.{eq-eqb, ne_eqb}
use Rattle.basis.proofs.Tests.{bool_cases}
use Rattle.book.specs.Rules.{tally}
use Rattle.book.proofs.Tally.{tally-yes, tally-no, tally-less}

-- the test without one number
abbrev but : ℕ → (ℕ → Bool) → ℕ → Bool
but y q x = cond (eqb x y) false (q x)

tally-but : (q : ℕ → Bool) (y n : ℕ) → y < n → q y ≡ true → tally q n ≡ tally (but y q) n + 1
tally-but q y n l e = tally-less (but y q) q y n l (simp (eq-eqb y y refl)) e (λ x r. simp (ne_eqb x y r))

-- where f sends the numbers that pass p to numbers that pass q, and no two to one, no fewer pass q
pub tally-into : (p q : ℕ → Bool) (f : ℕ → ℕ) (n m : ℕ)
    → ((x : ℕ) → x < n → p x ≡ true → (f x < m) × (q (f x) ≡ true))
    → ((x y : ℕ) → x < n → y < n → p x ≡ true → p y ≡ true → f x ≡ f y → x ≡ y)
    → tally p n ≤ tally q m
unfolding tally
tally-into p q f zero m into one = omega arith
tally-into p q f (suc n) m into one =
    bool_cases (p n) _
    (λ e. omega (
      arith,
      tally-yes p n e,
      tally-but q (f n) m (into n (omega arith) e).0 (into n (omega arith) e).1,
      tally-into p (but (f n) q) f n m (λ x l t. ((into x (omega arith) t).0, kept e x l t))
          (λ x y k l. one x y (omega arith) (omega arith)),
    ))
    (λ e. omega (
      arith,
      tally-no p n e,
      tally-into p q f n m (λ x l. into x (omega arith)) (λ x y k l. one x y (omega arith) (omega arith)),
    ))
  where
    kept : p n ≡ true → (x : ℕ) → x < n → p x ≡ true → but (f n) q (f x) ≡ true
    kept e x l t =
        let d : f x ≡ f n → ⊥ = λ r. (let z : x ≡ n = one x n (omega arith) (omega arith) t e r in omega arith) in
        simp (ne_eqb _ _ d) (into x (omega arith) t).1
