-- Laws of the first number that passes a test. Assumes nothing.
use Prim.Native.Nat.{ℕ, zero, suc, ◌+◌, ◌≤◌, ◌<◌}
use mathlib.Core.Path.{◌≡◌, refl, sym, ◌∙◌, subst}
use mathlib.Core.Logic.{⊎_elim}
use mathlib.Core.Bool.{Bool, true, false}
use native.Mathlib.Nat.{eq-or-lt_of_le}
use native.Mathlib.Omega.{arith}
use Rattle.basis.specs.Scan.{first_from}
use Rattle.basis.proofs.Tests.{clash}

-- u is the first from k on that passes the test, and not behind v
pub record First (p : ℕ → Bool) (k v u : ℕ) : Type 0 where
  pub passes : p u ≡ true
  pub most : u ≤ v
  pub least : (i : ℕ) → k ≤ i → i < u → p i ≡ true → ⊥

module _ (p : ℕ → Bool) (f k : ℕ) where
  first-here : p k ≡ true → first_from p (suc f) k ≡ k
  unfolding first_from
  first-here e = rw (first_from, e)

  first-later : p k ≡ false → first_from p (suc f) k ≡ first_from p f (suc k)
  unfolding first_from
  first-later e = rw (first_from, e)

-- where some v passes, the scan answers the first that does
pub first-is : (p : ℕ → Bool) (f k v : ℕ) → k ≤ v → v < k + f → p v ≡ true → First p k v (first_from p f k)
first-is p zero k v l h t = absurd (omega arith)
first-is p (suc f) k v l h t = go (p k) refl (λ g. first-is p f (suc k) v g (omega arith) t)
  where
    go : (b : Bool) → p k ≡ b → (suc k ≤ v → First p (suc k) v (first_from p f (suc k))) → First p k v (first_from p (suc f) k)
    go true e r = subst (First p k v) (sym (first-here p f k e)) (record { passes = e; most = l; least = λ i a b s. omega arith })
    go false e r =
        let none : (i : ℕ) → k ≡ i → p i ≡ true → ⊥ = λ i q s. clash (subst (λ (x : ℕ). p x ≡ true) (sym q) s) e in
        let F = r (⊎_elim (λ q. absurd (none v q t)) (λ g. g) (eq-or-lt_of_le l)) in
        subst (First p k v) (sym (first-later p f k e)) (record {
          passes = F.passes;
          most = F.most;
          least = λ i a b s. ⊎_elim (λ q. none i q s) (λ g. F.least i g b s) (eq-or-lt_of_le a);
        })

-- where none passes, it answers the end of its scan
pub first-none : (p : ℕ → Bool) (f k : ℕ) → ((i : ℕ) → p i ≡ false) → first_from p f k ≡ k + f
unfolding first_from
first-none p zero k h = omega arith
first-none p (suc f) k h = first-later p f k (h k) ∙ first-none p f (suc k) h ∙ omega arith
