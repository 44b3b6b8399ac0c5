-- Laws of tests: what a conjunction of tests says of each, and a test by its two cases. Assumes nothing.
use mathlib.Core.Path.{◌≡◌, refl, sym, ap, ◌∙◌}
use mathlib.Core.Logic.{◌⊎◌, inl, inr}
use mathlib.Core.Bool.{Bool, true, false, ◌&&◌, ◌||◌, false≢true}
use Prim.Native.Nat.{ℕ}
use native.Mathlib.Omega.{arith}
use lib.Dec.{eqb}
use borrow.Author.Tests.{eq-eqb, eqb-true}

-- a test that is both ways proves anything
pub clash {ℓ} : {X : Type ℓ} {t : Bool} → t ≡ true → t ≡ false → X
clash h g = absurd (false≢true (sym g ∙ h))

-- `no-case cc`: what is given says that two things of different make are the same
pub no-case {ℓ} : {X : Type ℓ} → ◌≡◌ {A = ℕ} 0 1 → X
no-case e = absurd (let z : ⊥ = omega arith in z)

pub false_of : (t : Bool) → (t ≡ true → ⊥) → t ≡ false
false_of true h = absurd (h refl)
false_of false h = refl

pub bool_cases {ℓ} : (t : Bool) (X : Type ℓ) → (t ≡ true → X) → (t ≡ false → X) → X
bool_cases true X f g = f refl
bool_cases false X f g = g refl

-- two tests that follow from each other are the same
pub same_test : (s t : Bool) → (s ≡ true → t ≡ true) → (t ≡ true → s ≡ true) → s ≡ t
same_test true t f g = sym (f refl)
same_test false true f g = g refl
same_test false false f g = refl

pub and_first : (s t : Bool) → (s && t) ≡ true → s ≡ true
and_first true t h = refl
and_first false t h = h

pub and_second : (s t : Bool) → (s && t) ≡ true → t ≡ true
and_second true t h = h
and_second false t h = clash h refl

pub and_both : {s t : Bool} → s ≡ true → t ≡ true → (s && t) ≡ true
and_both {s} {t} h g = ap (λ (x : Bool). x && t) h ∙ g

pub and-off : (s t : Bool) → t ≡ false → (s && t) ≡ false
and-off true t h = h
and-off false t h = refl

pub and-swap : (s t : Bool) → (s && t) ≡ (t && s)
and-swap true true = refl
and-swap true false = refl
and-swap false true = refl
and-swap false false = refl

pub and_assoc : (r s t : Bool) → (r && (s && t)) ≡ ((r && s) && t)
and_assoc true s t = refl
and_assoc false s t = refl

pub or-first : (s t : Bool) → s ≡ true → (s || t) ≡ true
or-first s t h = ap (λ (x : Bool). x || t) h

pub or-second : (s t : Bool) → t ≡ true → (s || t) ≡ true
or-second true t h = refl
or-second false t h = h

pub or_cases : (s t : Bool) → (s || t) ≡ true → (s ≡ true) ⊎ (t ≡ true)
or_cases true t h = inl refl
or_cases false t h = inr h

pub or_assoc : (r s t : Bool) → (r || (s || t)) ≡ ((r || s) || t)
or_assoc true s t = refl
or_assoc false s t = refl

-- two numbers are equal exactly where two others are
pub eqb-by : (a b c d : ℕ) → (a ≡ b → c ≡ d) → (c ≡ d → a ≡ b) → eqb a b ≡ eqb c d
eqb-by a b c d f g = same_test (eqb a b) (eqb c d) (λ h. eq-eqb c d (f (eqb-true a b h))) (λ h. eq-eqb a b (g (eqb-true c d h)))

pub eqb_swap : (a b : ℕ) → eqb a b ≡ eqb b a
eqb_swap a b = eqb-by a b b a sym sym

-- after `if !f(..)`: what the answer t of a call says of the test b that it promises
pub failed : (t b : Bool) → t ≡ b → t ≡ false → b ≡ false
failed t b e h = sym e ∙ h

pub held : (t b : Bool) → t ≡ b → t ≡ true → b ≡ true
held t b e h = sym e ∙ h
