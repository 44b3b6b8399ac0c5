-- Laws of what a call says: what is given is not refused, a check, and a call that goes on from another. Assumes nothing.
use Prim.Native.Nat.{ℕ}
use mathlib.Core.Path.{◌≡◌, refl, sym, ap, ◌∙◌}
use mathlib.Core.Logic.{◌⊎◌, inl, inr}
use mathlib.Core.Bool.{Bool, true, false, cond}
use Rattle.basis.specs.declared.refusal.Refusal.{Refusal}
use Rattle.basis.specs.Refusal.{Said, gives, refuses, plain, onward, mapped, check}
use Rattle.basis.proofs.Tests.{no-case}

-- what has a way back is injective: an answer is determined by what it says
pub one_of : {A B : Type 0} (f : A → B) (g : B → A) → ((x : A) → g (f x) ≡ x) → (x y : A) → f x ≡ f y → x ≡ y
one_of f g h x y e = sym (h x) ∙ ap g e ∙ h y

pub refused-given {ℓ} : {X : Type ℓ} {A : Type 0} {r : Refusal} {x : A} → refuses r ≡ gives x → X
refused-given e = no-case cc

pub given-one : {A : Type 0} {x y : A} → gives x ≡ gives y → x ≡ y
given-one e = cc

-- ---- a check
module _ {A : Type 0} (t : Bool) (number : ℕ) (s : Said A) where
  pub check-on : t ≡ true → check t number s ≡ s
  check-on e = ap (λ (b : Bool). check b number s) e

  pub check-off : t ≡ false → check t number s ≡ refuses (plain number)
  check-off e = ap (λ (b : Bool). check b number s) e

-- what is given has passed the check
pub check-passed : {A : Type 0} (t : Bool) (number : ℕ) (s : Said A) (x : A) → check t number s ≡ gives x → (t ≡ true) × (s ≡ gives x)
check-passed true number s x e = (refl, e)
check-passed false number s x e = refused-given e

-- ---- a call that goes on from another
module _ {A B : Type 0} where
  -- what is given comes from what the other call gave
  pub onward-passed : (s : Said A) (f : A → Said B) (y : B) → onward s f ≡ gives y → (x : A) × (s ≡ gives x) × (f x ≡ gives y)
  onward-passed (gives x) f y e = (x, refl, e)
  onward-passed (refuses r) f y e = refused-given e

  -- a refusal is the other call's, or comes behind what it gave
  pub onward-refused : (s : Said A) (f : A → Said B) (r : Refusal) → onward s f ≡ refuses r
      → (s ≡ refuses r) ⊎ ((x : A) × (s ≡ gives x) × (f x ≡ refuses r))
  onward-refused (gives x) f r e = inr (x, refl, e)
  onward-refused (refuses q) f r e = inl (cc)

  pub mapped-gives : (f : A → B) (s : Said A) (y : B) → gives y ≡ mapped f s → (x : A) × (s ≡ gives x) × (y ≡ f x)
  mapped-gives f (gives x) y e = (x, refl, given-one e)
  mapped-gives f (refuses r) y e = refused-given (sym e)

  pub mapped-refuses : (f : A → B) (s : Said A) (r : Refusal) → refuses r ≡ mapped f s → s ≡ refuses r
  mapped-refuses f (gives x) r e = refused-given e
  mapped-refuses f (refuses q) r e = cc

-- ---- what is given has P, a refusal has R
abbrev pub Either : {A : Type 0} → (A → Type 0) → (Refusal → Type 0) → Said A → Type 0
Either P R (gives x) = P x
Either P R (refuses r) = R r

-- nothing more is known of what is given
abbrev pub Any : {A : Type 0} → A → Type 0
Any x = Unit {0}

pub either-refused : {A : Type 0} (P : A → Type 0) {R S : Refusal → Type 0} → ((r : Refusal) → R r → S r) → (x : Said A) → Either P R x
    → Either P S x
either-refused P f (gives x) h = h
either-refused P f (refuses r) h = f r h

pub either-cond : {A : Type 0} (P : A → Type 0) (R : Refusal → Type 0) (t : Bool) (x y : Said A) → (t ≡ true → Either P R x)
    → (t ≡ false → Either P R y)
    → Either P R (cond t x y)
either-cond P R true x y h g = h refl
either-cond P R false x y h g = g refl

pub either-onward : {A B : Type 0} (P : A → Type 0) (Q : B → Type 0) (R : Refusal → Type 0) (x : Said A) (f : A → Said B)
    → Either P R x → ((a : A) → P a → Either Q R (f a)) → Either Q R (onward x f)
either-onward P Q R (gives a) f h g = g a h
either-onward P Q R (refuses r) f h g = h

pub refused-onward : {A B : Type 0} (R : Refusal → Type 0) (x : Said A) (f : A → Said B) → Either Any R x → ((a : A) → Either Any R (f a))
    → Either Any R (onward x f)
refused-onward R x f h g = either-onward Any Any R x f h (λ a t. g a)
