-- Laws of the closure of a relation. Assumes nothing.
use Prim.Native.Nat.{ℕ}
use mathlib.Core.Path.{◌≡◌, refl, sym, ◌∙◌}
use Rattle.basis.specs.Closure.{Linked, itself, by, back, on}

-- a value that the relation keeps is kept along a chain
pub linked-keeps : {A : Type 0} {R : ℕ → ℕ → Type 0} (f : ℕ → A) → ((x y : ℕ) → R x y → f x ≡ f y) → {u v : ℕ} → Linked R u v → f u ≡ f v
linked-keeps f k (itself v) = refl
linked-keeps f k (by {u = u} {v = v} r) = k u v r
linked-keeps f k (back l) = sym (linked-keeps f k l)
linked-keeps f k (on l m) = linked-keeps f k l ∙ linked-keeps f k m

-- a chain each of whose steps is a chain of another relation is one of that
pub linked-through : {R S : ℕ → ℕ → Type 0} → ((x y : ℕ) → R x y → Linked S x y) → {u v : ℕ} → Linked R u v → Linked S u v
linked-through f (itself v) = itself v
linked-through f (by {u = u} {v = v} r) = f u v r
linked-through f (back l) = back (linked-through f l)
linked-through f (on l m) = on (linked-through f l) (linked-through f m)

-- so it is where the other relation holds more often
pub linked-within : {R S : ℕ → ℕ → Type 0} → ((x y : ℕ) → R x y → S x y) → {u v : ℕ} → Linked R u v → Linked S u v
linked-within f l = linked-through (λ x y r. by (f x y r)) l
