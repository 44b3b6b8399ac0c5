-- Tests of many: of every number below a bound, of each member of a list; and the first number that passes one.
use Rattle.std.specs.Prelude.{ℕ, zero, suc, ◌<◌, ◌≡◌, Bool, true, false, ◌&&◌, ◌||◌, List, [], ◌∷◌, eqb, ltb}

-- p holds of every number below n
unfoldable pub every : ℕ → (ℕ → Bool) → Bool
every zero p = true
every (suc n) p = every n p && p n

-- p holds of each member of a list
unfoldable pub each : {A : Type 0} → (A → Bool) → List A → Bool
each p [] = true
each p (x ∷ l) = p x && each p l

-- each member of a list is below n
abbrev pub all_below : ℕ → List ℕ → Bool
all_below n l = each (λ x. ltb x n) l

-- numbers u below n have lists of numbers below n: arcs that stay among n vertices
abbrev pub Inside : ℕ → (ℕ → List ℕ) → Type 0
Inside n out = (u : ℕ) → u < n → all_below n (out u) ≡ true

-- x is a member of a list
unfoldable pub mem : ℕ → List ℕ → Bool
mem x [] = false
mem x (y ∷ l) = eqb x y || mem x l

-- the first of two that is not 0: a line or a fault that is found already, or else another
abbrev pub or_else : ℕ → ℕ → ℕ
or_else zero y = y
or_else (suc n) y = suc n

-- a test as a number to count with: 1 where it holds, else 0
abbrev pub bit : Bool → ℕ
bit true = 1
bit false = 0

-- the first of k, k + 1, .. (f of them) that passes a test, else k + f
unfoldable pub first_from : (ℕ → Bool) → ℕ → ℕ → ℕ
first_from p zero k = k
first_from p (suc f) k = elim (p k) [ true ↦ k | false ↦ first_from p f (suc k) ]
