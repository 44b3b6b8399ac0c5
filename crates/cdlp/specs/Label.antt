-- The rules "Kernels" and Graphalytics 1.0.4, 2.3.4: a vertex's next label, from the labels of its neighbours.
use Rattle.std.specs.Prelude.{ℕ, ◌+◌, max, Bool, cond, List, [], ◌∷◌, eqb}
use Rattle.basis.specs.Scan.{bit}

-- labels of any kind, with a test for equal ones
module _ {A : Type 0} (same : A → A → Bool) where
  -- "the frequency": how many of the labels are l
  unfoldable pub times : A → List A → ℕ
  times l [] = 0
  times l (x ∷ ls) = bit (same l x) + times l ls

  -- "the maximum frequency": the greatest number of times that one of cs stands in ls
  unfoldable pub most_times : List A → List A → ℕ
  most_times ls [] = 0
  most_times ls (c ∷ cs) = max (times c ls) (most_times ls cs)

  -- those of cs that stand k times in ls
  unfoldable pub standing : ℕ → List A → List A → List A
  standing k ls [] = []
  standing k ls (c ∷ cs) = cond (eqb (times c ls) k) (c ∷ standing k ls cs) (standing k ls cs)

  -- arg max: the labels of ls that stand in it most often
  unfoldable pub most_common : List A → List A
  most_common ls = standing (most_times ls ls) ls ls

-- labels of any kind, with a test for smaller ones
module _ {A : Type 0} (less : A → A → Bool) where
  -- min: the smallest of a and cs
  unfoldable pub smallest : A → List A → A
  smallest a [] = a
  smallest a (c ∷ cs) = smallest (cond (less c a) c a) cs

  -- the smallest of a list, or own where it is empty
  unfoldable pub smallest_or : A → List A → A
  smallest_or own [] = own
  smallest_or own (c ∷ cs) = smallest c cs

-- (2.5), min (arg max ..): "Highest count wins, then smallest label. No neighbours: label kept"
unfoldable pub next_label : {A : Type 0} → (A → A → Bool) → (A → A → Bool) → A → List A → A
next_label same less own ls = smallest_or less own (most_common same ls)
