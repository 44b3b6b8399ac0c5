-- The order of numbers and of signed numbers, and lists that rise by it.
use Rattle.std.specs.Prelude.{ℕ, Bool, true, false, ◌&&◌, List, [], ◌∷◌, ℤ, pos, negsuc, eqb, ltb}
use Rattle.std.specs.Int.Signed.{lt_z}

-- two signed numbers are the same
abbrev pub same_z : ℤ → ℤ → Bool
same_z (pos a) (pos b) = eqb a b
same_z (pos a) (negsuc b) = false
same_z (negsuc a) (pos b) = false
same_z (negsuc a) (negsuc b) = eqb a b

-- each element is below the next one, by a test of two
module _ {A : Type 0} (less : A → A → Bool) where
  -- x is below the first of a list, and each of the list below the next one
  abbrev pub above_by : A → List A → Bool
  above_by x [] = true
  above_by x (y ∷ l) = less x y && above_by y l

  -- "strictly rise", by that test: each of a list is below the next one
  abbrev pub rising_by : List A → Bool
  rising_by [] = true
  rising_by (x ∷ l) = above_by x l

-- "strictly rises", of numbers
abbrev pub rising : List ℕ → Bool
rising l = rising_by ltb l

-- "strictly rise as signed numbers"
abbrev pub rising_z : List ℤ → Bool
rising_z l = rising_by lt_z l
