-- Where an identifier stands in a list.
use Rattle.std.specs.Prelude.{ℕ, zero, suc, ◌+◌, ◌-◌, ◌/◌, ◌<◌, ◌≡◌, ◌↔◌, Bool, true, false, List, [], ◌∷◌, ℤ, pos, length, get_or, ltb}
use Rattle.std.specs.Int.Signed.{lt_z}
use Rattle.basis.specs.Refusal.{Said, gives, refuses, plain, not_there}
use Rattle.basis.specs.Order.{same_z, rising_z}
use Rattle.std.specs.Prelude.{Option, Some, None}

-- the first place of an identifier in a list that starts at place i
unfoldable pub place_from : ℕ → List ℤ → ℤ → Option ℕ
place_from i [] id = None
place_from i (x ∷ l) id = elim (same_z x id) [ true ↦ Some i | false ↦ place_from (i + 1) l id ]

-- "Vertices are numbered 0 to n-1 in file order": the vertex number of an identifier
abbrev pub place_in : List ℤ → ℤ → Option ℕ
place_in l id = place_from 0 l id

-- the paper's number and values of an answer: the place, or 10, "a BFS root or a book vertex isn't there"
abbrev pub found_says : Option ℕ → Said ℕ
found_says (Some i) = gives i
found_says None = refuses (plain not_there)

-- "isn't there", the other way round: an identifier was found
abbrev pub is_there : Option ℕ → Bool
is_there (Some i) = true
is_there None = false

module _ {A : Type 0} (less : A → A → Bool) (z : A) (l : List A) (x : A) where
  -- a bisection for x of the places from low up to high, of at most so many turns: the middle, or the half that is left of it
  unfoldable pub bisect : ℕ → ℕ → ℕ → Option ℕ
  bisect zero low high = None
  bisect (suc turns) low high =
      let middle = low + (high - low) / 2 in
      elim (ltb low high) [
        | true ↦
            elim (less (get_or l middle z) x) [
              | true ↦ bisect turns (middle + 1) high
              | false ↦ elim (less x (get_or l middle z)) [ true ↦ bisect turns low middle | false ↦ Some middle ]
            ]
        | false ↦ None
      ]

  -- the bisection of the whole list; in a list that rises it finds x where it stands (law `bisect-finds`)
  abbrev pub bisect_by : Option ℕ
  bisect_by = bisect (length l) 0 (length l)

-- the place of an identifier by bisection, whatever the list: in one that rises it is `place_in` (law `find-rising`)
abbrev pub bisected : List ℤ → ℤ → Option ℕ
bisected l id = bisect_by lt_z (pos 0) l id

-- an identifier stands at place i of a list
abbrev pub StandsAt : List ℤ → ℤ → ℕ → Type 0
StandsAt ids id i = (i < length ids) × (get_or ids i (pos 0) ≡ id)

-- what a search answers: on any list as the bisection does; on one that rises the identifier's place, and 10 where it stands nowhere
pub record Searched (ids : List ℤ) (id : ℤ) (f : Option ℕ) : Type 0 where
  pub any_list : found_says f ≡ found_says (bisected ids id)
  pub found : rising_z ids ≡ true → (i : ℕ) → (found_says f ≡ gives i) ↔ StandsAt ids id i
  pub missing : rising_z ids ≡ true → (found_says f ≡ refuses (plain not_there)) ↔ ((i : ℕ) → StandsAt ids id i → ⊥)
