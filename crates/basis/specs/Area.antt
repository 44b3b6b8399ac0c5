-- What stands in a lent area.
use Rattle.std.specs.Prelude.{ℕ, zero, suc, ◌-◌, List, [], ◌∷◌, ◌++◌, ℤ, pos, length, take, drop, replicate}
use Rattle.basis.specs.Refusal.{Said, gives, refuses}

-- "Unreachable is 9223372036854775807"
abbrev pub infinity : ℕ
infinity = 9223372036854775807

-- the same as a signed number, the form of a depth or a distance in a result area
abbrev pub unreachable : ℤ
unreachable = pos infinity

-- f s, f (s + 1), .. : n values
unfoldable pub column : {A : Type 0} → (ℕ → A) → ℕ → ℕ → List A
column f s zero = []
column f s (suc n) = f s ∷ column f (suc s) n

-- each of n places holds its own number
abbrev pub own_numbers : ℕ → List ℕ
own_numbers n = column (λ v. v) 0 n

-- what stands from one place of a list up to another
abbrev pub between : {A : Type 0} → ℕ → ℕ → List A → List A
between from to l = take (to - from) (drop from l)

-- "places beyond the ones used are zero": a list in an area of the given size, with z behind it
abbrev pub pad_with : {A : Type 0} → A → ℕ → List A → List A
pad_with z size l = l ++ replicate (size - length l) z

-- the same of whole numbers, with 0 behind them
abbrev pub pad : ℕ → List ℕ → List ℕ
pad size l = pad_with 0 size l

-- the same of signed numbers, with 0 behind them
abbrev pub pad_z : ℕ → List ℤ → List ℤ
pad_z size l = pad_with (pos 0) size l

-- "fill every area lent for writing with zero"
abbrev pub cleared : List ℕ → List ℕ
cleared l = replicate (length l) 0

-- the same of an area of signed numbers
abbrev pub cleared_z : List ℤ → List ℤ
cleared_z l = replicate (length l) (pos 0)

-- what a call leaves in an area of the given size: the list of what it gives with z behind it, or z throughout where it is refused
abbrev pub area_of : {A B : Type 0} → A → ℕ → (B → List A) → Said B → List A
area_of z size list (gives x) = pad_with z size (list x)
area_of z size list (refuses r) = replicate size z

-- the same with a list that stands apart from what it gives
abbrev pub leaves : {A B : Type 0} → Said B → A → ℕ → List A → List A
leaves s z size l = area_of z size (λ x. l) s

-- the first n of a list over the front of an area, as many as both have
unfoldable pub copied : {A : Type 0} → ℕ → List A → List A → List A
copied zero l area = area
copied (suc n) [] area = area
copied (suc n) (x ∷ l) [] = []
copied (suc n) (x ∷ l) (y ∷ area) = x ∷ copied n l area
