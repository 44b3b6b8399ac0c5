-- What a writer does to a lent area of bytes.
use Rattle.std.specs.Prelude.{ℕ, ◌+◌, true, false, List, [], ◌∷◌, ltb, length, set}

-- what stands in the area afterwards, and the place where the next byte goes
pub record Written : Type 0 where
  pub area : List ℕ
  pub next : ℕ

-- the same, by its fields in order
abbrev pub written : List ℕ → ℕ → Written
written area next = record { area = area; next = next }

-- a text written from a place on: byte after byte as long as the place is in the area; the rest of the text is dropped
unfoldable pub put_at : List ℕ → ℕ → List ℕ → Written
put_at area at [] = written area at
put_at area at (byte ∷ text) = elim (ltb at (length area)) [ true ↦ put_at (set area at byte) (at + 1) text | false ↦ written area at ]
