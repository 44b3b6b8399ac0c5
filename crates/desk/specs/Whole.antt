-- What the program hands to its writer: the whole output of the sheet, however long the sheet is.
use Rattle.std.specs.Prelude.{ℕ, ◌≤◌, ◌<◌, ◌≡◌, List, length, take}
use Rattle.plan.specs.Sheet.{most_bytes}
use Rattle.sheet.specs.Desk.{desk_output, most_output}

-- how many places the area for the output has
abbrev pub area_places : ℕ
area_places = 760000

-- the n bytes that were read lie in an area of more places than a sheet has bytes, and the other area has a place for every byte of the
-- longest output
pub record SheetAreas (n : ℕ) (bytes out : List ℕ) : Type 0 where
  pub inside : n ≤ length bytes
  pub over : most_bytes < length bytes
  pub room : most_output ≤ length out

-- a text is all that a sheet prints, for every sheet whose first bytes, as many as the area of bytes takes, are the n bytes that were read
abbrev pub Whole : ℕ → List ℕ → List ℕ → Type 0
Whole n bytes text = (sheet : List ℕ) → take n bytes ≡ take (length bytes) sheet → text ≡ desk_output sheet
