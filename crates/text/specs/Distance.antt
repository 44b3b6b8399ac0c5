-- Change K3: "a claim, written in the coefficients' decimal form, matches within one part in ten thousand, or as `infinity` exactly where
-- unreachable": the bytes of a claimed distance, and a line of such a claim.
use Rattle.std.specs.Prelude.{ℕ, suc, ◌+◌, List, [], ◌∷◌, Bool, true, false, cond, ◌&&◌, get_or, eqb, ℤ, Option, Result}
use Rattle.text.specs.Bytes.{bytes, lf}
use Rattle.text.specs.Word.{Word, malformed, outside, value}
use Rattle.text.specs.Decimal.{decimal_of}
use Rattle.text.specs.Stop.{decimal_stop}
use Rattle.text.specs.Line.{LineSaid, Form, line_by, pair_form, reader_says}
use Rattle.text.specs.Scan.{Scanned, scanned, closed, line_from}
use Rattle.text.specs.declared.decimal.Decimal.{Decimal}
use Rattle.text.specs.declared.distance.Distance.{Distance}
use Rattle.text.specs.declared.distance.Distance.TheVariants as D
use Rattle.text.specs.declared.line.Cursor.{Cursor}
use Rattle.text.specs.declared.line.Fault.{Fault}

-- "`infinity`": its bytes
abbrev pub infinity_word : List ℕ
infinity_word = bytes "infinity"

-- the byte of `i`, with which it begins and no decimal does
abbrev pub infinity_mark : ℕ
infinity_mark = 105

-- a list is the bytes of a word
unfoldable pub same_bytes : List ℕ → List ℕ → Bool
same_bytes [] [] = true
same_bytes [] (c ∷ l) = false
same_bytes (b ∷ word) [] = false
same_bytes (b ∷ word) (c ∷ l) = eqb c b && same_bytes word l

-- how many bytes of a word stand in order at the front of a list
unfoldable pub shared_front : List ℕ → List ℕ → ℕ
shared_front [] l = 0
shared_front (b ∷ word) [] = 0
shared_front (b ∷ word) (c ∷ l) = cond (eqb c b) (suc (shared_front word l)) 0

-- a decimal as a distance
abbrev pub finite : Word Decimal → Word Distance
finite malformed = malformed
finite outside = outside
finite (value d) = value (D.Finite d)

-- "in the coefficients' decimal form", "or as `infinity`": what the bytes of a whole word say as a distance
unfoldable pub distance_of : List ℕ → Word Distance
distance_of w = cond (same_bytes infinity_word w) (value D.Infinity) (finite (decimal_of w))

-- where the bytes up to the end of a line break off as one
unfoldable pub distance_stop : List ℕ → ℕ
distance_stop w = cond (eqb (get_or w 0 0) infinity_mark) (shared_front infinity_word w) (decimal_stop w)

-- the form of a claimed distance
abbrev pub distance_form : Form Distance
distance_form = record { word = distance_of; stop = distance_stop }

-- "identifier, one space, value", the value being a distance
abbrev pub distance_line : List ℕ → ℕ → LineSaid (ℤ × Distance)
distance_line s at = line_by (pair_form distance_form) s at

-- what the code's reader says of such a line: the identifier and the distance
abbrev pub distance_says : Cursor → Option (Result (ℤ × Distance) Fault) → LineSaid (ℤ × Distance)
distance_says k x = reader_says k x

-- ---- what the code scans
-- what the bytes from a place to the end of its line say as a distance, with the place past their LF; or where they break off
unfoldable pub distance_at : List ℕ → ℕ → Scanned Distance
distance_at s at = closed s lf (scanned (distance_of (line_from s at)) (at + distance_stop (line_from s at)))

-- a scanned decimal as a distance; its place stays
abbrev pub finite_at : Scanned Decimal → Scanned Distance
finite_at x = scanned (finite x.said) x.next
