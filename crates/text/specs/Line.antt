-- The rules "Lists", "Claims and verdicts": the lines of a file, on the bytes from a place on.
use Rattle.std.specs.Prelude.{ℕ, ◌+◌, List, [], ◌∷◌, true, false, cond, ◌&&◌, length, drop, leb, eqb, ℤ}
use Rattle.std.specs.Prelude.{Option, None, Some, Result, Ok, Err}
use Rattle.basis.specs.Refusal.{bad_form, out_of_range}
use Rattle.basis.specs.Scan.{mem}
use Rattle.text.specs.Bytes.{lf, space}
use Rattle.text.specs.Word.{Word, malformed, outside, value, well_formed, ident_of}
use Rattle.text.specs.Decimal.{decimal_of}
use Rattle.text.specs.Stop.{ident_stop, decimal_stop}
use Rattle.text.specs.declared.decimal.Decimal.{Decimal}
use Rattle.text.specs.declared.line.Cursor.{Cursor}
use Rattle.text.specs.declared.line.Fault.{Fault}

-- what a reader says: a line's values and the place past it; "no line is left"; a refusal's number and column. "then, and with a fault,
-- the place comes back as it went in"
pub data LineSaid (A : Type 0) : Type 0 where
  line : A → ℕ → LineSaid A
  none : ℕ → LineSaid A
  fault : ℕ → ℕ → ℕ → LineSaid A

-- the bytes before the first c; all of them where there is no c
abbrev pub up_to : ℕ → List ℕ → List ℕ
up_to c [] = []
up_to c (b ∷ l) = elim (eqb c b) [ true ↦ [] | false ↦ b ∷ up_to c l ]

-- the bytes after the first c; none where there is no c
abbrev pub past : ℕ → List ℕ → List ℕ
past c [] = []
past c (b ∷ l) = elim (eqb c b) [ true ↦ l | false ↦ past c l ]

-- the form of a line's bytes without its LF: what they say as a word, and how many stand before the first at which no good word could go on
pub record Form (A : Type 0) : Type 0 where
  pub word : List ℕ → Word A
  pub stop : List ℕ → ℕ

-- Change K2: "the column, from 1, of the first byte at which no good line could go on; the end of the line or file counts as the next
-- column"
abbrev pub column_in : {A : Type 0} → Form A → List ℕ → ℕ → ℕ
column_in form s at = form.stop (up_to lf (drop at s)) + 1

-- a line that began at `at` and ends before `next`, by what its bytes say; change K2: "the column is 0 except for refusal 2"
abbrev pub line_says : {A : Type 0} → ℕ → ℕ → ℕ → Word A → LineSaid A
line_says at next column malformed = fault bad_form column at
line_says at next column outside = fault out_of_range 0 at
line_says at next column (value v) = line v next

-- "A line is ended by one LF; a last line without LF is refused 2": what the bytes of the line at a place say as a word
unfoldable pub line_by : {A : Type 0} → Form A → List ℕ → ℕ → LineSaid A
line_by form s at =
    cond (leb (length s) at) (none at)
    (cond (mem lf (drop at s))
    (line_says at (at + length (up_to lf (drop at s)) + 1) (column_in form s at) (form.word (up_to lf (drop at s))))
    (fault bad_form (column_in form s at) at))

-- "A fault of form anywhere in a line comes before a fault of range."
abbrev pub both : {A B : Type 0} → Word A → Word B → Word (A × B)
both malformed y = malformed
both outside malformed = malformed
both outside outside = outside
both outside (value b) = outside
both (value a) malformed = malformed
both (value a) outside = outside
both (value a) (value b) = value (a, b)

-- two words with one space between
unfoldable pub two_of : {A B : Type 0} → (List ℕ → Word A) → (List ℕ → Word B) → List ℕ → Word (A × B)
two_of first second bs = cond (mem space bs) (both (first (up_to space bs)) (second (past space bs))) malformed

-- where an identifier and a second word with one space between break off: in the second behind a good first one and the space, else in
-- the first
unfoldable pub two_stop : (List ℕ → ℕ) → List ℕ → ℕ
two_stop second bs =
    cond (mem space bs && well_formed (ident_of (up_to space bs))) (length (up_to space bs) + 1 + second (past space bs))
    (ident_stop (up_to space bs))

-- "A vertex line is one identifier.": its form
abbrev pub ident_form : Form ℤ
ident_form = record { word = ident_of; stop = ident_stop }

-- "identifier, one space, value": the form of such a line, by that of its value
abbrev pub pair_form : {A : Type 0} → Form A → Form (ℤ × A)
pair_form second = record { word = two_of ident_of second.word; stop = two_stop second.stop }

-- "An edge line is two with one space between.": its form
abbrev pub edge_form : Form (ℤ × ℤ)
edge_form = pair_form ident_form

-- "a plain or scientific decimal": the form of a coefficient
abbrev pub decimal_form : Form Decimal
decimal_form = record { word = decimal_of; stop = decimal_stop }

-- "A vertex line is one identifier."
abbrev pub vertex_line : List ℕ → ℕ → LineSaid ℤ
vertex_line s at = line_by ident_form s at

-- "An edge line is two with one space between."
abbrev pub edge_line : List ℕ → ℕ → LineSaid (ℤ × ℤ)
edge_line s at = line_by edge_form s at

-- "identifier, one space, value. For BFS, WCC and CDLP the value is in identifier form."
abbrev pub claim_line : List ℕ → ℕ → LineSaid (ℤ × ℤ)
claim_line s at = edge_line s at

-- "For LCC it is a plain or scientific decimal"
abbrev pub coefficient_line : List ℕ → ℕ → LineSaid (ℤ × Decimal)
coefficient_line s at = line_by (pair_form decimal_form) s at

-- what the code's reader says, by the place at which it left its cursor and the cases of its answer
abbrev pub reader_says : {A : Type 0} → Cursor → Option (Result A Fault) → LineSaid A
reader_says k None = none k.at
reader_says k (Some (Err f)) = fault f.number f.column k.at
reader_says k (Some (Ok v)) = line v k.at

-- the same of a vertex line: its number
abbrev pub vertex_says : Cursor → Option (Result ℤ Fault) → LineSaid ℤ
vertex_says k x = reader_says k x

-- the same of an edge line, and a claim line of its form: the two numbers
abbrev pub edge_says : Cursor → Option (Result (ℤ × ℤ) Fault) → LineSaid (ℤ × ℤ)
edge_says k x = reader_says k x

-- the same of a line of an LCC claim: the identifier and the decimal
abbrev pub coefficient_says : Cursor → Option (Result (ℤ × Decimal) Fault) → LineSaid (ℤ × Decimal)
coefficient_says k x = reader_says k x
