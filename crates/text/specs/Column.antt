-- Change K2 "Say where in the line": what the column of a refused line means, said of good lines as byte strings, with no word on how they
-- are read.
use Rattle.std.specs.Prelude.{ℕ, ◌-◌, ◌<◌, ◌≡◌, ◌↔◌, ◌⊎◌, Bool, true, false, cond, List, [], ◌∷◌, ◌++◌, length, take, drop}
use Rattle.basis.specs.Refusal.{bad_form}
use Rattle.basis.specs.Scan.{mem}
use Rattle.text.specs.Bytes.{lf, space}
use Rattle.text.specs.Word.{Word, well_formed, ident_of}
use Rattle.text.specs.Grammar.{DecimalForm}
use Rattle.text.specs.Line.{LineSaid, fault, up_to, vertex_line, edge_line, claim_line, coefficient_line}
use Rattle.text.specs.Weight.{IsWeight}
use Rattle.text.specs.Weighed.{weighed_line, listed_line, has_weights}
use Rattle.text.specs.Distance.{infinity_word, distance_line}
use Rattle.text.specs.declared.decimal.Decimal.{Decimal}

-- the bytes of a word have the right form; range plays no part
abbrev pub Formed : {A : Type 0} → (List ℕ → Word A) → List ℕ → Type 0
Formed word w = well_formed (word w) ≡ true

-- "a plain or scientific decimal": the bytes have the form of one
abbrev pub IsDecimal : List ℕ → Type 0
IsDecimal w = (d : Decimal) × DecimalForm w d

-- "in the coefficients' decimal form", "or as `infinity`"
abbrev pub IsDistanceWord : List ℕ → Type 0
IsDistanceWord w = IsDecimal w ⊎ (w ≡ infinity_word)

-- two words "with one space between"
pub record TwoWords (First Second : List ℕ → Type 0) (w : List ℕ) : Type 0 where
  pub first : List ℕ
  pub second : List ℕ
  pub between : w ≡ first ++ space ∷ second
  pub first_formed : First first
  pub second_formed : Second second

-- "A line is ended by one LF": a line is good if what stands before its LF has the right form
pub record GoodLine (Right : List ℕ → Type 0) (l : List ℕ) : Type 0 where
  pub bytes : List ℕ
  pub ended : l ≡ bytes ++ lf ∷ []
  pub formed : Right bytes

-- a "good line could go on" from the front: there is a rest so that both together are a good line
pub record CanGoOn (Right : List ℕ → Type 0) (front : List ℕ) : Type 0 where
  pub rest : List ℕ
  pub good : GoodLine Right (front ++ rest)

-- "the end of the line or file counts as the next column": the end of the file as a byte that no good line has, being no byte
abbrev pub file_end : ℕ
file_end = 256

-- the first line of some bytes with its LF, or with the end of the file in its stead
abbrev pub whole_line : List ℕ → List ℕ
whole_line s = up_to lf s ++ cond (mem lf s) lf file_end ∷ []

-- "the column, from 1, of the first byte at which no good line could go on": one could from the bytes before it, and with it none can
pub record Column (Right : List ℕ → Type 0) (l : List ℕ) (c : ℕ) : Type 0 where
  pub before : CanGoOn Right (take (c - 1) l)
  pub stops : CanGoOn Right (take c l) → ⊥

-- a reader answers refusal 2 at a place with the column c exactly where a line is left there and c is its column; and a line has only one
pub record TellsColumn {A : Type 0} (Right : List ℕ → Type 0) (read : List ℕ → ℕ → LineSaid A) : Type 0 where
  pub tells : (s : List ℕ) (at c : ℕ) → (read s at ≡ fault bad_form c at) ↔ ((at < length s) × Column Right (whole_line (drop at s)) c)
  pub only : (l : List ℕ) (c d : ℕ) → Column Right l c → Column Right l d → c ≡ d

-- "An edge line is two with one space between."
abbrev pub PlainEdge : List ℕ → Type 0
PlainEdge = TwoWords (Formed ident_of) (Formed ident_of)

-- Change K3: "Edge lines may carry a third field, a weight"
abbrev pub WeighedEdge : List ℕ → Type 0
WeighedEdge = TwoWords (Formed ident_of) (TwoWords (Formed ident_of) IsWeight)

-- "A file has weights on all lines or none"
abbrev pub EdgeBy : Bool → List ℕ → Type 0
EdgeBy true = WeighedEdge
EdgeBy false = PlainEdge

-- the one or the other
abbrev pub AnyEdge : List ℕ → Type 0
AnyEdge w = PlainEdge w ⊎ WeighedEdge w

-- "The line reader must answer the column": of a vertex line, of an edge line, of a claim line with a number, of one with a decimal
pub record Columns : Type 0 where
  pub vertex : TellsColumn (Formed ident_of) vertex_line
  pub edge : TellsColumn (TwoWords (Formed ident_of) (Formed ident_of)) edge_line
  pub claim : TellsColumn (TwoWords (Formed ident_of) (Formed ident_of)) claim_line
  pub coefficient : TellsColumn (TwoWords (Formed ident_of) IsDecimal) coefficient_line

-- the same of an edge line with a weight, of those of a file with weights or without, of a claim line with a distance
pub record WeighedColumns : Type 0 where
  pub weighed : TellsColumn WeighedEdge weighed_line
  pub listed : (weighted : Bool) → TellsColumn (EdgeBy weighted) (listed_line weighted)
  pub distance : TellsColumn (TwoWords (Formed ident_of) IsDistanceWord) distance_line

-- how the first line of an edge file says whether it has weights: it stands there and is no good line without one; and if it has neither
-- form, the column that it is refused with is that of the first byte at which no good line, with a weight or without, could go on
pub record FirstLine (s : List ℕ) : Type 0 where
  pub which : (has_weights s ≡ true) ↔ ((0 < length s) × (GoodLine PlainEdge (whole_line s) → ⊥))
  pub column : (c : ℕ) → has_weights s ≡ true → weighed_line s 0 ≡ fault bad_form c 0 → Column AnyEdge (whole_line s) c
