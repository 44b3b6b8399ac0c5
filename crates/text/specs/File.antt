-- The rules "Lists", "Claims and verdicts": a file line by line. "The first fault met is the answer."
use Rattle.std.specs.Prelude.{ℕ, zero, suc, ◌+◌, ◌≤◌, ◌<◌, ◌≡◌, true, false, cond, List, [], ◌∷◌, ◌++◌, length, leb}
use Rattle.basis.specs.declared.refusal.Refusal.{Refusal}
use Rattle.basis.specs.Refusal.{Said, gives, refuses, at_column, at, too_many, bad_form, out_of_range, mapped}
use Rattle.basis.specs.Scan.{mem}
use Rattle.text.specs.Word.{Word, malformed, outside, value}
use Rattle.text.specs.Bytes.{lf}
use Rattle.text.specs.Line.{LineSaid, line, none, fault, up_to}
use Rattle.text.specs.Column.{Formed, whole_line, Column}

-- a line of a file: its values, or the number and the column of its fault of form or range
pub data Line (A : Type 0) : Type 0 where
  good : A → Line A
  bad : ℕ → ℕ → Line A

-- the lines from a place on, up to the first fault: at most m
unfoldable pub lines_from : {A : Type 0} → (ℕ → LineSaid A) → ℕ → ℕ → List (Line A)
lines_from read zero place = []
lines_from read (suc m) place =
    elim (read place) [ line v next ↦ good v ∷ lines_from read m next | none p ↦ [] | fault n c p ↦ bad n c ∷ [] ]

-- the lines of a file; there are no more of them than bytes
abbrev pub lines_of : {A : Type 0} → (List ℕ → ℕ → LineSaid A) → List ℕ → List (Line A)
lines_of read s = lines_from (read s) (suc (length s)) 0

-- what stands before a line: nothing, or the line before it
pub data Before (A : Type 0) : Type 0 where
  first : Before A
  after : A → Before A

-- a number that is no fault lets go on
abbrev pub unless : {A : Type 0} → ℕ → ℕ → ℕ → Said A → Said A
unless zero file k rest = rest
unless (suc n) file k rest = refuses (at (suc n) file k)

-- the refusal of a line after k others, in a file of at most so many lines, by the number and the column of its form or range: 1 before all
-- others
abbrev pub bad_at : ℕ → ℕ → ℕ → ℕ → ℕ → Refusal
bad_at file most k number column = cond (leb most k) (at too_many file (k + 1)) (at_column number file (k + 1) column)

-- the lines of a file of at most `most` lines, by a test of a line's values after the line before it: the number of a fault, or 0
module _ {A : Type 0} (file most : ℕ) (test : Before A → A → ℕ) where
  -- the fault of a line of good form and range after k others: 1 before all others, then the test
  abbrev pub fault_of : ℕ → Before A → A → ℕ
  fault_of k before v = cond (leb most k) too_many (test before v)

  -- the values of all lines, or the refusal at the first line with a fault
  unfoldable pub values_from : ℕ → Before A → List (Line A) → Said (List A)
  values_from k before [] = gives []
  values_from k before (good v ∷ ls) =
      unless (fault_of k before v) file (k + 1) (mapped (λ vs. v ∷ vs) (values_from (k + 1) (after v) ls))
  values_from k before (bad n c ∷ ls) = refuses (bad_at file most k n c)

  -- the same from the first line of a file on, which has none before it
  abbrev pub values_of : List (Line A) → Said (List A)
  values_of ls = values_from 0 first ls

-- "All lines are read for 1, 2 and 3 first": a claim's lines are tested by form and range alone
abbrev pub no_test : {A : Type 0} → Before A → A → ℕ
no_test before v = 0

-- ---- the same on a file's bytes, with no word on how they are read
-- "A line is ended by one LF": the bytes of a file with the given lines
abbrev pub joined : List (List ℕ) → List ℕ
joined [] = []
joined (w ∷ ws) = w ++ lf ∷ joined ws

-- each line has no LF in it, is well formed and in range, and says its value
abbrev pub Says : {A : Type 0} → (List ℕ → Word A) → List (List ℕ) → List A → Type 0
Says word [] [] = Unit {0}
Says word [] (v ∷ vs) = ⊥
Says word (w ∷ ws) [] = ⊥
Says word (w ∷ ws) (v ∷ vs) = (mem lf w ≡ false) × (word w ≡ value v) × Says word ws vs

-- a file is some lines, each "ended by one LF", that say the given values in order
pub record FileSays {A : Type 0} (word : List ℕ → Word A) (s : List ℕ) (vs : List A) : Type 0 where
  pub words : List (List ℕ)
  pub whole : s ≡ joined words
  pub values : Says word words vs

-- each passes a test after the one before it
abbrev pub Passes : {A : Type 0} → (Before A → A → ℕ) → Before A → List A → Type 0
Passes test before [] = Unit {0}
Passes test before (v ∷ vs) = (test before v ≡ 0) × Passes test (after v) vs

-- the last of some lines
abbrev pub last_of : {A : Type 0} → Before A → List A → Before A
last_of before [] = before
last_of before (v ∷ vs) = last_of (after v) vs

-- a good file of the given values: its lines say them, they are at most so many, and each passes the test
pub record GoodFile {A : Type 0} (word : List ℕ → Word A) (most : ℕ) (test : Before A → A → ℕ) (s : List ℕ) (vs : List A) : Type 0 where
  pub lines : FileSays word s vs
  pub few : length vs ≤ most
  pub pass : Passes test first vs

-- why the first line of some bytes fails after k lines, by its number and its column: it "passes its limit", whatever its form; else it has
-- no LF, or "the wrong form", and then the column is where no good line could go on; else its number "is outside -2^63 to 2^63-1"; else the
-- test says why
pub data Fails {A : Type 0} (word : List ℕ → Word A) (most : ℕ) (test : A → ℕ) (k : ℕ) (rest : List ℕ) (number column : ℕ) : Type 0 where
  over : k ≡ most → number ≡ too_many → column ≡ 0 → Fails word most test k rest number column
  unended : k < most → mem lf rest ≡ false → number ≡ bad_form → Column (Formed word) (whole_line rest) column
      → Fails word most test k rest number column
  wrong : k < most → mem lf rest ≡ true → word (up_to lf rest) ≡ malformed → number ≡ bad_form
      → Column (Formed word) (whole_line rest) column
      → Fails word most test k rest number column
  beyond : k < most → mem lf rest ≡ true → word (up_to lf rest) ≡ outside → number ≡ out_of_range → column ≡ 0
      → Fails word most test k rest number column
  tested : (v : A) → k < most → mem lf rest ≡ true → word (up_to lf rest) ≡ value v → test v ≡ number → (number ≡ 0 → ⊥) → column ≡ 0
      → Fails word most test k rest number column

-- "The first fault met is the answer": a file is good lines that pass, at most so many, then a rest that is not empty, and the refusal says
-- why the rest's first line fails
pub record FirstFault {A : Type 0} (word : List ℕ → Word A) (file most : ℕ) (test : Before A → A → ℕ) (s : List ℕ) (r : Refusal)
    : Type 0 where
  pub words : List (List ℕ)
  pub passed : List A
  pub rest : List ℕ
  pub whole : s ≡ joined words ++ rest
  pub values : Says word words passed
  pub few : length passed ≤ most
  pub pass : Passes test first passed
  pub some : rest ≡ [] → ⊥
  pub number : ℕ
  pub column : ℕ
  pub fails : Fails word most (test (last_of first passed)) (length passed) rest number column
  pub refusal : r ≡ at_column number file (length passed + 1) column
