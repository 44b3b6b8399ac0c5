-- The rules "Layers, desk program, host call": the lines of a sheet.
use Rattle.std.specs.Prelude.{ℕ, suc, ◌+◌, Bool, true, false, ◌&&◌, List, [], ◌∷◌, take, eqb}
use Rattle.basis.specs.Refusal.{Said, gives, refuses, at, bad_form, sheet_file}
use Rattle.basis.specs.declared.refusal.Refusal.{Refusal}
use Rattle.text.specs.Word.{Word}
use Rattle.text.specs.Bytes.{lf}
use Rattle.text.specs.Line.{LineSaid, line, none, fault, Form, line_by}

-- how many LFs stand among the bytes
unfoldable pub lfs : List ℕ → ℕ
lfs [] = 0
lfs (b ∷ l) = elim (eqb b lf) [ true ↦ suc (lfs l) | false ↦ lfs l ]

-- "a line counted from 1": the number of the line in which a place of a sheet stands
abbrev pub line_number : List ℕ → ℕ → ℕ
line_number s place = 1 + lfs (take place s)

-- "line by line, with file 4"; change K2: "the column is 0 except for refusal 2 of a vertex, edge or claim line"
abbrev pub sheet_fault : List ℕ → ℕ → ℕ → Refusal
sheet_fault s place number = at number sheet_file (line_number s place)

-- "Bad form is 2, and so is a missing or unended line": a line's value with the place past it, or the refusal
abbrev pub in_sheet : {A : Type 0} → List ℕ → LineSaid A → Said (A × ℕ)
in_sheet s (line v next) = gives (v, next)
in_sheet s (none place) = refuses (sheet_fault s place bad_form)
in_sheet s (fault number column place) = refuses (sheet_fault s place number)

-- a sheet's own refusals have no column, so of the words on its lines it is not asked where they break off
abbrev pub word_alone : {A : Type 0} → (List ℕ → Word A) → Form A
word_alone word = record { word = word; stop = λ bs. 0 }

-- the line at a place, by what its bytes say as a word
unfoldable pub sheet_line : {A : Type 0} → (List ℕ → Word A) → List ℕ → ℕ → Said (A × ℕ)
sheet_line word s place = in_sheet s (line_by (word_alone word) s place)

-- a list begins with the bytes of a word
unfoldable pub begins : List ℕ → List ℕ → Bool
begins [] l = true
begins (b ∷ word) [] = false
begins (b ∷ word) (c ∷ l) = eqb c b && begins word l

-- a list is the bytes of a word
unfoldable pub is_word : List ℕ → List ℕ → Bool
is_word [] [] = true
is_word [] (c ∷ l) = false
is_word (b ∷ word) [] = false
is_word (b ∷ word) (c ∷ l) = eqb c b && is_word word l
