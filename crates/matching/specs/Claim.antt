-- The rules "Claims and verdicts": the lines of a claim. "All lines are read for 1, 2 and 3 first".
use Rattle.std.specs.Prelude.{ℕ, List, [], ◌∷◌, ℤ}
use Rattle.basis.specs.Refusal.{Said, claim_file}
use Rattle.text.specs.Line.{LineSaid, claim_line, coefficient_line}
use Rattle.text.specs.File.{lines_of, values_of, no_test}
use Rattle.text.specs.declared.decimal.Decimal.{Decimal}

-- "more than 65,536 lines is 1": the lines of a claim, at most so many, by a reader of one line
abbrev pub claim_lines : {A : Type 0} → (List ℕ → ℕ → LineSaid A) → ℕ → List ℕ → Said (List A)
claim_lines read most s = values_of claim_file most no_test (lines_of read s)

-- "For BFS, WCC and CDLP the value is in identifier form": the lines of such a claim
abbrev pub number_lines : ℕ → List ℕ → Said (List (ℤ × ℤ))
number_lines most s = claim_lines claim_line most s

-- "For LCC it is a plain or scientific decimal": the lines of such a claim
abbrev pub coefficient_lines : ℕ → List ℕ → Said (List (ℤ × Decimal))
coefficient_lines most s = claim_lines coefficient_line most s

-- the identifiers that a claim's lines name, in their order
abbrev pub ids_of : {A : Type 0} → List (ℤ × A) → List ℤ
ids_of [] = []
ids_of (x ∷ l) = x.0 ∷ ids_of l

-- the values that a claim's lines claim, in their order
abbrev pub claimed_of : {A : Type 0} → List (ℤ × A) → List A
claimed_of [] = []
claimed_of (x ∷ l) = x.1 ∷ claimed_of l
