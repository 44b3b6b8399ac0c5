-- The rules "Layers, desk program, host call": the lines that the desk program prints, byte for byte.
use Rattle.std.specs.Prelude.{ℕ, List, [], ◌∷◌, ◌++◌, ℤ}
use Rattle.basis.specs.declared.refusal.Refusal.{Refusal}
use Rattle.text.specs.Bytes.{bytes, lf, space}
use Rattle.write.specs.Number.{count_text, signed_text}

-- the byte of `/`
abbrev pub slash : ℕ
slash = 47

-- `refused`, the word alone
abbrev pub refused_word : List ℕ
refused_word = bytes "refused"

-- one space and a number
unfoldable pub spaced_text : ℕ → List ℕ
spaced_text n = space ∷ count_text n

-- "the three numbers, one space apart": number, file and line, with a space before each; change K2: "the desk program prints all four"
unfoldable pub numbers_text : Refusal → List ℕ
numbers_text r = spaced_text r.number ++ (spaced_text r.file ++ (spaced_text r.line ++ spaced_text r.column))

-- "prints one line, `refused` and the three numbers, one space apart", now four: with its LF
unfoldable pub refused_text : Refusal → List ℕ
refused_text r = refused_word ++ (numbers_text r ++ (lf ∷ []))

-- "Each job prints its line, a count line": the line is given with its LF
unfoldable pub head_text : List ℕ → ℕ → List ℕ
head_text line n = line ++ (count_text n ++ (lf ∷ []))

-- "then identifier and value for each vertex": the identifier, and one space before the value
unfoldable pub named_text : ℤ → List ℕ
named_text id = signed_text id ++ (space ∷ [])

-- a vertex's line where the value is a whole number: identifier, one space, value, LF
unfoldable pub pair_text : ℤ → ℤ → List ℕ
pair_text id value = named_text id ++ (signed_text value ++ (lf ∷ []))

-- a coefficient, as in `1/2`: numerator, `/`, denominator
unfoldable pub fraction_text : ℕ → ℕ → List ℕ
fraction_text numerator denominator = count_text numerator ++ (slash ∷ count_text denominator)

-- a vertex's line where the value is a coefficient: identifier, one space, coefficient, LF
unfoldable pub ratio_text : ℤ → ℕ → ℕ → List ℕ
ratio_text id numerator denominator = named_text id ++ (fraction_text numerator denominator ++ (lf ∷ []))

-- the lines of all vertices, as far as the lists go
unfoldable pub pair_lines : List ℤ → List ℤ → List ℕ
pair_lines [] values = []
pair_lines (id ∷ ids) [] = []
pair_lines (id ∷ ids) (v ∷ values) = pair_text id v ++ pair_lines ids values

-- the same of coefficients, as far as all three lists go
unfoldable pub ratio_lines : List ℤ → List ℕ → List ℕ → List ℕ
ratio_lines [] numerators denominators = []
ratio_lines (id ∷ ids) [] denominators = []
ratio_lines (id ∷ ids) (n ∷ numerators) [] = []
ratio_lines (id ∷ ids) (n ∷ numerators) (d ∷ denominators) = ratio_text id n d ++ ratio_lines ids numerators denominators
