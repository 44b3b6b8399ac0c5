-- The rules "Claims and verdicts", change K7 "Claims in any order" and Graphalytics, 2.4: what a claim's lines are worth beside a reference
-- output.
use Rattle.std.specs.Prelude.{ℕ, zero, suc, ◌+◌, Bool, cond, List, [], ◌∷◌, ℤ, pos, length, get_or, Result, Ok, Err, Option}
use Rattle.std.specs.Bool.{beq}
use Rattle.basis.specs.Refusal.{Said, gives, refuses, claim_file}
use Rattle.basis.specs.declared.refusal.Refusal.{Refusal}
use Rattle.basis.specs.Order.{same_z}
use Rattle.basis.specs.Scan.{every}
use Rattle.text.specs.declared.decimal.Decimal.{Decimal}
use Rattle.matching.specs.declared.judged.Verdict as judged
use Rattle.matching.specs.declared.judged.Verdict.TheVariants as V
use Rattle.matching.specs.declared.numbers.Rule.{Rule}
use Rattle.matching.specs.declared.numbers.Rule.TheVariants.{Exact, Equivalence}
use Rattle.matching.specs.Close.{is_close}
use Rattle.matching.specs.Claim.{ids_of}
use Rattle.matching.specs.Cover.{failing_place, incomplete_line, in_order, reported_line}

-- a verdict's number, its file and its line
pub record Verdict : Type 0 where
  pub number : ℕ
  pub file : ℕ
  pub line : ℕ

-- "All three carry file 3."
abbrev pub verdict : ℕ → ℕ → Verdict
verdict number line = record { number = number; file = claim_file; line = line }

-- "Verdict 0 matches, with line 0."
abbrev pub matched : Verdict
matched = verdict 0 0

-- "Verdict 20 is incomplete", at a line
abbrev pub incomplete_at : ℕ → Verdict
incomplete_at line = verdict 20 line

-- "Verdict 21, only for a complete claim, is a mismatch", at the claim line of "the smallest vertex at fault"
abbrev pub mismatch_at : ℕ → Verdict
mismatch_at line = verdict 21 line

-- "a definition that gives this paper's number and values for each of its cases"
abbrev pub says : Result judged.Verdict Refusal → Said Verdict
says (Ok V.Match) = gives matched
says (Ok (V.Incomplete line)) = gives (incomplete_at line)
says (Ok (V.Mismatch line)) = gives (mismatch_at line)
says (Err r) = refuses r

-- two lists side by side, the next place being k: the first place at which they aren't alike by a test,
-- or at which one of them has ended; 0 where there is none
unfoldable pub first_place : {A B : Type 0} → (A → B → Bool) → ℕ → List A → List B → ℕ
first_place alike k [] [] = 0
first_place alike k [] (y ∷ ys) = k
first_place alike k (x ∷ xs) [] = k
first_place alike k (x ∷ xs) (y ∷ ys) = cond (alike x y) (first_place alike (k + 1) xs ys) k

-- Graphalytics "Exact match": "the vertex values of the system's output should be identical to the reference output";
-- the first vertex, counted from 1, of which they are not
abbrev pub unequal_vertex : List ℤ → List ℤ → ℕ
unequal_vertex reference claimed = first_place same_z 1 reference claimed

-- Graphalytics "Equivalence match": two vertices agree in kind, "all vertices which have the same label in the system's output
-- also have the same label in the reference output, and vice versa"
unfoldable pub same_kind : List ℤ → List ℤ → ℕ → ℕ → Bool
same_kind labels claims i j =
    beq (same_z (get_or claims i (pos 0)) (get_or claims j (pos 0))) (same_z (get_or labels i (pos 0)) (get_or labels j (pos 0)))

-- vertex i agrees in kind with every smaller one
unfoldable pub agrees : List ℤ → List ℤ → ℕ → Bool
agrees labels claims i = every i (same_kind labels claims i)

-- "for WCC the smallest vertex that disagrees with a smaller one", counted from 1
unfoldable pub unlike_vertex : List ℤ → List ℤ → ℕ
unlike_vertex labels claims = failing_place (agrees labels claims) (length labels) 0

-- "with r the exact fraction": its numerator and its denominator
abbrev pub Fraction : Type 0
Fraction = ℕ × ℕ

-- Graphalytics "Epsilon match", as the rules have it: "10,000 times |r-s| at most r"
abbrev pub near : Fraction → Decimal → Bool
near r s = is_close r.0 r.1 s

-- the first vertex, counted from 1, whose decimal does not match its fraction, or at which one of the two lists has ended;
-- 0 where there is none
abbrev pub far_vertex : List Fraction → List Decimal → ℕ
far_vertex reference claimed = first_place near 1 reference claimed

-- the smallest vertex at fault by a rule for numbers: exact or equivalence match
abbrev pub mismatch_vertex : Rule → List ℤ → List ℤ → ℕ
mismatch_vertex Exact reference claimed = unequal_vertex reference claimed
mismatch_vertex Equivalence reference claimed = unlike_vertex reference claimed

-- "Verdict 21, only for a complete claim": by the first incomplete line and the line of the mismatch
abbrev pub verdict_of : ℕ → ℕ → Verdict
verdict_of (suc k) mismatch = incomplete_at (suc k)
verdict_of zero (suc k) = mismatch_at (suc k)
verdict_of zero zero = matched

-- "All lines are read for 1, 2 and 3 first": what is said of a claim on n vertices, whose identifiers stand at these places,
-- by the smallest vertex at fault among the values in vertex order; z stands for that of a vertex without a line
unfoldable pub judged_by : {A : Type 0} → (ℤ → Option ℕ) → ℕ → A → (List A → ℕ) → Said (List (ℤ × A)) → Said Verdict
judged_by place n z mismatch (gives l) =
    gives (verdict_of (incomplete_line place n (ids_of l)) (reported_line place (ids_of l) (mismatch (in_order place z n l))))
judged_by place n z mismatch (refuses r) = refuses r
