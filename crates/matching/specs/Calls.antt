-- What a claim of numbers, and one of coefficients, is told by the functions that judge them.
use Rattle.std.specs.Prelude.{ℕ, ◌^◌, Bool, ◌&&◌, List, ℤ, pos, length, get_or, take, leb, ltb}
use Rattle.basis.specs.Refusal.{Said, no_room, check}
use Rattle.basis.specs.Area.{column, cleared, cleared_z}
use Rattle.text.specs.Decimal.{decimal}
use Rattle.text.specs.declared.decimal.Decimal.{Decimal}
use Rattle.graph.specs.Find.{bisected}
use Rattle.matching.specs.declared.numbers.Rule.{Rule}
use Rattle.matching.specs.Claim.{number_lines, coefficient_lines}
use Rattle.matching.specs.Verdict.{Verdict, Fraction, near, first_place, mismatch_vertex, judged_by}

-- what was said, and what stands in the working areas: the claimed values and the record of claim lines
pub record Outcome : Type 0 where
  pub said : Said Verdict
  pub claimed : List ℤ
  pub lines : List ℕ

-- the same, by its fields in order
abbrev pub outcome : Said Verdict → List ℤ → List ℕ → Outcome
outcome said claimed lines = record { said = said; claimed = claimed; lines = lines }

-- n places in each of three areas of these lengths
abbrev pub room_in_three : ℕ → ℕ → ℕ → ℕ → Bool
room_in_three n first second third = leb n first && (leb n second && leb n third)

-- 8, then the claim of at most so many lines: the first n values of the reference output are those of the n vertices, and an identifier
-- names the vertex that a bisection finds; "working areas are zero throughout"
unfoldable pub numbers_call : Rule → ℕ → List ℤ → List ℤ → List ℕ → List ℤ → List ℕ → Outcome
numbers_call rule most ids reference s claimed lines =
    outcome
    (check (room_in_three (length ids) (length reference) (length claimed) (length lines)) no_room
    (judged_by (bisected ids) (length ids) (pos 0) (mismatch_vertex rule (take (length ids) reference)) (number_lines most s)))
    (cleared_z claimed)
    (cleared lines)

-- a fraction's terms are below 2^32, as every coefficient's are, and a decimal is near it
unfoldable pub near_within : Fraction → Decimal → Bool
near_within r s = ltb r.0 (2 ^ 32) && (ltb r.1 (2 ^ 32) && near r s)

-- the first vertex, counted from 1, whose decimal is not near its fraction in this way, or at which one of the two lists has ended; or 0
abbrev pub far_within : List Fraction → List Decimal → ℕ
far_within reference claimed = first_place near_within 1 reference claimed

-- the fraction at a place of two areas, of numerators and of denominators
abbrev pub fraction_in : List ℕ → List ℕ → ℕ → Fraction
fraction_in nums dens i = (get_or nums i 0, get_or dens i 0)

-- the fractions at the first n places of two such areas
abbrev pub fractions : ℕ → List ℕ → List ℕ → List Fraction
fractions n nums dens = column (fraction_in nums dens) 0 n

-- what stands for the decimal of a vertex that has no claim line
abbrev pub no_decimal : Decimal
no_decimal = decimal 0 0 0

-- what is said of a claim of at most so many lines on n vertices, of which the first n fractions of the two areas are the coefficients
abbrev pub coefficients_judged : ℕ → List ℤ → List ℕ → List ℕ → List ℕ → Said Verdict
coefficients_judged most ids nums dens s =
    judged_by (bisected ids) (length ids) no_decimal (far_within (fractions (length ids) nums dens)) (coefficient_lines most s)

-- what was said of a claim of coefficients, and what stands in the record of claim lines
pub record Told : Type 0 where
  pub said : Said Verdict
  pub lines : List ℕ

-- the same, by its fields in order
abbrev pub told : Said Verdict → List ℕ → Told
told said lines = record { said = said; lines = lines }

-- 8, then that claim; "working areas are zero throughout"
unfoldable pub coefficients_call : ℕ → List ℤ → List ℕ → List ℕ → List ℕ → List ℕ → Told
coefficients_call most ids nums dens s lines =
    told
    (check (room_in_three (length ids) (length nums) (length dens) (length lines)) no_room (coefficients_judged most ids nums dens s))
    (cleared lines)
