-- The rules "Claims and verdicts": the verdict on a lent graph at library limits, as a number.
use Rattle.std.specs.Prelude.{ℕ, List, ℤ}
use Rattle.basis.specs.declared.refusal.Refusal.{Refusal}
use Rattle.basis.specs.Refusal.{Said, gives, refuses, at}
use Rattle.matching.specs.Verdict.{Verdict}
use Rattle.verdicts.specs.Call.{Outcome}
use Rattle.trace.specs.Code.{placed}

-- a verdict's three numbers as those of a refusal, or a refusal as it is
abbrev pub as_refusal : Said Verdict → Refusal
as_refusal (gives v) = at v.number v.file v.line
as_refusal (refuses r) = r

-- the answer, and what stands in the six areas
pub record JudgeTold : Type 0 where
  pub answer : ℕ
  pub result : List ℤ
  pub claimed : List ℤ
  pub first : List ℕ
  pub second : List ℕ
  pub third : List ℕ
  pub lines : List ℕ

-- the same, by its fields in order
abbrev pub judge_told : ℕ → List ℤ → List ℤ → List ℕ → List ℕ → List ℕ → List ℕ → JudgeTold
judge_told answer result claimed first second third lines =
    record { answer = answer; result = result; claimed = claimed; first = first; second = second; third = third; lines = lines }

-- what a verdict tells by its outcome: its three numbers, or a refusal's, as one, and the areas as they stand
unfoldable pub judge_tells : Outcome → JudgeTold
judge_tells o = judge_told (placed (as_refusal o.said)) o.result o.claimed o.first o.second o.third o.lines
