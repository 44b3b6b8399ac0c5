-- The rules "The loaded graph" and "Kernels": what the CDLP call answers, and what it leaves in the areas lent for writing.
use Rattle.std.specs.Prelude.{ℕ, Bool, not, ◌&&◌, List, ℤ, pos, nat_abs, length, leb}
use Rattle.std.specs.Int.Signed.{lt_z}
use Rattle.basis.specs.Refusal.{Said, refuses, plain, bad_rounds}
use Rattle.basis.specs.Area.{leaves, cleared, cleared_z}
use Rattle.graph.specs.Sound.{Graph, sound_graph}
use Rattle.kernels.specs.Answer.{kernel_says}
use Rattle.cdlp.specs.Rounds.{cdlp_of}

-- the answer, and what stands in the result area and in the three working areas
pub record Outcome : Type 0 where
  pub said : Said (Unit {0})
  pub result : List ℤ
  pub labels : List ℕ
  pub next : List ℕ
  pub counts : List ℕ

-- the same, by its fields in order
abbrev pub outcome : Said (Unit {0}) → List ℤ → List ℕ → List ℕ → List ℕ → Outcome
outcome said result labels next counts = record { said = said; result = result; labels = labels; next = next; counts = counts }

-- "fill every area lent for writing with zero": a refusal with its number
abbrev pub refusal : ℕ → List ℤ → List ℕ → List ℕ → List ℕ → Outcome
refusal number result labels next counts =
    outcome (refuses (plain number)) (cleared_z result) (cleared labels) (cleared next) (cleared counts)

-- "1,000 CDLP iterations", of the library limits
abbrev pub most_rounds : ℕ
most_rounds = 1000

-- "CDLP iterations are negative or above 1,000": these are neither
unfoldable pub good_rounds : ℤ → Bool
good_rounds z = not (lt_z z (pos 0)) && not (lt_z (pos most_rounds) z)

-- "each result or working area needs n places"
unfoldable pub room_for : ℕ → List ℤ → List ℕ → List ℕ → List ℕ → Bool
room_for n result labels next counts =
    leb n (length result) && leb n (length labels) && leb n (length next) && leb n (length counts)

-- with an answer: the labels after k rounds in the result area with zeros behind them, or zeros where refused;
-- "working areas are zero throughout"
unfoldable pub left_by : Said (Unit {0}) → Graph → ℕ → List ℤ → List ℕ → List ℕ → List ℕ → Outcome
left_by said g k result labels next counts =
    outcome said (leaves said (pos 0) (length result) (cdlp_of g k)) (cleared labels) (cleared next) (cleared counts)

-- "Kernels check 9, then 10 or 11, then 8", of which CDLP has 11
unfoldable pub cdlp_call : Graph → ℤ → List ℤ → List ℕ → List ℕ → List ℕ → Outcome
cdlp_call g z result labels next counts =
    left_by (kernel_says (sound_graph g) (good_rounds z) bad_rounds (room_for g.vertices result labels next counts)) g (nat_abs z)
    result labels next counts
