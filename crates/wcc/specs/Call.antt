-- The rules "The loaded graph" and "Kernels": what the WCC call answers, and what it leaves in the areas lent for writing.
use Rattle.std.specs.Prelude.{ℕ, Bool, true, ◌&&◌, List, ℤ, pos, length, leb}
use Rattle.basis.specs.Refusal.{Said, refuses, plain}
use Rattle.basis.specs.Area.{leaves, cleared, cleared_z}
use Rattle.graph.specs.Sound.{Graph, sound_graph}
use Rattle.kernels.specs.Answer.{kernel_says}
use Rattle.wcc.specs.Component.{wcc_of}

-- The answer, and what stands in the result area and in the working area. While the components are found, the result area holds the book
-- and the working area serves the check of the graph and then holds each vertex's head: "one area for the book", and none of its own.
pub record Outcome : Type 0 where
  pub said : Said (Unit {0})
  pub result : List ℤ
  pub heads : List ℕ

-- the same, by its fields in order
abbrev pub outcome : Said (Unit {0}) → List ℤ → List ℕ → Outcome
outcome said result heads = record { said = said; result = result; heads = heads }

-- "fill every area lent for writing with zero": a refusal with its number
abbrev pub refusal : ℕ → List ℤ → List ℕ → Outcome
refusal number result heads = outcome (refuses (plain number)) (cleared_z result) (cleared heads)

-- "each result or working area needs n places"
unfoldable pub room_for : ℕ → List ℤ → List ℕ → Bool
room_for n result heads = leb n (length result) && leb n (length heads)

-- with an answer: the labels in the result area with zeros behind them, or zeros where refused; "working areas are zero throughout"
unfoldable pub left_by : Said (Unit {0}) → Graph → List ℤ → List ℕ → Outcome
left_by said g result heads = outcome said (leaves said (pos 0) (length result) (wcc_of g)) (cleared heads)

-- "Kernels check 9, then 10 or 11, then 8", of which WCC has no parameter to check
unfoldable pub wcc_call : Graph → List ℤ → List ℕ → Outcome
wcc_call g result heads = left_by (kernel_says (sound_graph g) true 0 (room_for g.vertices result heads)) g result heads
