-- The rules "The loaded graph" and "Kernels": what the BFS call answers, and what it leaves in the areas lent for writing.
use Rattle.std.specs.Prelude.{ℕ, Bool, ◌&&◌, Option, Some, None, List, [], ℤ, pos, length, leb}
use Rattle.basis.specs.Refusal.{Said, refuses, plain, not_there}
use Rattle.basis.specs.Area.{leaves, cleared, cleared_z}
use Rattle.graph.specs.Find.{place_in, is_there}
use Rattle.graph.specs.Sound.{Graph, outward, names, sound_graph}
use Rattle.kernels.specs.Answer.{kernel_says}
use Rattle.bfs.specs.Depth.{depths}

-- the answer, and what stands in the result area and in the working area
pub record Outcome : Type 0 where
  pub said : Said (Unit {0})
  pub depth : List ℤ
  pub queue : List ℕ

-- the same, by its fields in order
abbrev pub outcome : Said (Unit {0}) → List ℤ → List ℕ → Outcome
outcome said depth queue = record { said = said; depth = depth; queue = queue }

-- "fill every area lent for writing with zero": a refusal with its number
abbrev pub refusal : ℕ → List ℤ → List ℕ → Outcome
refusal number depth queue = outcome (refuses (plain number)) (cleared_z depth) (cleared queue)

-- the depths from a root that is there
abbrev pub depths_from : Graph → Option ℕ → List ℤ
depths_from g (Some root) = depths g.vertices (outward g) root
depths_from g None = []

-- "each result or working area needs n places"
unfoldable pub room_for : ℕ → List ℤ → List ℕ → Bool
room_for n depth queue = leb n (length depth) && leb n (length queue)

-- with an answer: the depths from the root's place in the result area with zeros behind them, or zeros where refused;
-- "working areas are zero throughout"
unfoldable pub left_by : Said (Unit {0}) → Graph → Option ℕ → List ℤ → List ℕ → Outcome
left_by said g place depth queue = outcome said (leaves said (pos 0) (length depth) (depths_from g place)) (cleared queue)

-- "Kernels check 9, then 10 or 11, then 8", of which BFS has 10; the root is "given by identifier"
unfoldable pub bfs_call : Graph → ℤ → List ℤ → List ℕ → Outcome
bfs_call g root depth queue =
    let place = place_in (names g) root in
    left_by (kernel_says (sound_graph g) (is_there place) not_there (room_for g.vertices depth queue)) g place depth queue
