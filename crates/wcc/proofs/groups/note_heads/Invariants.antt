use mathlib.Core.Path.{◌≡◌}
use mathlib.Core.List.{◌++◌}
use lib.ListN.{drop}
use Rattle.basis.specs.Area.{column}
use Rattle.wcc.specs.Steps.{head_here}
use Rattle.wcc.proofs.groups.note_heads.Given as goal

abbrev pub invariant-loop-v : goal.invariant-loop-v
invariant-loop-v l = l.heads ≡ column (head_here l.entries) 0 l.v ++ drop l.v l.initial.heads
