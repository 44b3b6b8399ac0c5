use mathlib.Core.Path.{◌≡◌}
use mathlib.Core.List.{◌++◌}
use lib.IntN.{pos}
use lib.ListN.{get_or, drop}
use Rattle.basis.specs.Area.{column}
use Rattle.sssp.proofs.search.sign.Given as goal

abbrev pub invariant-loop-v : goal.invariant-loop-v
invariant-loop-v l = l.distance ≡ column (λ u. pos (get_or l.dist u 0)) 0 l.v ++ drop l.v l.initial.distance
