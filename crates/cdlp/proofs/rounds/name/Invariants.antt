use mathlib.Core.List.{◌++◌}
use mathlib.Core.Path.{◌≡◌}
use lib.ListN.{drop}
use lib.IntN.{pos}
use Rattle.basis.specs.Area.{column}
use Rattle.cdlp.proofs.Lists.{look}
use Rattle.cdlp.proofs.rounds.name.Given as goal

abbrev pub invariant-loop-v : goal.invariant-loop-v
invariant-loop-v l = l.res ≡ column (look (pos 0) l.ids l.labels) 0 l.v ++ drop l.v l.initial.res
