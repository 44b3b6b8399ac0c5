use mathlib.Core.Path.{◌≡◌}
use Rattle.wcc.specs.Steps.{noted, taken_over}
use Rattle.wcc.proofs.labels.take_over.Given as goal

abbrev pub invariant-loop-v : goal.invariant-loop-v
invariant-loop-v l = l.res ≡ taken_over (noted l.heads) l.v l.initial.res
