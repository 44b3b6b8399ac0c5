use mathlib.Core.Path.{◌≡◌}
use lib.ListN.{length}
use Rattle.wcc.specs.Steps.{noted, marked}
use Rattle.wcc.proofs.labels.mark.Given as goal

abbrev pub invariant-loop-v : goal.invariant-loop-v
invariant-loop-v l =
    marked (noted l.heads) l.ids l.v l.res ≡ marked (noted l.heads) l.ids (length l.initial.res) l.initial.res
