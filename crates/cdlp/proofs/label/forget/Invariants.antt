use mathlib.Core.Path.{◌≡◌}
use lib.ListN.{drop}
use Rattle.cdlp.specs.Rounds.{labels_at}
use Rattle.cdlp.specs.Steps.{forgotten}
use Rattle.cdlp.proofs.label.forget.Given as goal

abbrev pub invariant-loop-u : goal.invariant-loop-u
invariant-loop-u l =
    forgotten (labels_at 0 l.labels (drop l.u-index l.part)) l.counts ≡ forgotten (labels_at 0 l.labels l.part) l.initial.counts
