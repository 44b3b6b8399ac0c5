use Prim.Native.Nat.{◌+◌}
use mathlib.Core.Path.{◌≡◌}
use lib.ListN.{drop}
use Rattle.cdlp.specs.Rounds.{labels_at}
use Rattle.basis.specs.Limits.{most_vertices}
use Rattle.cdlp.specs.Steps.{Under, poll, polled_all}
use Rattle.cdlp.proofs.label.hear.Given as goal

abbrev pub invariant-loop-u : goal.invariant-loop-u
invariant-loop-u l =
    Under (most_vertices + l.u-index) l.counts
    × (polled_all (labels_at 0 l.labels (drop l.u-index l.part)) (poll l.counts l.best)
    ≡ polled_all (labels_at 0 l.labels l.part) (poll l.initial.counts l.initial.best))
