use mathlib.Core.Path.{◌≡◌}
use Rattle.graph.specs.Sound.{standing}
use Rattle.cdlp.specs.Steps.{numbers_after}
use Rattle.cdlp.proofs.rounds.turns.Given as goal

abbrev pub invariant-loop : goal.invariant-loop
invariant-loop l =
    (l.counts ≡ l.initial.counts)
    × (l.labels ≡ numbers_after (standing l.g) l.initial.labels l.counter)
