use mathlib.Core.Path.{◌≡◌}
use Rattle.graph.specs.Sound.{standing}
use Rattle.cdlp.proofs.Turns.{Filled}
use Rattle.cdlp.proofs.rounds.round.Given as goal

abbrev pub invariant-loop-v : goal.invariant-loop-v
invariant-loop-v l =
    (l.counts ≡ l.initial.counts) × Filled (standing l.g) l.labels l.initial.next l.next l.v
