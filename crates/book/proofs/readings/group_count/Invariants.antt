use mathlib.Core.Path.{◌≡◌}
use Rattle.book.specs.Rules.{tally, is_stop}
use Rattle.book.specs.One.{next_here}
use Rattle.book.proofs.readings.group_count.Given as goal

abbrev pub invariant-loop-v : goal.invariant-loop-v
invariant-loop-v l = l.count ≡ tally (λ v. is_stop (next_here l.entries v)) l.v
