use lib.ListN.{length}
use Rattle.matching.specs.Steps.{counted}
use Rattle.matching.proofs.NumberLines.{Numbers}
use Rattle.matching.proofs.reading.read_numbers.Given as goal

abbrev pub invariant-loop-k : goal.invariant-loop-k
invariant-loop-k l =
    Numbers l.most l.ids l.claim (length l.initial.claimed) (length l.initial.lines) l.claimed l.lines l.cursor.at l.k (counted l.stray)
