use lib.ListN.{length}
use Rattle.matching.specs.Steps.{counted}
use Rattle.matching.proofs.DecimalLines.{Decimals}
use Rattle.matching.proofs.coefficients.read_coefficients.Given as goal

abbrev pub invariant-loop-k : goal.invariant-loop-k
invariant-loop-k l =
    Decimals l.most l.ids l.numerators l.denominators l.claim (length l.initial.lines) l.lines l.cursor.at
    l.k (counted l.stray) (counted l.far)
