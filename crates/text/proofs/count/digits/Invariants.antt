use Rattle.text.proofs.Runs.{Running}
use Rattle.text.proofs.count.digits.Given as goal

abbrev pub invariant-loop-i : goal.invariant-loop-i
invariant-loop-i l = Running l.s l.from l.start l.value l.i
