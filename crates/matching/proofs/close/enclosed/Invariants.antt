use Rattle.matching.proofs.Closeness.{Dropped}
use Rattle.matching.proofs.close.enclosed.Given as goal

abbrev pub invariant-loop : goal.invariant-loop
invariant-loop l = Dropped l.n l.d l.rest l.part l.exact l.counter
