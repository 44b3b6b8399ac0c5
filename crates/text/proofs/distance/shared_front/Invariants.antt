use Rattle.text.proofs.DistanceTails.{Sharing}
use Rattle.text.proofs.distance.shared_front.Given as goal

abbrev pub invariant-loop-i : goal.invariant-loop-i
invariant-loop-i l = Sharing l.s l.word l.at l.i
