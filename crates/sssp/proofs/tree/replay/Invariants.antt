use Rattle.sssp.proofs.Winners.{Playing}
use Rattle.sssp.proofs.tree.replay.Given as goal

abbrev pub invariant-loop-at : goal.invariant-loop-at
invariant-loop-at l = Playing l.v l.key l.initial.tree l.tree l.at

abbrev pub decreases-loop-at : goal.decreases-loop-at
decreases-loop-at l = l.at
