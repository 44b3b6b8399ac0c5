use Prim.Native.Nat.{◌≤◌, ◌-◌}
use lib.ListN.{length}
use Rattle.std.specs.Ordering.{partial_lt}
use Rattle.graph.proofs.Finds.{Halving}
use Rattle.graph.proofs.find.bisect.Given as goal

abbrev pub invariant-loop-low : goal.invariant-loop-low
invariant-loop-low g l = (l.high ≤ length l.list) × Halving (partial_lt g.T.PartialOrd.partial_cmp) l.x l.list l.x l.low l.high

abbrev pub decreases-loop-low : goal.decreases-loop-low
decreases-loop-low g l = l.high - l.low
