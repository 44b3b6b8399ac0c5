use Prim.Native.Nat.{◌-◌}
use Rattle.graph.specs.Part.{part_of}
use Rattle.bfs.specs.Steps.{board}
use Rattle.bfs.proofs.Queue.{Serving}
use Rattle.bfs.proofs.search.Given as goal

abbrev pub invariant-loop-head : goal.invariant-loop-head
invariant-loop-head l =
    Serving l.n (part_of l.n l.out.offsets.now l.out.targets.now) l.root (board l.depth l.queue l.tail) l.ring l.head

abbrev pub decreases-loop-head : goal.decreases-loop-head
decreases-loop-head l = l.n - l.head
