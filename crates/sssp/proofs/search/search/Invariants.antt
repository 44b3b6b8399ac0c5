use Prim.Native.Nat.{◌-◌}
use Rattle.graph.specs.Part.{part_of}
use Rattle.sssp.proofs.Serving.{seen}
use Rattle.sssp.proofs.Turns.{Turn}
use Rattle.sssp.proofs.search.search.Given as goal

abbrev pub invariant-loop-u : goal.invariant-loop-u
invariant-loop-u l =
    Turn l.n (part_of l.n l.out.offsets.now l.out.targets.now) (part_of l.n l.out.offsets.now l.weights) l.root l.dist l.key l.tree

abbrev pub decreases-loop-u : goal.decreases-loop-u
decreases-loop-u l = l.n - seen l.dist
