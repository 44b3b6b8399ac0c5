use Rattle.sssp.specs.Tree.{Played}
use Prim.Native.Nat.{◌<◌}
use Rattle.sssp.proofs.tree.build.Given as goal

abbrev pub invariant-loop-k : goal.invariant-loop-k
invariant-loop-k l = Played (λ i. i < l.k) l.key l.tree
