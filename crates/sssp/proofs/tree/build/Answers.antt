use native.Mathlib.Omega.{arith}
use Rattle.sssp.proofs.Winners.{build-more}
use Rattle.sssp.proofs.tree.build.Goals as goal

pub loop-k-preserved : goal.loop-k-preserved
loop-k-preserved c =
    let r = c.loop-k.invariant.ready in
    build-more _ _ _ _ c.loop-k.invariant (omega arith) c.loop-k-test.true c.play.ensures
