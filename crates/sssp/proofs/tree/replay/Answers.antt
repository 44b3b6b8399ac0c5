use native.Mathlib.Omega.{arith}
use Rattle.sssp.proofs.Winners.{playing-first, playing-more, playing-stop, playing-end}
use Rattle.sssp.proofs.tree.replay.Goals as goal

pub loop-at-init : goal.loop-at-init
loop-at-init c = playing-first _ _ _ c.requires

pub returns-then-after-v : goal.returns-then-after-v
returns-then-after-v c =
    playing-stop _ _ _ _ _ _ c.loop-at.invariant c.play.ensures (omega arith) c.if-after-before.true c.if-after-v.true

pub loop-at-preserved : goal.loop-at-preserved
loop-at-preserved c = playing-more _ _ _ _ _ _ c.loop-at.invariant c.play.ensures

pub returns : goal.returns
returns c = playing-end _ _ _ _ _ c.loop-at.invariant (omega arith)
