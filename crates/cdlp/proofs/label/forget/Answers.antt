use Rattle.cdlp.proofs.Polls.{forget-more, forget-end}
use Rattle.cdlp.proofs.label.forget.Goals as goal

pub loop-u-preserved : goal.loop-u-preserved
loop-u-preserved c = forget-more _ _ c.loop-u.u-index _ _ c.loop-u-test.true c.loop-u.invariant

pub returns : goal.returns
returns c = forget-end _ _ c.loop-u.u-index _ _ c.loop-u-test.false c.loop-u.invariant
