use Rattle.basis.specs.Limits.{most_vertices}
use Rattle.cdlp.proofs.Polls.{label-low, hear-more, hear-end, under_more}
use Rattle.cdlp.proofs.label.hear.Goals as goal

pub loop-u-preserved : goal.loop-u-preserved
loop-u-preserved c =
    let l = c.loop-u in (
      under_more most_vertices l.u-index l.counts _ (label-low c.requires.labelled l.counts l.auto.counts l.u-index c.loop-u-test.true)
          l.invariant.0,
      hear-more _ _ l.u-index l.counts l.best _ _ c.loop-u-test.true l.invariant.1 c.lead-best.ensures,
    )

pub returns : goal.returns
returns c = hear-end _ _ c.loop-u.u-index _ _ c.loop-u-test.false c.loop-u.invariant.1
