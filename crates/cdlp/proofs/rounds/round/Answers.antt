use mathlib.Core.Path.{refl, ◌∙◌}
use Rattle.cdlp.proofs.Turns.{two-parts-of, filled_none, filled_more, filled-all}
use Rattle.cdlp.proofs.rounds.round.Goals as goal

pub loop-v-init : goal.loop-v-init
loop-v-init c = (refl, search filled_none)

pub settle-requires : goal.settle-requires
settle-requires c = search two-parts-of

pub loop-v-preserved : goal.loop-v-preserved
loop-v-preserved c = (
  c.settle.ensures.counts ∙ c.loop-v.invariant.0,
  filled_more c.requires c.loop-v-test.true c.loop-v.invariant.1
      c.neighbours-inward.ensures c.neighbours-outward.ensures
      c.settle.ensures.label,
)

pub returns : goal.returns
returns c = record {
  next = search filled-all;
  counts = c.loop-v.invariant.0;
}
