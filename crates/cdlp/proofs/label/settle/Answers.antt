use mathlib.Core.Path.{◌∙◌}
use Rattle.cdlp.proofs.Polls.{settle-first, settle-second, labelled-in, labelled_out, settle-label, settle-counts}
use Rattle.cdlp.proofs.label.settle.Goals as goal

pub hear-first-requires : goal.hear-first-requires
hear-first-requires c = search settle-first

pub hear-last-requires : goal.hear-last-requires
hear-last-requires c = search settle-second

pub forget-requires : goal.forget-requires
forget-requires c =
    labelled-in c.requires
    (c.hear-last.auto.counts ∙ c.hear-first.auto.counts)

pub forget-requires-2 : goal.forget-requires-2
forget-requires-2 c =
    labelled_out c.requires (c.forget.auto.counts ∙ c.hear-last.auto.counts ∙ c.hear-first.auto.counts)

pub returns : goal.returns
returns c = record {
  label = search settle-label;
  counts = search settle-counts;
}
