use Rattle.graph.proofs.Runs.{falls-sorted}
use Rattle.graph.proofs.sound.never_fall.Goals as goal

pub returns : goal.returns
returns c = falls-sorted _ _ c.requires _ c.is_sorted.ensures.cases
