use mathlib.Core.Path.{◌∙◌}
use Rattle.graph.proofs.Runs.{ends-equal}
use Rattle.graph.proofs.walk.at_ends.Goals as goal

pub returns : goal.returns
returns c = c.eq.ensures ∙ ends-equal _ _ _ c.requires.0 c.requires.1
