use mathlib.Core.Path.{◌∙◌}
use mir.Facts.{to_z-of_z}
use Rattle.graph.proofs.Finds.{searched, bisect-signed}
use Rattle.graph.proofs.find.find.Goals as goal

pub returns : goal.returns
returns c = searched _ _ _ (rw (← to_z-of_z c.ranges.id) (c.bisect.ensures ∙ bisect-signed _ _))
