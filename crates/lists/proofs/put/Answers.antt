use lib.Seq.{set_out}
use mathlib.Core.Path.{sym}
use Rattle.lists.proofs.put.Goals as goal

pub returns-else-i-area : goal.returns-else-i-area
returns-else-i-area g c = sym (set_out _ _ _ c.if-i-area.false)
