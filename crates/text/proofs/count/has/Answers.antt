use Rattle.text.proofs.Bytes.{has-get}
use mathlib.Core.Path.{◌∙◌}
use native.Mathlib.Omega.{arith}
use Rattle.text.proofs.count.has.Goals as goal

pub returns : goal.returns
returns c = let a = c.get.ensures.lookup in c.eq.ensures ∙ has-get _ _ _ _ a.0 (a.4 (omega arith))
