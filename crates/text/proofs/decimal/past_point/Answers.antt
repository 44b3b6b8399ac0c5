use native.Mathlib.Omega.{arith}
use mathlib.Core.Path.{sym, ◌∙◌}
use Rattle.text.proofs.Bytes.{has-below}
use Rattle.text.proofs.Decimals.{point-yes, no-point}
use Rattle.text.proofs.decimal.past_point.Goals as goal

pub overflow_add-result : goal.overflow_add-result
overflow_add-result c = omega (arith, has-below _ _ _ (sym c.has.ensures ∙ c.if-has.true))

pub returns-then-has : goal.returns-then-has
returns-then-has c = point-yes _ _ (sym c.has.ensures ∙ c.if-has.true)

pub returns-else-has : goal.returns-else-has
returns-else-has c = no-point _ _ (sym c.has.ensures ∙ c.if-has.false)
