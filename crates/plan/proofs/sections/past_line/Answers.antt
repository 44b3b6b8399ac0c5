use mathlib.Core.Path.{sym, ◌∙◌}
use Rattle.plan.proofs.Checks.{past-line, past_open}
use Rattle.text.proofs.Bytes.{has-below}
use native.Mathlib.Omega.{arith}
use Rattle.plan.proofs.sections.past_line.Goals as goal

pub overflow_add-result : goal.overflow_add-result
overflow_add-result c = omega (arith, has-below _ _ _ (sym c.has.ensures ∙ c.if-has.true))

pub returns-then-has : goal.returns-then-has
returns-then-has c = search past-line

pub returns-else-has : goal.returns-else-has
returns-else-has c = search past_open
