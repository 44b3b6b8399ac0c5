use native.Mathlib.Omega.{arith}
use mathlib.Core.Path.{sym, ◌∙◌}
use Rattle.text.proofs.Bytes.{has-below}
use Rattle.text.proofs.Lines.{rest_end}
use Rattle.text.proofs.Tails.{weight-bad-within, weight-value-within, last-bad, last-value, last-open}
use Rattle.text.proofs.weight.weight_rest.Goals as goal

pub slice_bounds-weight_of-end : goal.slice_bounds-weight_of-end
slice_bounds-weight_of-end c = search rest_end

pub overflow_add-result : goal.overflow_add-result
overflow_add-result c = omega (arith, weight-bad-within _ _ _ c.line_end-end.ensures _ c.in-Err.ensures c.requires)

pub overflow_add-q : goal.overflow_add-q
overflow_add-q c = omega (arith, weight-value-within _ _ _ c.line_end-end.ensures _ c.in-Ok.ensures c.requires)

pub overflow_add-result-then-has : goal.overflow_add-result-then-has
overflow_add-result-then-has c = omega (arith, has-below _ _ _ (sym c.has.ensures ∙ c.if-has.true))

pub returns-then-has : goal.returns-then-has
returns-then-has c = last-value _ _ _ c.line_end-end.ensures _ c.in-Ok.ensures _ c.has.ensures c.if-has.true

pub returns-in-Err : goal.returns-in-Err
returns-in-Err c = last-bad _ _ _ c.line_end-end.ensures _ c.in-Err.ensures

pub returns-else-has : goal.returns-else-has
returns-else-has c = last-open _ _ _ c.line_end-end.ensures _ c.in-Ok.ensures _ c.has.ensures c.if-has.false
