use native.Mathlib.Omega.{arith}
use mathlib.Core.Path.{sym, ◌∙◌}
use Rattle.text.proofs.Bytes.{has-below}
use Rattle.text.proofs.Lines.{rest_end, rest-inside, rest-bad, rest-value, rest-open}
use Rattle.text.proofs.line.decimal_rest.Goals as goal

pub slice_bounds-decimal_of-end : goal.slice_bounds-decimal_of-end
slice_bounds-decimal_of-end c = search rest_end

pub overflow_add-result : goal.overflow_add-result
overflow_add-result c = omega (arith, rest-inside _ _ _ c.line_end-end.ensures _ c.in-Err.ensures c.requires)

pub overflow_add-result-then-has : goal.overflow_add-result-then-has
overflow_add-result-then-has c = omega (arith, has-below _ _ _ (sym c.has.ensures ∙ c.if-has.true))

pub returns-then-has : goal.returns-then-has
returns-then-has c = rest-value _ _ _ c.line_end-end.ensures _ c.in-Ok.ensures _ c.has.ensures c.if-has.true

pub returns-in-Err : goal.returns-in-Err
returns-in-Err c = rest-bad _ _ _ c.line_end-end.ensures _ c.in-Err.ensures

pub returns-else-has : goal.returns-else-has
returns-else-has c = rest-open _ _ _ c.line_end-end.ensures _ c.in-Ok.ensures _ c.has.ensures c.if-has.false
