use Rattle.plan.proofs.Checks.{count-bad, count-open, count-over, count-good}
use Rattle.plan.proofs.Words.{has_in}
use native.Mathlib.Omega.{arith}
use Rattle.plan.proofs.sections.count_line.Goals as goal

pub returns-in_default : goal.returns-in_default
returns-in_default c = count-bad _ _ _ _ _ c.in_default.ensures c.sheet_fault.ensures

pub returns-then-not-has : goal.returns-then-not-has
returns-then-not-has c =
    count-open _ _ _ c.requires _ _ c.in-Ok.ensures _ c.has.ensures c.if-not-has.true _ c.sheet_fault-then-not-has.ensures

pub returns-then-limit-n : goal.returns-then-limit-n
returns-then-limit-n c =
    count-over _ _ _ c.requires _ _ c.in-Ok.ensures _ c.has.ensures c.if-not-has.false c.if-limit-n.true _
    c.sheet_fault-then-limit-n.ensures

pub overflow_add-result : goal.overflow_add-result
overflow_add-result c = omega (arith, has_in _ _ _ _ c.has.ensures c.if-not-has.false)

pub returns : goal.returns
returns c = count-good _ _ _ c.requires _ _ c.in-Ok.ensures _ c.has.ensures c.if-not-has.false c.if-limit-n.false
