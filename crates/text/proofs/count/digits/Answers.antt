use mathlib.Core.Path.{sym, ◌∙◌}
use Rattle.text.proofs.Bytes.{digit-is}
use Rattle.text.proofs.Runs.{running-start, running_more, running-stop, running-out}
use Rattle.text.proofs.count.digits.Goals as goal

pub loop-i-init : goal.loop-i-init
loop-i-init c = search running-start

pub returns-then-not-is_ascii_digit : goal.returns-then-not-is_ascii_digit
returns-then-not-is_ascii_digit c =
    running-stop _ _ _ _ _ c.loop-i.invariant c.loop-i-test.true
    (sym (digit-is _) ∙ sym c.is_ascii_digit.ensures.value ∙ c.if-not-is_ascii_digit.true)

pub loop-i-preserved : goal.loop-i-preserved
loop-i-preserved c =
    let w = c.if-not-is_ascii_digit.ensures.cases in
    running_more _ _ _ _ _ _ c.loop-i.invariant c.loop-i-test.true w.0 w.1 c.step-value.ensures

pub returns : goal.returns
returns c =
    running-out _ _ _ _ _ c.loop-i.invariant c.loop-i-test.false c.loop-i.auto.i-end _ c.max.ensures
