use Rattle.std.proofs.Math.Nat.{sub-zero}
use Rattle.plan.proofs.Checks.{lines_end, lines_more, lines-refused}
use Rattle.std.proofs.lemmas.Result.{err_from_is_err_and}
use Rattle.plan.proofs.sections.lines_past.Goals as goal

pub loop-init : goal.loop-init
loop-init g c = λ jobs s h. rw sub-zero

pub returns-in_err-at : goal.returns-in_err-at
returns-in_err-at g c = λ jobs s h.
    let p = err_from_is_err_and c.from_residual.result c.from_residual.ensures.1 in
    rw (p.1, p.2) (lines-refused s jobs _ _ _ (c.loop.invariant jobs s h) c.loop-test.true c.in_err-at.field-0.0
    (h c.loop.at _ c.in_err-at.ensures))

pub loop-preserved : goal.loop-preserved
loop-preserved g c = λ jobs s h. lines_more s jobs _ _ _ (c.loop.invariant jobs s h) c.loop-test.true _ (h _ _ c.in_ok-at.ensures)

pub returns : goal.returns
returns g c = λ jobs s h. lines_end s jobs _ _ _ (c.loop.invariant jobs s h) c.loop-test.false
