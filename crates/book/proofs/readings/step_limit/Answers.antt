use Rattle.std.proofs.lemmas.Result.{err_from_is_err_and}
use Rattle.book.proofs.Calls.{limit_is, limit-refused}
use Rattle.book.proofs.Areas.{limit-positive, limit-within}
use Rattle.book.proofs.readings.step_limit.Goals as goal

pub returns-in_err-size : goal.returns-in_err-size
returns-in_err-size c =
    let p = err_from_is_err_and c.from_residual.result c.from_residual.ensures.1 in
    rw (p.1, p.2) (limit-refused _ _ _ c.in_err-size.ensures)

pub power_below-requires : goal.power_below-requires
power_below-requires c =
    let e = c.in_ok-size.ensures in
    (limit-positive _ _ _ e, limit-within _ _ _ e)

pub returns : goal.returns
returns c = limit_is _ _ _ c.in_ok-size.ensures _ c.power_below.ensures
