use Rattle.std.proofs.lemmas.Result.{err_from_is_err_and}
use Rattle.book.proofs.Calls.{same-is, same-refused}
use Rattle.book.proofs.readings.same_group.Goals as goal

pub returns-in_err-g : goal.returns-in_err-g
returns-in_err-g c =
    let p = err_from_is_err_and c.from_residual.result c.from_residual.ensures.1 in
    rw (p.1, p.2) (same-refused _ _ _ _ c.in_err-g.ensures)

pub returns : goal.returns
returns c = same-is _ _ _ _ _ c.in_ok-g.ensures
