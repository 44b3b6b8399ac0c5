use Rattle.std.proofs.lemmas.Result.{err_from_is_err_and}
use Rattle.book.proofs.Joins.{one-refused, one-linked, one-first, one-second}
use Rattle.book.proofs.joining.join.Goals as goal

pub link-requires : goal.link-requires
link-requires c =
    let e = c.in_ok-g.ensures in
    (one-first _ _ _ _ _ e, one-second _ _ _ _ _ e)

pub returns : goal.returns
returns c = one-linked _ _ _ _ _ c.in_ok-g.ensures _ c.link.ensures

pub returns-in_err-g : goal.returns-in_err-g
returns-in_err-g c =
    let p = err_from_is_err_and c.from_residual.result c.from_residual.ensures.1 in
    rw (p.1, p.2) (one-refused _ _ _ _ c.in_err-g.ensures)
