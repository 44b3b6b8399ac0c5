use Rattle.std.proofs.lemmas.Result.{err_from_is_err_and}
use Rattle.book.proofs.Calls.{size-refused}
use Rattle.book.proofs.Areas.{head_read, read-large, read_is}
use Rattle.book.proofs.readings.group_size.Goals as goal

pub returns-in_err-top : goal.returns-in_err-top
returns-in_err-top c =
    let p = err_from_is_err_and c.from_residual.result c.from_residual.ensures.1 in
    rw (p.1, p.2) (size-refused _ _ _ c.in_err-top.ensures)

pub size_at-size-requires : goal.size_at-size-requires
size_at-size-requires c = head_read _ _ _ _ c.in_ok-top.ensures

pub returns-then-entries-size : goal.returns-then-entries-size
returns-then-entries-size c =
    read-large _ _ _ _ c.in_ok-top.ensures _ c.size_at-size.ensures _ c.if-entries-size.true c.plain.ensures

pub returns : goal.returns
returns c = read_is _ _ _ _ c.in_ok-top.ensures _ c.size_at-size.ensures c.if-entries-size.false
