use Rattle.std.proofs.lemmas.Result.{err_from_is_err_and}
use Rattle.book.proofs.Each.{walking-refused, next-missing, next-lost, next-lost2, next-first}
use Rattle.book.proofs.Each.{next-second, next-first-in, next-joined, next-top, next-under}
use borrow.Author.Rules.{rules}
use Rattle.book.proofs.joining.join_next.Goals as goal

pub returns-then-entries-w : goal.returns-then-entries-w
returns-then-entries-w c = (search next-missing, search rules)

pub returns-in_err-first : goal.returns-in_err-first
returns-in_err-first c =
    let p = err_from_is_err_and c.from_residual.result c.from_residual.ensures.1 in
    (rw (p.1, p.2) (next-lost _ _ _ c.requires _ c.if-entries-w.false _ c.in_err-first.was), c.requires)

pub returns-in_err-second : goal.returns-in_err-second
returns-in_err-second c =
    let p = err_from_is_err_and c.from_residual-in_err-second.result c.from_residual-in_err-second.ensures.1 in
    (rw (p.1, p.2) (next-lost2 _ _ _ c.requires _ c.if-entries-w.false _ _ c.in_ok-first.was _ c.in_err-second.ensures), c.requires)

pub link-requires : goal.link-requires
link-requires c =
    let l = c.if-entries-w.false in (
      next-first _ _ _ c.requires _ l _ _ c.in_ok-first.was _ _ c.in_ok-second.ensures,
      next-second _ _ _ c.requires _ l _ _ c.in_ok-first.was _ _ c.in_ok-second.ensures,
    )

pub returns-in_err-joining : goal.returns-in_err-joining
returns-in_err-joining c =
    let p = err_from_is_err_and c.from_residual-in_err-joining.result c.from_residual-in_err-joining.ensures.1 in
    let l = c.if-entries-w.false in (
      rw (p.1, p.2)
          (next-joined _ _ _ c.requires _ l _ _ c.in_ok-first.was _ _ c.in_ok-second.ensures _ _ c.in_err-joining.ensures),
      walking-refused _ _ _ c.requires _ _ _ _ c.in_err-joining.ensures,
    )

pub is_head-requires : goal.is_head-requires
is_head-requires c =
    next-first-in _ _ _ c.requires _ c.if-entries-w.false _ _ c.in_ok-first.was _ _ c.in_ok-second.ensures _ c.link.auto.entries

pub returns-then-not-is_head : goal.returns-then-not-is_head
returns-then-not-is_head c =
    let l = c.if-entries-w.false in (
      next-joined _ _ _ c.requires _ l _ _ c.in_ok-first.was _ _ c.in_ok-second.ensures _ _ c.in_ok-joining.ensures,
      next-under _ _ _ c.requires _ l _ _ c.in_ok-first.was _ _ c.in_ok-second.ensures _ c.is_head.result c.is_head.ensures _
          c.in_ok-joining.ensures c.if-not-is_head.true _ c.longer.ensures,
    )

pub returns-else-not-is_head : goal.returns-else-not-is_head
returns-else-not-is_head c =
    let l = c.if-entries-w.false in (
      next-joined _ _ _ c.requires _ l _ _ c.in_ok-first.was _ _ c.in_ok-second.ensures _ _ c.in_ok-joining.ensures,
      next-top _ _ _ c.requires _ l _ _ c.in_ok-first.was _ _ c.in_ok-second.ensures _ c.is_head.result c.is_head.ensures _
          c.in_ok-joining.ensures c.if-not-is_head.false,
    )
