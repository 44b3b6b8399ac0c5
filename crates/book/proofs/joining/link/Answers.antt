use Rattle.book.proofs.Joins.{one-already, one-unsound, one-positive, one-within, one-above, one_below}
use borrow.Author.Rules.{rules}
use Rattle.book.proofs.joining.link.Goals as goal

pub returns-then-g-h : goal.returns-then-g-h
returns-then-g-h c = search one-already

pub returns-then-entries-a : goal.returns-then-entries-a
returns-then-entries-a c =
    let p = c.requires in
    one-unsound _ _ _ p.0 p.1 c.if-g-h.false _ _ c.size_at-a.ensures
    c.size_at-b.ensures _ c.if-entries-a.true c.plain.ensures

pub hang-requires : goal.hang-requires
hang-requires c = search (rules, one-positive, one-within)

pub hang-requires-else-goes_above : goal.hang-requires-else-goes_above
hang-requires-else-goes_above c = search (rules, one-positive, one-within)

pub returns-then-goes_above : goal.returns-then-goes_above
returns-then-goes_above c = search one-above

pub returns-else-goes_above : goal.returns-else-goes_above
returns-else-goes_above c = search one_below
