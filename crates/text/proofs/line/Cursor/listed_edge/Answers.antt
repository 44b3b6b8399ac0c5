use borrow.Author.Rules.{rules}
use Rattle.text.proofs.Listed.{listed-end, listed-fault, listed-line}
use Rattle.text.proofs.line.Cursor.listed_edge.Goals as goal

pub returns-in-None-line : goal.returns-in-None-line
returns-in-None-line c = listed-end _ _ _ c.if-weighted.false _ (rw c.in-None-line.is at c.edge-line.ensures)

pub returns-in-Err : goal.returns-in-Err
returns-in-Err c = listed-fault _ _ _ c.if-weighted.false _ _ (rw (c.in-Some.is, c.in-Err.is) at c.edge-line.ensures)

pub returns-in-Ok : goal.returns-in-Ok
returns-in-Ok c = search (listed-line _ _ _ c.if-weighted.false _ _ (rw (c.in-Some.is, c.in-Ok.is) at c.edge-line.ensures), rules)
