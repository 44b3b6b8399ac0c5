use Rattle.text.proofs.Listed.{first-end, first-fault, first-line}
use Rattle.text.proofs.line.has_weights.Goals as goal

pub returns-in-Err : goal.returns-in-Err
returns-in-Err c = first-fault _ _ _ (rw (c.in-Some.is, c.in-Err.is) at c.edge-line.ensures)

pub returns-in-Ok : goal.returns-in-Ok
returns-in-Ok c = first-line _ _ _ (rw (c.in-Some.is, c.in-Ok.is) at c.edge-line.ensures)

pub returns-in-None : goal.returns-in-None
returns-in-None c = first-end _ _ (rw c.in-None.is at c.edge-line.ensures)
