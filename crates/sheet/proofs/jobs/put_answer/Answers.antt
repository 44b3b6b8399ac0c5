use Rattle.sheet.proofs.Ran.{ran-done}
use Rattle.sheet.proofs.jobs.put_answer.Goals as goal

pub returns-in-Ok : goal.returns-in-Ok
returns-in-Ok g c = λ text h. ran-done _ _ _ _ _ _ _ c.in-Ok.is c.put_head-next.ensures (h _ _ _ _ c.lines.ensures)
