use Rattle.text.proofs.Bytes.{end-first}
use Rattle.text.proofs.count.line_end.Goals as goal

pub returns-in-Some : goal.returns-in-Some
returns-in-Some c = end-first _ _ _ _ _ _ c.in-Some.ensures.lookup.0.2 c.first_lf.ensures c.unwrap_or.ensures
