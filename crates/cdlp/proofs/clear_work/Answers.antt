use Rattle.cdlp.proofs.Calls.{works}
use Rattle.cdlp.proofs.clear_work.Goals as goal

pub returns : goal.returns
returns c = search works
