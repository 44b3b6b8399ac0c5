use Rattle.cdlp.proofs.Calls.{refuse-all}
use Rattle.cdlp.proofs.refuse.Goals as goal

pub returns : goal.returns
returns c = search refuse-all
