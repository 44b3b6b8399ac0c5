use Rattle.lcc.proofs.Calls.{refuse-all}
use Rattle.lcc.proofs.refuse.Goals as goal

pub returns : goal.returns
returns c = search refuse-all
