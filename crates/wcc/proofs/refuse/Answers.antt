use Rattle.wcc.proofs.Calls.{refuse-all}
use Rattle.wcc.proofs.refuse.Goals as goal

pub returns : goal.returns
returns c = search refuse-all
