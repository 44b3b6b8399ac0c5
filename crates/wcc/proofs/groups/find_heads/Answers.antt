use Rattle.wcc.proofs.Steps.{heads-found}
use Rattle.wcc.proofs.groups.find_heads.Goals as goal

pub returns : goal.returns
returns c = search heads-found
