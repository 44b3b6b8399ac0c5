use Rattle.wcc.proofs.Steps.{head-given, head-refused}
use Rattle.wcc.proofs.groups.head_of.Goals as goal

pub returns-in-Ok : goal.returns-in-Ok
returns-in-Ok c = search head-given

pub returns-in-Err : goal.returns-in-Err
returns-in-Err c = search head-refused
