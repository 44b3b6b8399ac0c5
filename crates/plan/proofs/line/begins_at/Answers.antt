use Rattle.plan.proofs.Words.{starts-at}
use Rattle.plan.proofs.line.begins_at.Goals as goal

pub returns : goal.returns
returns c = search starts-at
