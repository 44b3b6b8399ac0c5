use Rattle.verdicts.proofs.Calls.{unknown-all}
use Rattle.verdicts.proofs.verdict.refuse_unknown.Goals as goal

pub returns : goal.returns
returns c = search unknown-all
