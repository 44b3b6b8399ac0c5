use Rattle.std.proofs.Common.{rules}
use Rattle.plan.proofs.Lines.{number-counted}
use Rattle.plan.proofs.line.line_number.Goals as goal

pub returns : goal.returns
returns c = number-counted _ _ _ _ c.min.ensures (search rules)
