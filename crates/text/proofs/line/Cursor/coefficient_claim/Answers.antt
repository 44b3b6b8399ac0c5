use Rattle.text.proofs.Lines.{line-end}
use Rattle.text.proofs.Lines.{coefficient-read}
use Rattle.text.proofs.Counting.{coefficient-behind}
use Rattle.text.proofs.line.Cursor.coefficient_claim.Goals as goal

pub returns-then-s-self : goal.returns-then-s-self
returns-then-s-self c = search line-end

pub line-line-requires : goal.line-line-requires
line-line-requires c = search coefficient-behind

pub returns : goal.returns
returns c = search coefficient-read
