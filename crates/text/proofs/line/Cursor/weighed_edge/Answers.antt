use Rattle.text.proofs.Lines.{line-end}
use Rattle.text.proofs.Tails.{weighed-read}
use Rattle.text.proofs.Tails.{weighed-behind}
use Rattle.text.proofs.line.Cursor.weighed_edge.Goals as goal

pub returns-then-s-self : goal.returns-then-s-self
returns-then-s-self c = search line-end

pub line-line-requires : goal.line-line-requires
line-line-requires c = search weighed-behind

pub returns : goal.returns
returns c = search weighed-read
