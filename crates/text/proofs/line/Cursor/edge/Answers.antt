use Rattle.text.proofs.Lines.{line-end}
use Rattle.text.proofs.Lines.{edge-read}
use Rattle.text.proofs.Counting.{edge-behind}
use Rattle.text.proofs.line.Cursor.edge.Goals as goal

pub returns-then-s-self : goal.returns-then-s-self
returns-then-s-self c = search line-end

pub line-line-requires : goal.line-line-requires
line-line-requires c = search edge-behind

pub returns : goal.returns
returns c = search edge-read
