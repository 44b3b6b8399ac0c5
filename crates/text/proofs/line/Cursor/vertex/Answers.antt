use Rattle.text.proofs.Lines.{line-end}
use Rattle.text.proofs.Lines.{vertex-read}
use Rattle.text.proofs.Counting.{vertex-behind}
use Rattle.text.proofs.line.Cursor.vertex.Goals as goal

pub returns-then-s-self : goal.returns-then-s-self
returns-then-s-self c = search line-end

pub line-line-requires : goal.line-line-requires
line-line-requires c = search vertex-behind

pub returns : goal.returns
returns c = search vertex-read
