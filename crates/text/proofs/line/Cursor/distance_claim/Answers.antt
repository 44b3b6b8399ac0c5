use Rattle.text.proofs.Lines.{line-end}
use Rattle.text.proofs.DistanceTails.{distance-read}
use Rattle.text.proofs.DistanceTails.{distance-behind}
use Rattle.text.proofs.line.Cursor.distance_claim.Goals as goal

pub returns-then-s-self : goal.returns-then-s-self
returns-then-s-self c = search line-end

pub line-line-requires : goal.line-line-requires
line-line-requires c = search distance-behind

pub returns : goal.returns
returns c = search distance-read
