use Rattle.write.proofs.Places.{millionths-whole, millionths-rest}
use Rattle.write.proofs.millionths.put_millionths.Goals as goal

pub returns-then-rest-eq0 : goal.returns-then-rest-eq0
returns-then-rest-eq0 c = search millionths-whole

pub returns : goal.returns
returns c = search millionths-rest
