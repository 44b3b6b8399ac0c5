use Rattle.lcc.proofs.Ratios.{reduce-by, reduce-none}
use Rattle.lcc.proofs.ratio.reduced.Goals as goal

pub returns-then-g-eq0 : goal.returns-then-g-eq0
returns-then-g-eq0 c = search reduce-none

pub returns : goal.returns
returns c = search reduce-by
