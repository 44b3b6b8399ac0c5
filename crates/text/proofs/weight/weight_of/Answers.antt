use Rattle.text.specs.Scan.{read_says}
use Rattle.text.proofs.Scans.{passed-on}
use Rattle.text.proofs.Weighing.{whole-inside, weight-none, weight-some}
use Rattle.text.proofs.weight.weight_of.Goals as goal

pub returns-in_err-x : goal.returns-in_err-x
returns-in_err-x c = passed-on read_says _ _ _ c.from_residual.ensures.1 (weight-none _ _ c.in_err-x.ensures)

pub behind-requires : goal.behind-requires
behind-requires c = whole-inside _ _ c.in_ok-x.ensures

pub returns : goal.returns
returns c = weight-some _ _ c.in_ok-x.ensures _ c.behind.ensures
