use Rattle.text.specs.Scan.{read_says}
use Rattle.text.proofs.Scans.{passed-on}
use Rattle.text.proofs.DistanceTails.{letter-stands, distance-bad, distance-finite}
use Rattle.text.proofs.distance.distance_rest.Goals as goal

pub infinity_rest-requires : goal.infinity_rest-requires
infinity_rest-requires c = search letter-stands

pub returns-in_err-x : goal.returns-in_err-x
returns-in_err-x c =
    passed-on read_says _ _ _ c.from_residual.ensures.1 (distance-bad _ _ _ c.has.ensures c.if-has.false _ c.in_err-x.ensures)

pub returns : goal.returns
returns c = distance-finite _ _ _ c.has.ensures c.if-has.false _ c.in_ok-x.ensures
