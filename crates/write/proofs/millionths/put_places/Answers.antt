use Rattle.write.proofs.Places.{placed-start, placed-length, placed-unit, placed-digit, placed-more, placed_end, placed-out}
use Rattle.write.proofs.millionths.put_places.Goals as goal

pub loop-unit-preserved : goal.loop-unit-preserved
loop-unit-preserved c = search placed-more

pub loop-unit-init : goal.loop-unit-init
loop-unit-init c = search placed-start

pub returns-then-left-eq0 : goal.returns-then-left-eq0
returns-then-left-eq0 c = search placed_end

pub nonzero_div-left : goal.nonzero_div-left
nonzero_div-left c = search placed-unit

pub digit-requires : goal.digit-requires
digit-requires c = search placed-digit

pub nonzero_rem-left : goal.nonzero_rem-left
nonzero_rem-left c = search placed-unit

pub shape_of-out : goal.shape_of-out
shape_of-out c = search placed-length

pub returns : goal.returns
returns c = search placed-out
