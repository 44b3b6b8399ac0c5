use mathlib.Core.Path.{refl}
use native.Mathlib.Omega.{arith}
use Rattle.basis.proofs.Areas.{column-none, column-more, fill_end}
use Rattle.basis.proofs.area.fill.Goals as goal

pub loop-place-init : goal.loop-place-init
loop-place-init g c = column-none _ _

pub loop-place-preserved : goal.loop-place-preserved
loop-place-preserved g c = column-more _ c.loop-place.place-index _ _ _ (omega arith) c.loop-place.invariant refl

pub returns : goal.returns
returns g c = fill_end _ c.loop-place.place-index _ _ c.loop-place-test.false (omega arith) c.loop-place.invariant
