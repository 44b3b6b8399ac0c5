use mathlib.Core.Path.{refl, sym}
use lib.Seq.{length-take-le}
use native.Mathlib.Omega.{arith}
use Rattle.sheet.proofs.Whole.{few-vertices}
use Rattle.sheet.proofs.print_plan.Goals as goal

pub slice_bounds-ids-end : goal.slice_bounds-ids-end
slice_bounds-ids-end c = omega (arith, few-vertices c.args.s.now c.args.plan _ _ c.in-Ok.ensures refl)

pub slice_bounds-g-end : goal.slice_bounds-g-end
slice_bounds-g-end c = sym (length-take-le _ _ (omega (arith, few-vertices c.args.s.now c.args.plan _ _ c.in-Ok.ensures refl)))
