use mathlib.Core.Path.{refl}
use native.Mathlib.Omega.{arith}
use Rattle.basis.proofs.Areas.{column-none, column-more}
use Rattle.cdlp.proofs.rounds.number.Goals as goal

pub loop-v-init : goal.loop-v-init
loop-v-init c = column-none _ _

pub loop-v-preserved : goal.loop-v-preserved
loop-v-preserved c = column-more _ c.loop-v.v _ _ _ (omega arith) c.loop-v.invariant refl
