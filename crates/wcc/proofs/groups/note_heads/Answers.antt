use native.Mathlib.Omega.{arith}
use lib.ListN.{length}
use Rattle.basis.proofs.Areas.{column-none, column-more, column-end}
use Rattle.wcc.proofs.groups.note_heads.Goals as goal

pub loop-v-init : goal.loop-v-init
loop-v-init c = column-none _ _

pub loop-v-preserved : goal.loop-v-preserved
loop-v-preserved c = column-more _ c.loop-v.v _ c.loop-v.heads _ (omega arith) c.loop-v.invariant c.head_of.ensures

pub returns : goal.returns
returns c = column-end _ c.loop-v.v (length c.args.heads.now) _ c.loop-v.heads (omega arith) (omega arith) c.loop-v.invariant
