use native.Mathlib.Omega.{arith}
use lib.IntN.{pos}
use lib.ListN.{get_or}
use mir.Syntax.{w64}
use mir.Facts.{to_z_pos}
use Rattle.basis.proofs.Areas.{column-none, column-more}
use Rattle.sssp.proofs.search.sign.Goals as goal

pub loop-v-init : goal.loop-v-init
loop-v-init c = column-none _ _

pub loop-v-preserved : goal.loop-v-preserved
loop-v-preserved c =
    column-more (λ u. pos (get_or c.args.dist.now u 0)) c.loop-v.v _ _ _ (omega arith) c.loop-v.invariant
    (to_z_pos w64 (let h = c.requires.all_signed c.loop-v.v (omega (arith, c.requires.distance_len)) in omega arith))
