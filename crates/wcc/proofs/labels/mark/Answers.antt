use borrow.Author.Rules.{rules}
use Prim.Native.Nat.{◌-◌}
use lib.ListN.{length}
use mir.Facts.{to_z-of_z}
use native.Mathlib.Omega.{arith}
use Rattle.wcc.specs.Steps.{noted}
use Rattle.wcc.proofs.Steps.{mark-more, head-below, mark-end}
use Rattle.wcc.proofs.labels.mark.Goals as goal

pub offset_bounds-res-heads : goal.offset_bounds-res-heads
unfolding noted
offset_bounds-res-heads c =
    let k = head-below _ _ (length c.loop-v.res) (c.loop-v.v - 1) c.requires.within (omega arith) (omega arith) in
    search rules

pub bounds-res-heads : goal.bounds-res-heads
unfolding noted
bounds-res-heads c = head-below _ _ _ _ c.requires.within (omega arith) (omega arith)

pub loop-v-preserved : goal.loop-v-preserved
unfolding noted
loop-v-preserved c = search (mark-more, to_z-of_z)

pub returns : goal.returns
returns c = search mark-end
