use borrow.Author.Rules.{rules}
use mir.Facts.{to_z-of_z}
use native.Mathlib.Omega.{arith}
use lib.ListN.{length}
use Rattle.wcc.specs.Steps.{noted}
use Rattle.wcc.proofs.Steps.{take_none, take_more, head-below}
use Rattle.wcc.proofs.labels.take_over.Goals as goal

pub loop-v-init : goal.loop-v-init
loop-v-init c = search take_none

pub offset_bounds-res-h : goal.offset_bounds-res-h
unfolding noted
offset_bounds-res-h c = let k = head-below _ _ (length c.loop-v.res) c.loop-v.v c.requires.0 (omega arith) (omega arith) in search rules

pub slice_copy_out-res : goal.slice_copy_out-res
unfolding noted
slice_copy_out-res c = head-below _ _ _ _ c.requires.0 (omega arith) (omega arith)

pub loop-v-preserved : goal.loop-v-preserved
unfolding noted
loop-v-preserved c = search (take_more, to_z-of_z)
