use Prim.Native.Nat.{◌<◌}
use mathlib.Core.Path.{refl}
use lib.ListN.{length, get_or}
use Rattle.graph.proofs.Walks.{target-low, step-far, step-differs, step-more, step_end}
use native.Mathlib.Omega.{arith}
use borrow.Author.Rules.{rules}
use Rattle.graph.proofs.walk.arcs_walked.Goals as goal

pub loop-w-init : goal.loop-w-init
loop-w-init c = (omega arith, refl, refl)

pub offset_bounds-cursors-w : goal.offset_bounds-cursors-w
offset_bounds-cursors-w c = let low : get_or c.args.targets.now c.loop-w.w-index 0 < length c.loop-w.cursors = search target-low in omega
    arith

pub bounds-cursors-w : goal.bounds-cursors-w
bounds-cursors-w c = search (target-low, rules)

pub returns-then-in_sources-cursor : goal.returns-then-in_sources-cursor
returns-then-in_sources-cursor c = search step-far

pub returns-then-in_sources-cursor-2 : goal.returns-then-in_sources-cursor-2
returns-then-in_sources-cursor-2 c = search step-differs

pub offset_bounds-cursors-w-in-loop-w : goal.offset_bounds-cursors-w-in-loop-w
offset_bounds-cursors-w-in-loop-w c = let low : get_or c.args.targets.now c.loop-w.w-index 0 < length c.loop-w.cursors = search target-low
    in
    omega arith

pub bounds-cursors-w-in-loop-w : goal.bounds-cursors-w-in-loop-w
bounds-cursors-w-in-loop-w c = let low : get_or c.args.targets.now c.loop-w.w-index 0 < length c.loop-w.cursors = search target-low in omega
    arith

pub loop-w-preserved : goal.loop-w-preserved
loop-w-preserved c = (omega arith, search rules, search step-more)

pub returns : goal.returns
returns c = search step_end
