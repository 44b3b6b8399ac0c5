use mathlib.Core.Path.{refl}
use native.Mathlib.Omega.{arith}
use borrow.Author.Rules.{rules}
use Rattle.graph.proofs.Weighings.{legs-begin, legs-target, legs-cursor, legs-room, legs-stop, legs-more, legs-end}
use Rattle.graph.proofs.weights.legs_walked.Goals as goal

pub loop-i-init : goal.loop-i-init
loop-i-init c = (refl, omega arith, search legs-begin)

pub bounds-out_targets-i : goal.bounds-out_targets-i
bounds-out_targets-i c = omega (arith, (legs-room _ _ c.loop-i.invariant.2).0)

pub offset_bounds-cursors-w : goal.offset_bounds-cursors-w
offset_bounds-cursors-w c = omega (arith, legs-target _ _ c.loop-i.invariant.2 c.loop-i-test.true)

pub bounds-cursors-w : goal.bounds-cursors-w
bounds-cursors-w c = omega (arith, legs-target _ _ c.loop-i.invariant.2 c.loop-i-test.true)

pub offset_bounds-in_weights-cursor : goal.offset_bounds-in_weights-cursor
offset_bounds-in_weights-cursor c = omega (
  arith,
  legs-cursor _ _ c.loop-i.invariant.2 c.loop-i-test.true,
  (legs-room _ _
      c.loop-i.invariant.2).2,
)

pub bounds-in_weights-cursor : goal.bounds-in_weights-cursor
bounds-in_weights-cursor c = omega (
  arith,
  legs-cursor _ _ c.loop-i.invariant.2
      c.loop-i-test.true,
  (legs-room _ _ c.loop-i.invariant.2).2,
)

pub offset_bounds-out_weights-i : goal.offset_bounds-out_weights-i
offset_bounds-out_weights-i c = omega (arith, (legs-room _ _ c.loop-i.invariant.2).1)

pub bounds-out_weights-i : goal.bounds-out_weights-i
bounds-out_weights-i c = omega (arith, (legs-room _ _ c.loop-i.invariant.2).1)

pub returns-then-in_weights-cursor : goal.returns-then-in_weights-cursor
returns-then-in_weights-cursor c =
    legs-stop c.loop-i.i c.loop-i.cursors c.loop-i.invariant.2 c.loop-i-test.true (search rules)

pub overflow_add-cursors : goal.overflow_add-cursors
overflow_add-cursors c = omega (
  arith,
  legs-cursor _ _ c.loop-i.invariant.2
      c.loop-i-test.true,
  (legs-room _ _
      c.loop-i.invariant.2).2,
)

pub offset_bounds-cursors-w-in-loop-i : goal.offset_bounds-cursors-w-in-loop-i
offset_bounds-cursors-w-in-loop-i c = omega (
  arith,
  legs-target _ _ c.loop-i.invariant.2
      c.loop-i-test.true,
)

pub bounds-cursors-w-in-loop-i : goal.bounds-cursors-w-in-loop-i
bounds-cursors-w-in-loop-i c = omega (
  arith,
  legs-target _ _ c.loop-i.invariant.2
      c.loop-i-test.true,
)

pub loop-i-preserved : goal.loop-i-preserved
loop-i-preserved c = (search rules, omega arith, search legs-more)

pub returns : goal.returns
returns c = legs-end c.loop-i.i c.loop-i.cursors c.loop-i.invariant.2 c.loop-i-test.false
