use native.Mathlib.Omega.{arith}
use Rattle.bfs.proofs.Queue.{base_of, serving-queued, serving-begin, serving-level, serving-room}
use Rattle.bfs.proofs.Queue.{serving-tail, serving-deeper, serving-part, serving-more, serving-end}
use Rattle.bfs.proofs.search.Goals as goal

pub relax-tail-requires-clause-queued : goal.relax-tail-requires-clause-queued
relax-tail-requires-clause-queued c =
    let b = base_of _ _ _ c.requires.inside c.requires.root_in_bounds.0 (omega arith) in
    serving-queued _ _ _ b _ _ (c.fill.ensures.after (λ y e. e)) c.requires.root_in_bounds.1

pub loop-head-init : goal.loop-head-init
loop-head-init c =
    let b = base_of _ _ _ c.requires.inside c.requires.root_in_bounds.0 (omega arith) in
    serving-begin _ _ _ b _ _ (c.fill.ensures.after (λ y e. e)) c.requires.root_in_bounds.1 c.relax-tail.ensures

pub advance-ring-requires : goal.advance-ring-requires
advance-ring-requires c = omega (arith, serving-level _ _ _ c.loop-head.invariant)

pub offset_bounds-queue-head : goal.offset_bounds-queue-head
offset_bounds-queue-head c = omega (arith, serving-tail _ _ _ c.loop-head.invariant)

pub bounds-queue-head : goal.bounds-queue-head
bounds-queue-head c = let k = c.loop-head.invariant in omega (arith, serving-tail _ _ _ k, serving-room _ _ _ k)

pub overflow_add-ring : goal.overflow_add-ring
overflow_add-ring c = omega (arith, serving-deeper _ _ _ c.loop-head.invariant c.loop-head-test.true c.advance-ring.ensures)

pub walk-tail-requires-clause-next_value : goal.walk-tail-requires-clause-next_value
walk-tail-requires-clause-next_value c = (
  rw c.neighbours-next.ensures (serving-part _ _ _ c.loop-head.invariant c.loop-head-test.true c.advance-ring.ensures),
  serving-deeper _ _ _ c.loop-head.invariant c.loop-head-test.true c.advance-ring.ensures,
)

pub overflow_add-head : goal.overflow_add-head
overflow_add-head c =
    omega (arith, serving-tail _ _ _ c.loop-head.invariant)

pub loop-head-smaller : goal.loop-head-smaller
loop-head-smaller c =
    omega (arith, serving-tail _ _ _ c.loop-head.invariant)

pub loop-head-preserved : goal.loop-head-preserved
loop-head-preserved c =
    serving-more _ _ _ c.loop-head.invariant c.loop-head-test.true c.advance-ring.ensures
    c.neighbours-next.ensures c.walk-tail.ensures

pub returns : goal.returns
returns c = serving-end _ _ _ c.loop-head.invariant c.loop-head-test.false
