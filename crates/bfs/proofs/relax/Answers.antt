use native.Mathlib.Omega.{arith}
use Rattle.bfs.proofs.Boards.{free_place, step-new, step-old}
use borrow.Author.Rules.{rules}
use Rattle.bfs.proofs.relax.Goals as goal

pub offset_bounds-queue-tail : goal.offset_bounds-queue-tail
offset_bounds-queue-tail c =
    let t = c.if-depth-w-eq-UNREACHABLE.true in
    omega (arith, free_place _ _ _ _ c.requires.queued c.requires.w_in_bounds.0 (record { sfits = search rules }) t)

pub bounds-queue-tail : goal.bounds-queue-tail
bounds-queue-tail c =
    let t = c.if-depth-w-eq-UNREACHABLE.true in
    free_place _ _ _ _ c.requires.queued c.requires.w_in_bounds.0 (record { sfits = search rules }) t

pub overflow_add-result : goal.overflow_add-result
overflow_add-result c =
    let t = c.if-depth-w-eq-UNREACHABLE.true in
    omega (arith, free_place _ _ _ _ c.requires.queued c.requires.w_in_bounds.0 (record { sfits = search rules }) t)

pub returns-then-depth-w-eq-UNREACHABLE : goal.returns-then-depth-w-eq-UNREACHABLE
returns-then-depth-w-eq-UNREACHABLE c =
    let t = c.if-depth-w-eq-UNREACHABLE.true in
    step-new _ _ _ _ _ c.requires.w_in_bounds.1 (record { sfits = search rules }) t

pub returns-else-depth-w-eq-UNREACHABLE : goal.returns-else-depth-w-eq-UNREACHABLE
returns-else-depth-w-eq-UNREACHABLE c = step-old _ _ _ _ _ c.if-depth-w-eq-UNREACHABLE.false
