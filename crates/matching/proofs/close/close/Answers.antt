use native.Mathlib.Omega.{arith}
use Rattle.matching.proofs.Closeness.{close-zero, close-lower, close-higher}
use Rattle.matching.proofs.close.close.Goals as goal

pub returns-then-b-eq0 : goal.returns-then-b-eq0
returns-then-b-eq0 c = search close-zero

pub returns-then-up-down : goal.returns-then-up-down
returns-then-up-down c =
    let a = c.from-low.ensures in
    let b = c.from-n.ensures in
    let h = c.from-high.ensures in
    let u = c.from-up.ensures in
    let d = c.from-down.ensures in
    close-lower c.args.a c.args.b c.args.s c.enclosed.result (omega arith) (rw (a, b, h, u, d) at c.enclosed.ensures)

pub returns-else-up-down : goal.returns-else-up-down
returns-else-up-down c =
    let a = c.from-low.ensures in
    let b = c.from-n.ensures in
    let h = c.from-high.ensures in
    let u = c.from-up.ensures in
    let d = c.from-down.ensures in
    close-higher c.args.a c.args.b c.args.s c.enclosed-else-up-down.result c.ranges.a.fits c.if-b-eq0.false (omega arith) _
    (rw (u, d) at c.scaled_up.ensures) (rw (a, b, h) at c.enclosed-else-up-down.ensures)
