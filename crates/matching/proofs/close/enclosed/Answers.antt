use mathlib.Core.Path.{◌∙◌}
use native.Mathlib.Omega.{arith}
use borrow.Author.Tests.{lt-leb, lt-ltb, ne_eqb}
use Rattle.matching.proofs.Closeness.{dropped-none, dropped-next, dropped-all, enclosed-high, enclosed-over, enclosed-low}
use Rattle.matching.proofs.Closeness.{enclosed-inside, enclosed-edge, left-within, digit-within}
use Rattle.matching.proofs.close.enclosed.Goals as goal
use Rattle.matching.proofs.close.enclosed.Goals.{then-exact, else-exact}

pub loop-init : goal.loop-init
loop-init c = search dropped-none

pub overflow_mul-sum : goal.overflow_mul-sum
overflow_mul-sum c = omega (arith, digit-within c.args.n c.loop.rest, c.requires.1)

pub overflow_add-sum : goal.overflow_add-sum
overflow_add-sum c =
    omega (arith, digit-within c.args.n c.loop.rest, c.loop.invariant.below, c.requires.1)

pub loop-preserved : goal.loop-preserved
loop-preserved c =
    dropped-next c.loop.invariant
    (elim c.if-exact.branch [
      | then-exact w ↦ rw w.if-exact.true w.exact-is
      | else-exact w ↦ rw w.if-exact.false (w.exact-is ∙ w.if-exact.false)
    ])

pub returns-then-high-n : goal.returns-then-high-n
returns-then-high-n c =
    enclosed-over (dropped-all c.loop.invariant c.loop.auto.counter-end c.loop-test.false) _ _ c.requires.0 c.if-high-n.true

pub overflow_mul-product : goal.overflow_mul-product
overflow_mul-product c =
    omega (arith, left-within c.args.n c.loop.rest c.args.high c.requires.0 c.if-high-n.false, c.requires.2)

pub overflow_add-product : goal.overflow_add-product
overflow_add-product c =
    let l = c.loop in
    let h = left-within c.args.n l.rest c.args.high c.requires.0 c.if-high-n.false in
    omega (arith, l.invariant.below, c.requires.1, c.requires.2)

pub returns-else-low-product : goal.returns-else-low-product
returns-else-low-product c =
    let d = dropped-all c.loop.invariant c.loop.auto.counter-end c.loop-test.false in
    lt-leb _ _ c.if-low-product.false ∙ enclosed-low d _ _ c.if-low-product.false

pub returns-then-product-high : goal.returns-then-product-high
returns-then-product-high c =
    let d = dropped-all c.loop.invariant c.loop.auto.counter-end c.loop-test.false in
    lt-ltb _ _ c.if-product-high.true ∙ enclosed-inside d _ _ c.if-low-product.true c.if-product-high.true

pub returns-then-product-high-2 : goal.returns-then-product-high-2
returns-then-product-high-2 c =
    enclosed-edge (dropped-all c.loop.invariant c.loop.auto.counter-end c.loop-test.false) _ _ c.if-low-product.true
    (omega arith) c.if-product-high.false

pub returns-else-product-high-2 : goal.returns-else-product-high-2
returns-else-product-high-2 c =
    let d = dropped-all c.loop.invariant c.loop.auto.counter-end c.loop-test.false in
    ne_eqb _ _ c.if-product-high-2.false
    ∙ enclosed-high d _ _ (omega (arith, c.if-product-high-2.false))
