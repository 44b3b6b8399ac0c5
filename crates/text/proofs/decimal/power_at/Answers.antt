use native.Mathlib.Omega.{arith}
use Rattle.std.proofs.lemmas.Result.{err_from_is_err_and}
use Rattle.basis.proofs.Tests.{held, failed}
use Rattle.text.proofs.Bytes.{has-below}
use Rattle.text.proofs.Decimals.{power-none, power-other, power-up, power-down, power-unsigned}
use Rattle.text.proofs.decimal.power_at.Goals as goal

pub returns-then-s-at : goal.returns-then-s-at
returns-then-s-at c = search power-none

pub returns-then-not-has : goal.returns-then-not-has
returns-then-not-has c = power-other _ _ c.if-s-at.false (failed _ _ c.has.ensures c.if-not-has.true)

pub two_digits-requires : goal.two_digits-requires
two_digits-requires c = omega (arith, has-below _ _ _ (held _ _ c.has-2.ensures c.if-has.true))

pub returns-in_err-two_digits : goal.returns-in_err-two_digits
returns-in_err-two_digits c =
    let p = err_from_is_err_and c.from_residual.result c.from_residual.ensures.1 in
    rw (p.1, p.2)
    (power-up _ _ c.if-s-at.false (held _ _ c.has.ensures c.if-not-has.false) (held _ _ c.has-2.ensures c.if-has.true) _
    c.in_err-two_digits.ensures)

pub returns-then-has : goal.returns-then-has
returns-then-has c =
    power-up _ _ c.if-s-at.false (held _ _ c.has.ensures c.if-not-has.false) (held _ _ c.has-2.ensures c.if-has.true) _
    c.in_ok-two_digits.ensures

pub two_digits-requires-then-has-2 : goal.two_digits-requires-then-has-2
two_digits-requires-then-has-2 c = omega (arith, has-below _ _ _ (held _ _ c.has-3.ensures c.if-has-2.true))

pub returns-in_err-two_digits-2 : goal.returns-in_err-two_digits-2
returns-in_err-two_digits-2 c =
    let r = c.from_residual-in_err-two_digits-2 in
    let p = err_from_is_err_and r.result r.ensures.1 in
    rw (p.1, p.2)
    (power-down _ _ c.if-s-at.false (held _ _ c.has.ensures c.if-not-has.false) (held _ _ c.has-3.ensures c.if-has-2.true) _
    c.in_err-two_digits-2.ensures)

pub returns-then-has-2 : goal.returns-then-has-2
returns-then-has-2 c =
    power-down _ _ c.if-s-at.false (held _ _ c.has.ensures c.if-not-has.false) (held _ _ c.has-3.ensures c.if-has-2.true) _
    c.in_ok-two_digits-2.ensures

pub returns : goal.returns
returns c =
    power-unsigned _ _ c.if-s-at.false (held _ _ c.has.ensures c.if-not-has.false) (failed _ _ c.has-2.ensures c.if-has.false)
    (failed _ _ c.has-3.ensures c.if-has-2.false)
