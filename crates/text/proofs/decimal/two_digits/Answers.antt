use native.Mathlib.Omega.{arith}
use Rattle.text.proofs.Decimals.{digit-most, two-first, two-second, two-long, two-whole}
use Rattle.text.proofs.decimal.two_digits.Goals as goal

pub returns-in_default : goal.returns-in_default
returns-in_default c = two-first _ _ c.in_default.ensures

pub returns-in_default-digit_at : goal.returns-in_default-digit_at
returns-in_default-digit_at c = two-second _ _ _ c.in-Some.ensures c.in_default-digit_at.ensures

pub returns-then-s-at : goal.returns-then-s-at
returns-then-s-at c = two-long _ _ _ c.in-Some.ensures _ c.in-Some-digit_at.ensures c.if-s-at.true

pub overflow_mul-result : goal.overflow_mul-result
overflow_mul-result c = omega (arith, digit-most _ _ _ c.in-Some.ensures)

pub overflow_add-result-2 : goal.overflow_add-result-2
overflow_add-result-2 c = omega (arith, digit-most _ _ _ c.in-Some.ensures, digit-most _ _ _ c.in-Some-digit_at.ensures)

pub returns : goal.returns
returns c = two-whole _ _ _ c.in-Some.ensures _ c.in-Some-digit_at.ensures c.if-s-at.false
