use Rattle.text.specs.Scan.{scan_says}
use native.Mathlib.Omega.{arith}
use Rattle.basis.proofs.Tests.{held}
use Rattle.text.proofs.Bytes.{has-below}
use Rattle.text.proofs.Scans.{passed-on, field-bad, field-good, field-open}
use Rattle.text.proofs.ident.field.Goals as goal

pub returns-in_err-x : goal.returns-in_err-x
returns-in_err-x c = passed-on scan_says _ _ _ c.from_residual.ensures.1 (field-bad _ _ _ _ c.in_err-x.ensures)

pub returns-then-not-has : goal.returns-then-not-has
returns-then-not-has c = field-open _ _ _ _ c.in_ok-x.ensures _ c.has.ensures c.if-not-has.true

pub overflow_add-result : goal.overflow_add-result
overflow_add-result c = omega (arith, has-below _ _ _ (held _ _ c.has.ensures c.if-not-has.false))

pub returns : goal.returns
returns c = field-good _ _ _ _ c.in_ok-x.ensures _ c.has.ensures c.if-not-has.false
