use native.Mathlib.Omega.{arith}
use mathlib.Core.Path.{sym, ◌∙◌}
use Rattle.text.proofs.Bytes.{has-below}
use Rattle.text.proofs.Scans.{ident-zero, ident-minus, ident-plain}
use Rattle.text.proofs.ident.ident.Goals as goal

pub overflow_add-p : goal.overflow_add-p
overflow_add-p c = omega (arith, has-below _ _ _ (sym c.has.ensures ∙ c.if-has.true))

pub returns-then-has-2 : goal.returns-then-has-2
returns-then-has-2 c = search ident-zero

pub returns-then-has : goal.returns-then-has
returns-then-has c = search ident-minus

pub returns : goal.returns
returns c = search ident-plain
