use mathlib.Core.Path.{sym, ap, ◌∙◌}
use native.Mathlib.Nat.{pos_of_ne-zero}
use Rattle.lcc.specs.Ratio.{gcd_of}
use Rattle.lcc.proofs.Ratios.{gcd-zero, gcd-step}
use Rattle.lcc.proofs.ratio.+gcd.Goals as goal

pub returns-then-b-eq0 : goal.returns-then-b-eq0
returns-then-b-eq0 t c = sym (ap (gcd_of c.args.a) c.if-b-eq0.true ∙ gcd-zero c.args.a)

pub returns : goal.returns
returns t c = c.gcd.ensures ∙ sym (gcd-step c.args.a c.args.b (pos_of_ne-zero c.if-b-eq0.false))
