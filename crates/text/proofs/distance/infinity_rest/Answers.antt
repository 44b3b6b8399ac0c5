use native.Mathlib.Omega.{arith}
use Rattle.text.proofs.DistanceTails.{infinity-in, infinity-cut, infinity-open, infinity-whole}
use Rattle.basis.proofs.Tests.{held}
use Rattle.text.proofs.Bytes.{has-below}
use Rattle.text.proofs.distance.infinity_rest.Goals as goal

pub overflow_add-end : goal.overflow_add-end
overflow_add-end c =
    let a = c.before.before.before in
    omega (arith, infinity-in a.args.s.now a.args.at a.requires _ c.shared_front-n.ensures)

pub returns-then-n-lt8 : goal.returns-then-n-lt8
returns-then-n-lt8 c = search infinity-cut

pub returns-then-not-has : goal.returns-then-not-has
returns-then-not-has c = search infinity-open

pub overflow_add-result : goal.overflow_add-result
overflow_add-result c = omega (arith, has-below _ _ _ (held _ _ c.has.ensures c.if-not-has.false))

pub returns : goal.returns
returns c = search infinity-whole
