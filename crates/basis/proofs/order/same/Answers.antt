use Rattle.basis.proofs.Orders.{same_bits}
use Rattle.basis.proofs.order.same.Goals as goal

pub returns : goal.returns
returns c = same_bits c.args.a c.args.b c.ranges.a.sfits c.ranges.b.sfits
