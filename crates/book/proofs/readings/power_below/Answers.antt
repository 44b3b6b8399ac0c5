use native.Mathlib.Omega.{arith}
use Rattle.book.proofs.Powers.{largest-leading}
use Rattle.book.proofs.readings.power_below.Goals as goal

pub overflow_sub-result : goal.overflow_sub-result
overflow_sub-result c = omega (arith, largest-leading c.args.size c.requires.0 c.requires.1)

pub returns : goal.returns
returns c = (largest-leading c.args.size c.requires.0 c.requires.1).1
