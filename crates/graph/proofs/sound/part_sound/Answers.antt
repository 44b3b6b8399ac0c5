use native.Mathlib.Omega.{arith}
use Rattle.graph.proofs.Steps.{part-begin, part_low, part-wide, part-self, part-more, part_end}
use Rattle.graph.proofs.sound.part_sound.Goals as goal

pub loop-w-init : goal.loop-w-init
loop-w-init c = (omega arith, search part-begin)

pub returns-then-w-least : goal.returns-then-w-least
returns-then-w-least c = search part_low

pub returns-then-n-w : goal.returns-then-n-w
returns-then-n-w c = search part-wide

pub returns-then-w-v : goal.returns-then-w-v
returns-then-w-v c = search part-self

pub loop-w-preserved : goal.loop-w-preserved
loop-w-preserved c = (omega arith, search part-more)

pub returns : goal.returns
returns c = search part_end
