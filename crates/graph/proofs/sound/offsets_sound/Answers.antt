use Rattle.graph.proofs.Steps.{offsets-begin, offsets-end, offsets-rest}
use Rattle.graph.proofs.sound.offsets_sound.Goals as goal

pub returns-then-offsets-ne0 : goal.returns-then-offsets-ne0
returns-then-offsets-ne0 c = search offsets-begin

pub returns-then-offsets-n : goal.returns-then-offsets-n
returns-then-offsets-n c = search offsets-end

pub returns : goal.returns
returns c = search offsets-rest
