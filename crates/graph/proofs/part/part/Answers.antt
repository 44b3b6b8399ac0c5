use Rattle.graph.proofs.Parts.{part-far, part-missing, part_falls, part-passes, part-whole}
use Rattle.graph.proofs.part.part.Goals as goal

pub returns-then-n-v : goal.returns-then-n-v
returns-then-n-v c = search part-far

pub returns-then-offsets-v : goal.returns-then-offsets-v
returns-then-offsets-v c = search part-missing

pub returns-then-to-from : goal.returns-then-to-from
returns-then-to-from c = search part_falls

pub returns-then-targets-to : goal.returns-then-targets-to
returns-then-targets-to c = search part-passes

pub returns : goal.returns
returns c = search part-whole
