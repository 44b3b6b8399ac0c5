use mir.Facts.{to_z-of_z}
use Rattle.trace.proofs.Claims.{judge-small, judge-told}
use Rattle.trace.proofs.judging.trace_judge.Goals as goal

pub refusal_code-requires : goal.refusal_code-requires
refusal_code-requires c = search judge-small

pub returns : goal.returns
returns c = let e = rw c.graph_of-g.ensures at c.verdict-judged.ensures in search (judge-told, to_z-of_z)
