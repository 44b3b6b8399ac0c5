use Rattle.trace.proofs.Runs.{lcc-readable, lcc-told}
use Rattle.trace.proofs.four_kernels.trace_lcc.Goals as goal

pub code-requires : goal.code-requires
code-requires c = search lcc-readable

pub returns : goal.returns
returns c = let e = rw c.graph_of-g.ensures at c.lcc.ensures in search lcc-told
