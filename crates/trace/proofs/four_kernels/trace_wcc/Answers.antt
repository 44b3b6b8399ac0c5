use Rattle.trace.proofs.Runs.{wcc-readable, wcc-told}
use Rattle.trace.proofs.four_kernels.trace_wcc.Goals as goal

pub code-requires : goal.code-requires
code-requires c = search wcc-readable

pub returns : goal.returns
returns c = let e = rw c.graph_of-g.ensures at c.wcc.ensures in search wcc-told
