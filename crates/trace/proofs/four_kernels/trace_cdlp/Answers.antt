use mir.Facts.{to_z-of_z}
use Rattle.trace.proofs.Runs.{cdlp-readable, cdlp-told}
use Rattle.trace.proofs.four_kernels.trace_cdlp.Goals as goal

pub code-requires : goal.code-requires
code-requires c = search cdlp-readable

pub returns : goal.returns
returns c = let e = rw c.graph_of-g.ensures at c.cdlp.ensures in search (cdlp-told, to_z-of_z)
