use mir.Facts.{to_z-of_z}
use Rattle.trace.proofs.Runs.{bfs-readable, bfs-told}
use Rattle.trace.proofs.four_kernels.trace_bfs.Goals as goal

pub code-requires : goal.code-requires
code-requires c = search bfs-readable

pub returns : goal.returns
returns c = let e = rw c.graph_of-g.ensures at c.bfs.ensures in search (bfs-told, to_z-of_z)
