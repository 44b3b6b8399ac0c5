use Rattle.trace.proofs.Loads.{load-readable, load_told_lem}
use Rattle.trace.proofs.loading.trace_load.Goals as goal

pub code-requires : goal.code-requires
code-requires c = search load-readable

pub returns : goal.returns
returns c = search load_told_lem
