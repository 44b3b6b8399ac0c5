use Rattle.sssp.proofs.Walks.{relax-near, relax-far}
use Rattle.sssp.proofs.search.relax.Goals as goal

pub returns-then-d-min : goal.returns-then-d-min
returns-then-d-min c = search relax-near

pub returns-else-d-min : goal.returns-else-d-min
returns-else-d-min c = search relax-far
