use native.Mathlib.Omega.{arith}
use Rattle.bfs.proofs.Boards.{walking-low, walking-more, walking-end}
use Rattle.bfs.proofs.walk.Goals as goal

pub relax-end-requires-clause-w_in_bounds : goal.relax-end-requires-clause-w_in_bounds
relax-end-requires-clause-w_in_bounds c =
    (walking-low _ _ _ _ _ c.loop-w.invariant c.requires.next_value.0 (omega arith), c.requires.next_value.1)

pub loop-w-preserved : goal.loop-w-preserved
loop-w-preserved c =
    walking-more _ _ _ _ _ c.loop-w.invariant _ c.requires.next_value.0 c.requires.next_value.1 (omega arith) c.relax-end.ensures

pub returns : goal.returns
returns c = walking-end _ _ _ _ _ c.loop-w.invariant c.loop-w-test.false
