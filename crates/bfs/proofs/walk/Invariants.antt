use Rattle.bfs.specs.Steps.{board}
use Rattle.bfs.proofs.Boards.{Walking}
use Rattle.bfs.proofs.walk.Given as goal

abbrev pub invariant-loop-w : goal.invariant-loop-w
invariant-loop-w l = Walking l.d l.next (board l.initial.depth l.initial.queue l.tail) (board l.depth l.queue l.end) l.w-index
