use Rattle.std.specs.Iterator.Adapters.{zip_first, zip_second}
use Rattle.std.specs.Slice.Iter.{iter_rest}
use Rattle.sssp.proofs.Walks.{Walking}
use Rattle.sssp.proofs.search.walk.Given as goal

abbrev pub invariant-loop-w : goal.invariant-loop-w
invariant-loop-w l =
    Walking l.dist l.d l.next l.cost l.initial.key l.key l.tree (iter_rest (zip_first l.w-iterator)) (iter_rest (zip_second l.w-iterator))
