use native.Mathlib.Omega.{arith}
use Rattle.bfs.proofs.Calls.{lent-depth, lent-queue, taken-depth, taken-queue, search-inside, search-there, search-room, fill-all}
use borrow.Author.Rules.{rules}
use Rattle.bfs.proofs.fill.Goals as goal

pub slice_bounds-search-end : goal.slice_bounds-search-end
slice_bounds-search-end c = lent-depth c.requires

pub slice_bounds-search-end-2 : goal.slice_bounds-search-end-2
slice_bounds-search-end-2 c = taken-depth c.requires

pub slice_bounds-search-end-3 : goal.slice_bounds-search-end-3
slice_bounds-search-end-3 c = lent-queue c.requires

pub slice_bounds-search-end-4 : goal.slice_bounds-search-end-4
slice_bounds-search-end-4 c = taken-queue c.requires

pub search-requires : goal.search-requires
search-requires c = record {
  inside = search-inside c.requires;
  root_in_bounds = (search-there c.requires, search-room c.requires);
}

pub offset_bounds-depth-n : goal.offset_bounds-depth-n
offset_bounds-depth-n c = omega (arith, lent-depth c.requires)

pub slice_bounds-clear-count : goal.slice_bounds-clear-count
slice_bounds-clear-count c = omega (arith, lent-depth c.requires)

pub slice_bounds-clear-start : goal.slice_bounds-clear-start
slice_bounds-clear-start c = omega (arith, lent-depth c.requires)

pub returns : goal.returns
returns c = fill-all c.requires _ _ _ _ c.search.ensures (search rules) c.clear.ensures c.clear-2.ensures
