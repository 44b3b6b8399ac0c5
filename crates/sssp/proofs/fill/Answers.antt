use Rattle.sssp.proofs.Calls.{lent-settled, lent-waiting, lent-tree, taken-settled, taken-waiting, taken-tree}
use Rattle.sssp.proofs.Calls.{fill-inside, fill-lent, fill-distance, fill-taken, fill-long, fill-all}
use borrow.Author.Rules.{rules}
use Rattle.sssp.proofs.fill.Goals as goal

pub slice_bounds-measure-end : goal.slice_bounds-measure-end
slice_bounds-measure-end c = fill-distance c.requires _ c.clear.ensures

pub slice_bounds-measure-end-2 : goal.slice_bounds-measure-end-2
slice_bounds-measure-end-2 c = fill-taken c.requires _ c.clear.ensures

pub slice_bounds-measure-end-3 : goal.slice_bounds-measure-end-3
slice_bounds-measure-end-3 c = lent-settled c.requires

pub slice_bounds-measure-end-4 : goal.slice_bounds-measure-end-4
slice_bounds-measure-end-4 c = taken-settled c.requires

pub slice_bounds-measure-end-5 : goal.slice_bounds-measure-end-5
slice_bounds-measure-end-5 c = lent-waiting c.requires

pub slice_bounds-measure-end-6 : goal.slice_bounds-measure-end-6
slice_bounds-measure-end-6 c = taken-waiting c.requires

pub slice_bounds-measure-end-7 : goal.slice_bounds-measure-end-7
slice_bounds-measure-end-7 c = lent-tree c.requires

pub slice_bounds-measure-end-8 : goal.slice_bounds-measure-end-8
slice_bounds-measure-end-8 c = taken-tree c.requires

pub measure-requires : goal.measure-requires
measure-requires c = record {
  weighed_all = fill-inside c.requires;
  lent = fill-lent c.requires;
  distance_len = fill-long c.requires _ c.clear.ensures;
}

pub returns : goal.returns
returns c =
    fill-all c.requires _ _ _ _ _ _ _ _ c.clear.ensures c.measure.ensures (search rules) (search rules) (search rules)
    c.clear_all.ensures
