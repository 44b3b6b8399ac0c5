use Rattle.wcc.proofs.Calls.{lent-result, lent-heads, taken-ids, taken-result, taken-heads, fitting-of, fill-all}
use Rattle.wcc.proofs.fill.Goals as goal

pub slice_bounds-label-end : goal.slice_bounds-label-end
slice_bounds-label-end c = search taken-ids

pub slice_bounds-label-end-2 : goal.slice_bounds-label-end-2
slice_bounds-label-end-2 c = search lent-result

pub slice_bounds-label-end-3 : goal.slice_bounds-label-end-3
slice_bounds-label-end-3 c = search taken-result

pub slice_bounds-label-end-4 : goal.slice_bounds-label-end-4
slice_bounds-label-end-4 c = search lent-heads

pub slice_bounds-label-end-5 : goal.slice_bounds-label-end-5
slice_bounds-label-end-5 c = search taken-heads

pub label-requires : goal.label-requires
label-requires c = search fitting-of

pub returns : goal.returns
returns c = search fill-all
