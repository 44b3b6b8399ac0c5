use borrow.Author.Rules.{rules}
use Rattle.cdlp.proofs.Calls.{lent-result, lent-labels, lent-next, lent-counts, taken-result}
use Rattle.cdlp.proofs.Calls.{taken-labels, taken_next, taken-counts, fitting-of, fill-all}
use Rattle.cdlp.proofs.fill.Goals as goal

pub slice_bounds-propagate-end : goal.slice_bounds-propagate-end
slice_bounds-propagate-end c = lent-result _ _ _ _ _ c.requires _ (search rules)

pub slice_bounds-propagate-end-2 : goal.slice_bounds-propagate-end-2
slice_bounds-propagate-end-2 c = taken-result _ _ _ _ _ c.requires _ (search rules)

pub slice_bounds-propagate-end-3 : goal.slice_bounds-propagate-end-3
slice_bounds-propagate-end-3 c = lent-labels _ _ _ _ _ c.requires

pub slice_bounds-propagate-end-4 : goal.slice_bounds-propagate-end-4
slice_bounds-propagate-end-4 c = taken-labels _ _ _ _ _ c.requires

pub slice_bounds-propagate-end-5 : goal.slice_bounds-propagate-end-5
slice_bounds-propagate-end-5 c = lent-next _ _ _ _ _ c.requires

pub slice_bounds-propagate-end-6 : goal.slice_bounds-propagate-end-6
slice_bounds-propagate-end-6 c = taken_next _ _ _ _ _ c.requires

pub slice_bounds-propagate-end-7 : goal.slice_bounds-propagate-end-7
slice_bounds-propagate-end-7 c = lent-counts _ _ _ _ _ c.requires

pub slice_bounds-propagate-end-8 : goal.slice_bounds-propagate-end-8
slice_bounds-propagate-end-8 c = taken-counts _ _ _ _ _ c.requires

pub propagate-requires : goal.propagate-requires
propagate-requires c = fitting-of _ _ _ _ _ c.requires _ (search rules)

pub returns : goal.returns
returns c =
    fill-all _ _ _ _ _ c.requires _ _ _ _ _ _ _ _ _ c.clear.ensures c.propagate.ensures (search rules) (search rules) (search rules)
    c.clear_work.ensures
