use mathlib.Core.Logic.{inl, inr}
use borrow.Author.Rules.{rules}
use Rattle.write.proofs.Puts.{putting-length}
use Rattle.listing.proofs.Lines.{pairs_end, pairs-more}
use Rattle.listing.proofs.results.put_pairs.Goals as goal

pub loop-id-preserved : goal.loop-id-preserved
loop-id-preserved c =
    pairs-more _ _ _ _ _ _ _ _ _ _ c.loop-id.invariant c.in-Some.ensures.steps (search rules) (search rules)
    c.put_pair-next.ensures

pub shape_of-out : goal.shape_of-out
shape_of-out c = search putting-length

pub returns : goal.returns
returns c = pairs_end _ _ _ _ c.loop-id.invariant
    (elim c.in-None.ensures.steps [ inl e ↦ inl e.1.0 | inr e ↦ inr e.1.0 ])
