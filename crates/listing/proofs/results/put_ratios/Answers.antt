use mathlib.Core.Logic.{inl, inr}
use borrow.Author.Rules.{rules}
use Rattle.write.proofs.Puts.{putting-length}
use Rattle.listing.proofs.Lines.{ratios-end, ratios-more}
use Rattle.listing.proofs.results.put_ratios.Goals as goal

pub loop-id-preserved : goal.loop-id-preserved
loop-id-preserved c =
    ratios-more _ _ _ _ _ _ _ _ _ _ _ _ c.loop-id.invariant c.in-Some.ensures.steps (search rules)
    c.put_ratio-next.ensures

pub shape_of-out : goal.shape_of-out
shape_of-out c = search putting-length

pub returns : goal.returns
returns c = ratios-end _ _ _ _ _ c.loop-id.invariant
    (elim c.in-None.ensures.steps [ inl e ↦ (elim e.1 [ inl f ↦ inl (inl f.1.0) | inr f ↦ inl (inr f.1.0) ]) | inr e ↦ inr e.1.0 ])
