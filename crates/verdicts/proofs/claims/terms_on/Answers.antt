use Rattle.verdicts.proofs.Settling.{terms-settled}
use Rattle.verdicts.proofs.claims.terms_on.Goals as goal

pub returns : goal.returns
returns c =
    let h = c.terms_said-judged.ensures in
    terms-settled c.args.answer c.args.room c.args.most c.args.n c.args.ids.now c.args.claim.now c.args.first.now
    c.args.second.now c.args.lines.now _ _ h.value h.lines_after c.settle.ensures c.settle-2.ensures c.settle-3.ensures
