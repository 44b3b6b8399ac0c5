use Rattle.verdicts.proofs.Settling.{numbers-settled}
use Rattle.verdicts.proofs.claims.numbers_on.Goals as goal

pub returns : goal.returns
returns c =
    let h = c.numbers_said-judged.ensures in
    numbers-settled c.args.answer c.args.room c.args.rule c.args.most c.args.n c.args.ids.now c.args.claim.now c.args.res.now
    c.args.claimed.now c.args.lines.now _ _ _ h.value h.areas_after c.settle.ensures c.settle-2.ensures c.settle-3.ensures
