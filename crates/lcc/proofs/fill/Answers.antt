use borrow.Author.Rules.{rules}
use Rattle.lcc.proofs.Calls.{writable-of, fill-all}
use Rattle.lcc.proofs.fill.Goals as goal

pub coefficients-requires : goal.coefficients-requires
coefficients-requires c = writable-of _ _ _ _ c.requires _ _ (search rules) (search rules)

pub returns : goal.returns
returns c =
    fill-all _ _ _ _ c.requires c.clear.ensures c.clear-2.ensures c.coefficients.ensures.written c.coefficients.ensures.zeros
