use borrow.Author.Rules.{rules}
use Rattle.text.proofs.ident.signed.Goals as goal

pub returns : goal.returns
returns c = search rules
