use Rattle.listing.proofs.Lines.{named_put}
use borrow.Author.Rules.{rules}
use Rattle.listing.proofs.results.put_named.Goals as goal

pub returns : goal.returns
returns c = search (named_put, rules)
