use Rattle.listing.proofs.Lines.{pair_put}
use borrow.Author.Rules.{rules}
use Rattle.listing.proofs.results.put_pair.Goals as goal

pub returns : goal.returns
returns c = search (pair_put, rules)
