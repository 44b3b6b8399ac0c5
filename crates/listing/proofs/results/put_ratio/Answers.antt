use Rattle.listing.proofs.Lines.{ratio-put}
use borrow.Author.Rules.{rules}
use Rattle.listing.proofs.results.put_ratio.Goals as goal

pub returns : goal.returns
returns c = search (ratio-put, rules)
