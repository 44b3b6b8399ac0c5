use Rattle.listing.proofs.Lines.{fraction-put}
use Rattle.listing.proofs.results.put_fraction.Goals as goal

pub returns : goal.returns
returns c = search fraction-put
