use Rattle.listing.proofs.Lines.{head-put}
use Rattle.listing.proofs.results.put_head.Goals as goal

pub returns : goal.returns
returns c = search head-put
