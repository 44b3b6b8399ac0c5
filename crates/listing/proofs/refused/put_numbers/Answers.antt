use Rattle.listing.proofs.Lines.{numbers-put}
use Rattle.listing.proofs.refused.put_numbers.Goals as goal

pub returns : goal.returns
returns c = search numbers-put
