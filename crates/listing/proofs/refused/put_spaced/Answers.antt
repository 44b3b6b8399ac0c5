use Rattle.listing.proofs.Lines.{spaced-put}
use Rattle.listing.proofs.refused.put_spaced.Goals as goal

pub returns : goal.returns
returns c = search spaced-put
