use Rattle.listing.proofs.Lines.{refused-put}
use Rattle.listing.proofs.refused.put_refused.Goals as goal

pub returns : goal.returns
returns c = search refused-put
