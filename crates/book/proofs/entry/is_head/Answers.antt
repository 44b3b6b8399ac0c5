use Rattle.book.proofs.Entries.{head-test}
use Rattle.book.proofs.entry.is_head.Goals as goal

pub returns : goal.returns
returns c = search head-test
