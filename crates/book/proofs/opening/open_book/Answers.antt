use Rattle.book.proofs.Areas.{open-unlent, open-ready}
use Rattle.book.proofs.opening.open_book.Goals as goal

pub returns-then-not-well_lent : goal.returns-then-not-well_lent
returns-then-not-well_lent c = search open-unlent

pub returns : goal.returns
returns c = search open-ready
