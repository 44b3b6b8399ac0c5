use Rattle.book.specs.One.{one}
use Rattle.book.proofs.Calls.{head-unlent, head-missing, head-walked}
use Rattle.book.proofs.Walked.{lent-within}
use Rattle.book.proofs.readings.head.Goals as goal

pub returns-then-not-well_lent : goal.returns-then-not-well_lent
unfolding one
returns-then-not-well_lent c = search head-unlent

pub returns-then-entries-v : goal.returns-then-entries-v
unfolding one
returns-then-entries-v c = search head-missing

pub walk-requires : goal.walk-requires
walk-requires c =
    let w = c.well_lent in
    (c.if-entries-v.false, lent-within _ w.result w.ensures c.if-not-well_lent.false)

pub returns : goal.returns
unfolding one
returns c =
    let w = c.well_lent in
    head-walked _ _ w.result w.ensures _ c.if-not-well_lent.false c.if-entries-v.false c.walk.ensures
