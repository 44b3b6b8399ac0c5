use Rattle.wcc.proofs.Joins.{marking, take_within, take-headed, labelled}
use Rattle.wcc.proofs.labels.label.Goals as goal

pub mark-requires : goal.mark-requires
mark-requires c = search marking

pub take_over-requires : goal.take_over-requires
take_over-requires c = (search take_within, search take-headed)

pub returns : goal.returns
returns c = search labelled
