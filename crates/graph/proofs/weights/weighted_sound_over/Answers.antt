use Rattle.basis.proofs.Tests.{held}
use Rattle.graph.proofs.Walks.{check-told}
use Rattle.graph.proofs.Weighings.{checked-unsound, checked-plain, checked-weights}
use Rattle.graph.proofs.weights.weighted_sound_over.Goals as goal

pub returns-then-not-sound_over : goal.returns-then-not-sound_over
returns-then-not-sound_over c = search checked-unsound

pub returns-then-not-is_weighted : goal.returns-then-not-is_weighted
returns-then-not-is_weighted c = search checked-plain

pub weights_sound-answer-requires : goal.weights_sound-answer-requires
weights_sound-answer-requires c = held _ _ (check-told c.sound_over.ensures)
    c.if-not-sound_over.false

pub returns : goal.returns
returns c = search checked-weights
