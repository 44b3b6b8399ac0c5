use Rattle.graph.proofs.Steps.{sides-outward, sides-inward, graph-sides, graph-back, graph-forth}
use Rattle.basis.proofs.Tests.{failed, held}
use Rattle.graph.proofs.sound.sound.Goals as goal

pub returns-then-not-sides_sound : goal.returns-then-not-sides_sound
returns-then-not-sides_sound c = search (graph-sides, failed)

pub side_answered-requires : goal.side_answered-requires
side_answered-requires c = sides-inward _ _ _ _ _ _ (held _ _ c.sides_sound.ensures c.if-not-sides_sound.false)

pub returns-then-not-side_answered : goal.returns-then-not-side_answered
returns-then-not-side_answered c = search (graph-back, failed, held)

pub side_answered-requires-2 : goal.side_answered-requires-2
side_answered-requires-2 c =
    sides-outward _ _ _ _ _ _ (held _ _ c.sides_sound.ensures c.if-not-sides_sound.false)

pub returns : goal.returns
returns c = search (graph-forth, held)
