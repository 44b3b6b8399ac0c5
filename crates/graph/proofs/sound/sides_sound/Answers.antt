use Rattle.graph.proofs.Steps.{sides-vertices, sides-arcs, sides-ids, sides-out, sides-in}
use Rattle.basis.proofs.Tests.{failed, held}
use Rattle.graph.proofs.sound.sides_sound.Goals as goal

pub returns-then-n-gt-MOST_VERTICES : goal.returns-then-n-gt-MOST_VERTICES
returns-then-n-gt-MOST_VERTICES c = search sides-vertices

pub returns-then-m-gt-MOST_ARCS : goal.returns-then-m-gt-MOST_ARCS
returns-then-m-gt-MOST_ARCS c = search sides-arcs

pub returns-then-not-ids_rise : goal.returns-then-not-ids_rise
returns-then-not-ids_rise c = search (sides-ids, failed)

pub returns-then-not-side_sound : goal.returns-then-not-side_sound
returns-then-not-side_sound c = search (sides-out, failed, held)

pub returns : goal.returns
returns c = search (sides-in, held)
