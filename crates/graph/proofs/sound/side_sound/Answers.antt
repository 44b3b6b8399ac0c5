use Rattle.graph.proofs.Steps.{side-offsets, side-targets, side-stop, side-rest}
use Rattle.basis.proofs.Tests.{failed, held}
use Rattle.graph.proofs.sound.side_sound.Goals as goal

pub returns-then-way-n : goal.returns-then-way-n
returns-then-way-n c = search side-offsets

pub returns-then-way-m : goal.returns-then-way-m
returns-then-way-m c = search side-targets

pub returns-then-not-offsets_sound : goal.returns-then-not-offsets_sound
returns-then-not-offsets_sound c = search (side-stop, failed)

pub returns : goal.returns
returns c = search (side-rest, held)
