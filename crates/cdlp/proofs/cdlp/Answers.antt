use mir.Facts.{to_z-of_z}
use Rattle.basis.proofs.Tests.{held}
use Rattle.graph.proofs.Walks.{check-told}
use Rattle.cdlp.proofs.Calls.{call-unsound, call-refused, call-short, call-done, rounds-cast}
use Rattle.cdlp.proofs.cdlp.Goals as goal

pub returns-then-not-sound_over : goal.returns-then-not-sound_over
returns-then-not-sound_over c = search call-unsound

pub returns-then-not-allowed : goal.returns-then-not-allowed
returns-then-not-allowed c = search (call-refused, to_z-of_z)

pub returns-then-not-room : goal.returns-then-not-room
returns-then-not-room c = search (call-short, to_z-of_z)

pub overflow_cast-iterations : goal.overflow_cast-iterations
overflow_cast-iterations c =
    rounds-cast _ _ c.allowed.ensures
    c.if-not-allowed.false

pub fill-requires : goal.fill-requires
fill-requires c =
    record {
      sound = held _ _
          (check-told c.sound_over.ensures)
          c.if-not-sound_over.false;
      room = held _ _ c.room.ensures c.if-not-room.false;
    }

pub returns : goal.returns
returns c =
    call-done _ _ _ _ _ _ _ _ _ c.sound_over.ensures
    c.if-not-sound_over.false _
    (to_z-of_z c.ranges.iterations) _ c.allowed.ensures
    c.if-not-allowed.false
    _ c.room.ensures
    c.if-not-room.false
    c.fill.ensures
