use Rattle.basis.proofs.Tests.{held}
use Rattle.graph.proofs.Walks.{check-told}
use Rattle.wcc.proofs.Calls.{call-unsound, call-short, call-done}
use Rattle.wcc.proofs.wcc.Goals as goal

pub returns-then-not-sound_over : goal.returns-then-not-sound_over
returns-then-not-sound_over c = search call-unsound

pub returns-then-not-room : goal.returns-then-not-room
returns-then-not-room c = search call-short

pub fill-requires : goal.fill-requires
fill-requires c =
    record {
      sound = held _ _ (check-told c.sound_over.ensures)
          c.if-not-sound_over.false;
      room = held _ _ c.room.ensures c.if-not-room.false;
    }

pub returns : goal.returns
returns c = search call-done
