use mathlib.Core.Path.{sym}
use lib.Seq.{length-take-le}
use mir.Facts.{to_z-of_z}
use Rattle.basis.proofs.Tests.{held}
use Rattle.graph.proofs.Sounds.{sound-of}
use Rattle.graph.proofs.Walks.{check-told}
use Rattle.bfs.proofs.Calls.{call-unsound, call-refused, call-short, call-ready, call-done}
use Rattle.bfs.proofs.bfs.Goals as goal

pub returns-then-not-sound_over : goal.returns-then-not-sound_over
returns-then-not-sound_over c =
    call-unsound _ _ _ _ _ _ _ c.sound_over.ensures c.if-not-sound_over.true c.refuse.ensures

pub slice_bounds-find-end : goal.slice_bounds-find-end
slice_bounds-find-end c =
    sym (length-take-le _ _
    (sound-of _ (held _ _ (check-told c.sound_over.ensures) c.if-not-sound_over.false)).ids_room)

pub returns-in_default : goal.returns-in_default
returns-in_default c =
    call-refused _ _ _ _ _ _ _ c.sound_over.ensures c.if-not-sound_over.false _ (to_z-of_z c.ranges.root) _ c.find.ensures
    c.in_default.is c.refuse-in_default.ensures

pub returns-then-not-room : goal.returns-then-not-room
returns-then-not-room c =
    call-short _ _ _ _ _ _ _ c.sound_over.ensures c.if-not-sound_over.false _ (to_z-of_z c.ranges.root) _ c.find.ensures _
    c.in-Some.is _ c.room.ensures c.if-not-room.true c.refuse-then-not-room.ensures

pub fill-requires : goal.fill-requires
fill-requires c =
    call-ready _ _ _ _ _ (check-told c.sound_over.ensures) c.if-not-sound_over.false _ c.find.ensures _ c.in-Some.is _ c.room.ensures
    c.if-not-room.false

pub returns : goal.returns
returns c =
    call-done _ _ _ _ _ _ _ c.sound_over.ensures c.if-not-sound_over.false _ (to_z-of_z c.ranges.root) _ c.find.ensures _
    c.in-Some.is _ c.room.ensures c.if-not-room.false c.fill.ensures
