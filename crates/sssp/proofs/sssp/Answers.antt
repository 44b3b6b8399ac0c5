use mathlib.Core.Path.{sym}
use lib.Seq.{length-take-le}
use mir.Facts.{to_z-of_z}
use Rattle.basis.proofs.Tests.{held}
use Rattle.graph.proofs.Walks.{check-told}
use Rattle.graph.proofs.Weighings.{weighted-of}
use Rattle.sssp.proofs.Calls.{call-unsound, call-plain, call-missing, call-short, call-ready, call-done}
use Rattle.sssp.proofs.sssp.Goals as goal

pub returns-then-not-weighted_sound_over : goal.returns-then-not-weighted_sound_over
returns-then-not-weighted_sound_over c =
    call-unsound _ _ _ _ _ _ _ _ _
    c.weighted_sound_over.ensures
    c.if-not-weighted_sound_over.true
    c.refuse.ensures

pub returns-then-not-is_weighted : goal.returns-then-not-is_weighted
returns-then-not-is_weighted c =
    call-plain _ _ _ _ _ _ _ _ _
    c.weighted_sound_over.ensures
    c.if-not-weighted_sound_over.false _
    c.is_weighted.ensures
    c.if-not-is_weighted.true
    c.refuse-then-not-is_weighted.ensures

pub slice_bounds-find-end : goal.slice_bounds-find-end
slice_bounds-find-end c =
    sym (length-take-le _ _
    (weighted-of _ (held _ _ (check-told c.weighted_sound_over.ensures)
    c.if-not-weighted_sound_over.false)).graph.ids_room)

pub returns-in_default : goal.returns-in_default
returns-in_default c =
    call-missing _ _ _ _ _ _ _ _ _
    c.weighted_sound_over.ensures
    c.if-not-weighted_sound_over.false _
    c.is_weighted.ensures
    c.if-not-is_weighted.false _
    (to_z-of_z c.ranges.root) _
    c.find.ensures
    c.in_default.is
    c.refuse-in_default.ensures

pub returns-then-not-room : goal.returns-then-not-room
returns-then-not-room c =
    call-short _ _ _ _ _ _ _ _ _
    c.weighted_sound_over.ensures
    c.if-not-weighted_sound_over.false _
    c.is_weighted.ensures
    c.if-not-is_weighted.false _
    (to_z-of_z c.ranges.root) _
    c.find.ensures _
    c.in-Some.is _
    c.room.ensures
    c.if-not-room.true
    c.refuse-then-not-room.ensures

pub fill-requires : goal.fill-requires
fill-requires c =
    call-ready _ _ _ _ _ _ _ (check-told
    c.weighted_sound_over.ensures)
    c.if-not-weighted_sound_over.false _
    c.is_weighted.ensures
    c.if-not-is_weighted.false _
    c.find.ensures _
    c.in-Some.is _
    c.room.ensures c.if-not-room.false

pub returns : goal.returns
returns c =
    call-done _ _ _ _ _ _ _ _ _
    c.weighted_sound_over.ensures
    c.if-not-weighted_sound_over.false _
    c.is_weighted.ensures
    c.if-not-is_weighted.false _
    (to_z-of_z c.ranges.root) _
    c.find.ensures _
    c.in-Some.is _
    c.room.ensures
    c.if-not-room.false
    c.fill.ensures
