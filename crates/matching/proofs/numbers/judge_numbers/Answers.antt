use Rattle.basis.proofs.Areas.{cleared-again}
use Rattle.matching.proofs.FirstPlaces.{room-first, room-second, room-third}
use native.Mathlib.Omega.{arith}
use lib.Seq.{length-take-le}
use mathlib.Core.Path.{sym}
use Rattle.matching.proofs.Judging.{judge-short, judge-kept, judge-lengths, judge-wide, judge-well, judge-done}
use Rattle.matching.proofs.numbers.judge_numbers.Goals as goal

pub returns-then-not-has_room : goal.returns-then-not-has_room
returns-then-not-has_room c = search judge-short

pub read_numbers-read-requires : goal.read_numbers-read-requires
read_numbers-read-requires c = record {
  ids_in_bounds = (search room-second, search room-third);
  lines_value = search cleared-again;
}

pub slice_bounds-judged_on-end : goal.slice_bounds-judged_on-end
slice_bounds-judged_on-end c =
    sym (length-take-le _ _ (room-first _ _ _ _ c.has_room.ensures
    c.if-not-has_room.false))

pub slice_bounds-judged_on-end-2 : goal.slice_bounds-judged_on-end-2
slice_bounds-judged_on-end-2 c = search judge-kept

pub slice_bounds-judged_on-end-3 : goal.slice_bounds-judged_on-end-3
slice_bounds-judged_on-end-3 c = sym (length-take-le _ _ (search judge-kept))

pub judged_on-judged-requires : goal.judged_on-judged-requires
judged_on-judged-requires c =
    let a = c.args.reference.now in
    let e = c.has_room.ensures in
    let f = c.if-not-has_room.false in
    let h = c.read_numbers-read.ensures in
    record {
      same_size = (judge-lengths _ _ a _ _ _ e f _ _ _ h, judge-wide _ _ a _ _ _ e f _ _ _ h);
      well_read = judge-well _ _ a _ _ _ e f _ _ _ h (omega arith);
    }

pub returns : goal.returns
returns c = search judge-done
