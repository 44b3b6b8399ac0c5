use Rattle.basis.proofs.Areas.{cleared-again}
use Rattle.matching.proofs.FirstPlaces.{room-first, room-second, room-third}
use Rattle.matching.proofs.DecimalLines.{coefficients-short, coefficients-done}
use Rattle.matching.proofs.coefficients.judge_coefficients.Goals as goal

pub returns-then-not-has_room : goal.returns-then-not-has_room
returns-then-not-has_room c = search coefficients-short

pub read_coefficients-judged-requires : goal.read_coefficients-judged-requires
read_coefficients-judged-requires c =
    let e = c.has_room.ensures in
    let f = c.if-not-has_room.false in record {
      ids_in_bounds = (room-first _ _ _ _ e f, room-second _ _ _ _ e f);
      ids_in_bounds_2 = (room-third _ _ _ _ e f, search cleared-again);
    }

pub returns : goal.returns
returns c = search coefficients-done
