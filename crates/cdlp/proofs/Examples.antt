-- CDLP on the sheet's graph of the rules, computed through the call; and refusals. Assumes nothing.
use mathlib.Core.Path.{◌≡◌, refl}
use mathlib.Core.List.{[], ◌∷◌}
use lib.IntN.{pos, negsuc}
use Rattle.basis.specs.Refusal.{gives, refuses, plain}
use Rattle.basis.specs.Area.{column}
use Rattle.basis.specs.Scan.{every, each, mem}
use Rattle.graph.specs.Part.{targets_between, part_of}
use Rattle.graph.specs.Sound.{sound_ids, sound_offsets, sound_side, mirrored, sound_sides, sound_graph}
use Rattle.graph.proofs.Examples.{sheet_graph}
use Rattle.kernels.specs.Answer.{kernel_says}
use Rattle.cdlp.specs.Label.{times, most_times, standing, most_common, smallest, smallest_or, next_label}
use Rattle.cdlp.specs.Rounds.{around, labels_at, next_at, one_round, rounds, cdlp_of}
use Rattle.cdlp.specs.Call.{most_rounds, good_rounds, room_for, outcome, left_by, cdlp_call}

-- areas with a place to spare that held something before
pub spare-place : cdlp_call sheet_graph (pos 2) (pos 7 ∷ pos 7 ∷ pos 7 ∷ pos 7 ∷ pos 7 ∷ pos 7 ∷ []) (1 ∷ 1 ∷ 1 ∷ 1 ∷ 1 ∷ [])
    (1 ∷ 1 ∷ 1 ∷ 1 ∷ 1 ∷ []) (1 ∷ 1 ∷ 1 ∷ 1 ∷ 1 ∷ 1 ∷ [])
    ≡ outcome (gives tt) (negsuc 2 ∷ pos 2 ∷ pos 5 ∷ pos 2 ∷ pos 2 ∷ pos 0 ∷ []) (0 ∷ 0 ∷ 0 ∷ 0 ∷ 0 ∷ []) (0 ∷ 0 ∷ 0 ∷ 0 ∷ 0 ∷ [])
    (0 ∷ 0 ∷ 0 ∷ 0 ∷ 0 ∷ 0 ∷ [])
unfolding cdlp_call left_by kernel_says good_rounds room_for sound_sides sound_graph sound_ids sound_side sound_offsets mirrored every each
    mem
    targets_between part_of column times most_times standing most_common smallest smallest_or next_label around labels_at next_at one_round
    rounds
    cdlp_of
spare-place = refl

-- a round too many comes before an area too short: 11, then 8
pub too_many : cdlp_call sheet_graph (pos 1001) (pos 7 ∷ []) [] [] [] ≡ outcome (refuses (plain 11)) (pos 0 ∷ []) [] [] []
unfolding cdlp_call left_by kernel_says good_rounds sound_sides sound_graph sound_ids sound_side sound_offsets mirrored every each mem
    targets_between
    part_of
too_many = refl

pub too_short : cdlp_call sheet_graph (pos most_rounds) (pos 7 ∷ []) (3 ∷ []) [] []
    ≡ outcome (refuses (plain 8)) (pos 0 ∷ []) (0 ∷ []) [] []
unfolding cdlp_call left_by kernel_says good_rounds room_for sound_sides sound_graph sound_ids sound_side sound_offsets mirrored every each
    mem
    targets_between part_of
too_short = refl
