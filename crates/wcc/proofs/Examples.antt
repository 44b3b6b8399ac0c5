-- WCC on the sheet's graph of the rules, computed through the call; refusals; a path against its arcs. Assumes nothing.
use mathlib.Core.Path.{◌≡◌, refl}
use mathlib.Core.List.{[], ◌∷◌}
use lib.IntN.{pos, negsuc}
use Rattle.basis.specs.Refusal.{gives, refuses, plain}
use Rattle.basis.specs.Area.{column}
use Rattle.basis.specs.Scan.{every, each, mem, first_from}
use Rattle.graph.specs.Part.{targets_between, part_of}
use Rattle.graph.specs.Sound.{lent, sound_ids, sound_offsets, sound_side, mirrored, sound_sides, sound_graph}
use Rattle.graph.proofs.Examples.{sheet_graph}
use Rattle.kernels.specs.Answer.{kernel_says}
use Rattle.wcc.specs.Component.{adjacent, chain, first, label_of, labels}
use Rattle.wcc.specs.Call.{room_for, outcome, left_by, wcc_call}

-- areas with places to spare that held something before
pub spare-places : wcc_call sheet_graph (pos 7 ∷ pos 7 ∷ pos 7 ∷ pos 7 ∷ pos 7 ∷ pos 7 ∷ []) (9 ∷ 9 ∷ 9 ∷ 9 ∷ 9 ∷ 9 ∷ 9 ∷ [])
    ≡ outcome (gives tt) (negsuc 2 ∷ pos 2 ∷ pos 2 ∷ pos 2 ∷ pos 2 ∷ pos 0 ∷ []) (0 ∷ 0 ∷ 0 ∷ 0 ∷ 0 ∷ 0 ∷ 0 ∷ [])
unfolding wcc_call left_by kernel_says room_for sound_sides sound_graph sound_ids sound_side sound_offsets mirrored every each mem part_of
    targets_between
    column label_of first first_from chain adjacent
spare-places = refl

-- one place too few in the last area
pub too_short : wcc_call sheet_graph (pos 7 ∷ pos 7 ∷ pos 7 ∷ pos 7 ∷ pos 7 ∷ []) (9 ∷ 9 ∷ 9 ∷ 9 ∷ [])
    ≡ outcome (refuses (plain 8)) (pos 0 ∷ pos 0 ∷ pos 0 ∷ pos 0 ∷ pos 0 ∷ []) (0 ∷ 0 ∷ 0 ∷ 0 ∷ [])
unfolding wcc_call left_by kernel_says room_for sound_sides sound_graph sound_ids sound_side sound_offsets mirrored every each mem part_of
    targets_between
too_short = refl

-- an unsound graph, with an arc too few stated, comes before an area too short
pub unsound-first : wcc_call (lent (record { vertices = 5; arcs = 4 }) sheet_graph.ids sheet_graph.out_offsets sheet_graph.out_targets
    sheet_graph.in_offsets sheet_graph.in_sources) (pos 7 ∷ []) (9 ∷ [])
    ≡ outcome (refuses (plain 9)) (pos 0 ∷ []) (0 ∷ [])
unfolding wcc_call left_by kernel_says sound_sides sound_graph sound_ids sound_side sound_offsets mirrored every each mem part_of
    targets_between
unsound-first = refl

-- arcs 3 to 0, 3 to 2 and 2 to 1: from 0 to 1 leads one arc against its direction and two along theirs; vertex 4 is alone
pub either_way : labels 5 (part_of 5 (0 ∷ 0 ∷ 0 ∷ 1 ∷ 3 ∷ 3 ∷ []) (1 ∷ 0 ∷ 2 ∷ [])) (pos 10 ∷ pos 20 ∷ pos 30 ∷ pos 40 ∷ pos 50 ∷ [])
    ≡ pos 10 ∷ pos 10 ∷ pos 10 ∷ pos 10 ∷ pos 50 ∷ []
unfolding column label_of first first_from chain adjacent mem part_of targets_between
either_way = refl
