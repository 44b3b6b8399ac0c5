-- SSSP on the sheet's graph of the rules with weights 4 and 10 from its second vertex, 4 and 3 from the third and 0 from the fourth,
-- computed through the call; and each refusal. Assumes nothing.
use Prim.Native.Nat.{ℕ}
use mathlib.Core.Path.{◌≡◌, refl}
use mathlib.Core.Bool.{true, false}
use mathlib.Core.List.{List, [], ◌∷◌}
use lib.IntN.{pos}
use lib.ListN.{replicate}
use Rattle.basis.specs.Refusal.{gives, refuses, plain}
use Rattle.basis.specs.Area.{column}
use Rattle.basis.specs.Scan.{every, each, mem}
use Rattle.graph.specs.Part.{targets_between, part_of}
use Rattle.graph.specs.Find.{place_from}
use Rattle.graph.specs.Sound.{Graph, sound_ids, sound_offsets, sound_side, mirrored, sound_sides, sound_graph}
use Rattle.graph.specs.Weights.{Weighted, weighing, out_legs, legs, has_leg, legs_mirrored, sound_weights, sound_weighted}
use Rattle.graph.proofs.Examples.{sheet_graph}
use Rattle.sssp.specs.Distance.{offered, overall, least_within, distances}
use Rattle.sssp.specs.Call.{outcome, room_for, left_by, sssp_says, sssp_call}

abbrev sheet : Weighted
sheet = weighing sheet_graph true (4 ∷ 10 ∷ 4 ∷ 3 ∷ 0 ∷ []) (4 ∷ 4 ∷ 10 ∷ 3 ∷ 0 ∷ [])

abbrev nines : ℕ → List ℕ
nines n = replicate n 9

-- over the third vertex the fourth is at 7 and not at 10, and the fifth no further
pub sheet-distances : distances 5 (out_legs sheet) 1 ≡ 9223372036854775807 ∷ 0 ∷ 4 ∷ 7 ∷ 7 ∷ []
unfolding legs offered overall least_within column part_of targets_between
sheet-distances = refl

-- the same by a call, with a place to spare in the result area
pub sheet-call : sssp_call sheet (pos 2) (replicate 6 (pos 7)) (nines 5) (nines 6) (nines 5)
    ≡ outcome (gives tt) (pos 9223372036854775807 ∷ pos 0 ∷ pos 4 ∷ pos 7 ∷ pos 7 ∷ pos 0 ∷ []) (replicate 5 0) (replicate 6 0)
    (replicate 5 0)
unfolding sssp_call left_by room_for sssp_says sound_weighted sound_weights legs_mirrored has_leg sound_sides sound_graph sound_ids
    sound_side
    sound_offsets mirrored every each place_from legs offered overall least_within column mem part_of targets_between
sheet-call = refl

-- ---- refusals on areas of one place each: a graph's call with an identifier is refused with a number
abbrev Refused : Weighted → ℕ → ℕ → Type 0
Refused g root number =
    sssp_call g (pos root) (pos 7 ∷ []) (9 ∷ []) (9 ∷ []) (9 ∷ [])
    ≡ outcome (refuses (plain number)) (pos 0 ∷ []) (0 ∷ []) (0 ∷ []) (0 ∷ [])

-- the inward weight of the last arc differs
pub back-differs : Refused (weighing sheet_graph true (4 ∷ 10 ∷ 4 ∷ 3 ∷ 0 ∷ []) (4 ∷ 4 ∷ 10 ∷ 3 ∷ 1 ∷ [])) 3 9
unfolding sssp_call left_by room_for sssp_says sound_weighted sound_weights legs_mirrored has_leg sound_sides sound_graph sound_ids
    sound_side
    sound_offsets mirrored every each place_from legs mem part_of targets_between
back-differs = refl

-- it weighs more than 100000
pub too-heavy : Refused (weighing sheet_graph true (4 ∷ 10 ∷ 4 ∷ 3 ∷ 100000000001 ∷ []) (4 ∷ 4 ∷ 10 ∷ 3 ∷ 100000000001 ∷ [])) 3 9
unfolding sssp_call left_by room_for sssp_says sound_weighted sound_weights legs_mirrored has_leg sound_sides sound_graph sound_ids
    sound_side
    sound_offsets mirrored every each place_from legs mem part_of targets_between
too-heavy = refl

-- it has no place in the outward weights
pub weights-few : Refused (weighing sheet_graph true (4 ∷ 10 ∷ 4 ∷ 3 ∷ []) (4 ∷ 4 ∷ 10 ∷ 3 ∷ 0 ∷ [])) 3 9
unfolding sssp_call left_by room_for sssp_says sound_weighted sound_weights legs_mirrored has_leg sound_sides sound_graph sound_ids
    sound_side
    sound_offsets mirrored every each place_from legs mem part_of targets_between
weights-few = refl

-- the graph is marked as unweighted: its weight areas are not looked at
pub not-marked : Refused (weighing sheet_graph false [] []) 3 14
unfolding sssp_call left_by room_for sssp_says sound_weighted sound_sides sound_graph sound_ids sound_side sound_offsets mirrored every each
    place_from
    mem part_of targets_between
not-marked = refl

-- "a sound graph without arcs [is] unweighted", though it is marked
abbrev lone : Graph
lone =
    record {
      vertices = 1;
      arcs = 0;
      ids = pos 3 ∷ [];
      out_offsets = 0 ∷ 0 ∷ [];
      out_targets = [];
      in_offsets = 0 ∷ 0 ∷ [];
      in_sources = [];
    }

pub without-arcs : Refused (weighing lone true [] []) 3 14
unfolding sssp_call left_by room_for sssp_says sound_weighted sound_sides sound_graph sound_ids sound_side sound_offsets mirrored every each
    place_from
    mem part_of targets_between
without-arcs = refl

-- no vertex is 3
pub root-missing : Refused sheet 3 10
unfolding sssp_call left_by room_for sssp_says sound_weighted sound_weights legs_mirrored has_leg sound_sides sound_graph sound_ids
    sound_side
    sound_offsets mirrored every each place_from legs mem part_of targets_between
root-missing = refl

-- one place is too few for five vertices
pub areas-short : Refused sheet 2 8
unfolding sssp_call left_by room_for sssp_says sound_weighted sound_weights legs_mirrored has_leg sound_sides sound_graph sound_ids
    sound_side
    sound_offsets mirrored every each place_from legs mem part_of targets_between
areas-short = refl
