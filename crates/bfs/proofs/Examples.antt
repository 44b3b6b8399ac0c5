-- BFS on the sheet's graph of the rules, computed through the call; and each refusal. Assumes nothing.
use mathlib.Core.Path.{◌≡◌, refl}
use mathlib.Core.List.{[], ◌∷◌}
use lib.IntN.{pos}
use Rattle.basis.specs.Refusal.{gives, refuses, plain}
use Rattle.basis.specs.Area.{column}
use Rattle.basis.specs.Scan.{every, each, mem, first_from}
use Rattle.graph.specs.Part.{targets_between, part_of}
use Rattle.graph.specs.Find.{place_from}
use Rattle.graph.specs.Sound.{Graph, sound_ids, sound_offsets, sound_side, mirrored, sound_sides, sound_graph}
use Rattle.graph.proofs.Examples.{sheet_graph}
use Rattle.kernels.specs.Answer.{kernel_says}
use Rattle.bfs.specs.Depth.{ends, ring, ring_depth, depth_of}
use Rattle.bfs.specs.Call.{outcome, room_for, left_by, bfs_call}

-- areas with places to spare that held something before
pub spare-places : bfs_call sheet_graph (pos 2) (pos 7 ∷ pos 7 ∷ pos 7 ∷ pos 7 ∷ pos 7 ∷ pos 7 ∷ pos 7 ∷ []) (9 ∷ 9 ∷ 9 ∷ 9 ∷ 9 ∷ 9 ∷ [])
    ≡ outcome (gives tt) (pos 9223372036854775807 ∷ pos 0 ∷ pos 1 ∷ pos 1 ∷ pos 2 ∷ pos 0 ∷ pos 0 ∷ []) (0 ∷ 0 ∷ 0 ∷ 0 ∷ 0 ∷ 0 ∷ [])
unfolding bfs_call left_by room_for kernel_says sound_sides sound_graph sound_ids sound_side sound_offsets mirrored every each place_from
    first_from
    ends ring
    ring_depth depth_of column mem part_of targets_between
spare-places = refl

-- no vertex is 3
pub root-missing : bfs_call sheet_graph (pos 3) (pos 7 ∷ []) (9 ∷ 9 ∷ []) ≡ outcome (refuses (plain 10)) (pos 0 ∷ []) (0 ∷ 0 ∷ [])
unfolding bfs_call left_by room_for kernel_says sound_sides sound_graph sound_ids sound_side sound_offsets mirrored every each place_from
    mem part_of
    targets_between
root-missing = refl

-- a queue of four places is too short
pub queue-short : bfs_call sheet_graph (pos 2) (pos 7 ∷ pos 7 ∷ pos 7 ∷ pos 7 ∷ pos 7 ∷ []) (9 ∷ 9 ∷ 9 ∷ 9 ∷ [])
    ≡ outcome (refuses (plain 8)) (pos 0 ∷ pos 0 ∷ pos 0 ∷ pos 0 ∷ pos 0 ∷ []) (0 ∷ 0 ∷ 0 ∷ 0 ∷ [])
unfolding bfs_call left_by room_for kernel_says sound_sides sound_graph sound_ids sound_side sound_offsets mirrored every each place_from
    mem part_of
    targets_between
queue-short = refl

-- a graph of six vertices wants a sixth identifier
abbrev six_vertices : Graph
six_vertices =
    let g = sheet_graph in
    record {
      vertices = 6;
      arcs = g.arcs;
      ids = g.ids;
      out_offsets = g.out_offsets;
      out_targets = g.out_targets;
      in_offsets = g.in_offsets;
      in_sources = g.in_sources;
    }

pub graph-unsound : bfs_call six_vertices (pos 3) (pos 7 ∷ []) (9 ∷ []) ≡ outcome (refuses (plain 9)) (pos 0 ∷ []) (0 ∷ [])
unfolding bfs_call left_by room_for kernel_says sound_sides sound_graph sound_ids sound_side sound_offsets mirrored every each place_from
    mem part_of
    targets_between
graph-unsound = refl
