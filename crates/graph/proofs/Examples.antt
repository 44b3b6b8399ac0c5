-- Graphs that are sound, and one that isn't: each computed from the definitions.
use Prim.Native.Nat.{ℕ}
use mathlib.Core.Path.{◌≡◌, refl}
use mathlib.Core.Bool.{true, false}
use mathlib.Core.List.{List, [], ◌∷◌}
use lib.IntN.{pos, negsuc}
use Rattle.basis.specs.Area.{column}
use Rattle.basis.specs.Scan.{every, each, mem}
use Rattle.graph.specs.Part.{targets_between, part_of}
use Rattle.graph.specs.Arcs.{Arc, arcs, backward, parts, offsets}
use Rattle.graph.specs.Sound.{Graph, sound_ids, sound_offsets, sound_side, mirrored, sound_sides, sound_graph}

-- ---- the sheet of the rules: vertices -3 2 5 9 20, arcs 2 5, 2 9, 5 2, 5 9, 9 20
abbrev sheet_arcs : List Arc
sheet_arcs = (1, 2) ∷ (1, 3) ∷ (2, 1) ∷ (2, 3) ∷ (3, 4) ∷ []

abbrev pub sheet_graph : Graph
sheet_graph =
    record {
      vertices = 5;
      arcs = 5;
      ids = negsuc 2 ∷ pos 2 ∷ pos 5 ∷ pos 9 ∷ pos 20 ∷ [];
      out_offsets = 0 ∷ 0 ∷ 2 ∷ 4 ∷ 5 ∷ 5 ∷ [];
      out_targets = 2 ∷ 3 ∷ 1 ∷ 3 ∷ 4 ∷ [];
      in_offsets = 0 ∷ 0 ∷ 1 ∷ 2 ∷ 4 ∷ 5 ∷ [];
      in_sources = 2 ∷ 1 ∷ 1 ∷ 2 ∷ 3 ∷ [];
    }

pub sheet-sound : sound_graph sheet_graph ≡ true
unfolding sound_sides sound_graph sound_ids sound_offsets sound_side mirrored every each mem part_of targets_between
sheet-sound = refl

-- its areas store its arcs, and their reverse
sheet-out-offsets : offsets sheet_arcs 5 ≡ sheet_graph.out_offsets
unfolding column
sheet-out-offsets = refl

sheet-out-targets : parts sheet_arcs 5 ≡ sheet_graph.out_targets
sheet-out-targets = refl

sheet-in-offsets : offsets (backward sheet_arcs) 5 ≡ sheet_graph.in_offsets
unfolding column
sheet-in-offsets = refl

sheet-in-sources : parts (backward sheet_arcs) 5 ≡ sheet_graph.in_sources
sheet-in-sources = refl

-- ---- undirected, two edges of three vertices: "it stores two arcs", so both ways are the same
abbrev path_arcs : List Arc
path_arcs = arcs true ((0, 1) ∷ (1, 2) ∷ [])

abbrev path_graph : Graph
path_graph =
    record {
      vertices = 3;
      arcs = 4;
      ids = pos 1 ∷ pos 2 ∷ pos 3 ∷ [];
      out_offsets = offsets path_arcs 3;
      out_targets = parts path_arcs 3;
      in_offsets = offsets path_arcs 3;
      in_sources = parts path_arcs 3;
    }

path-sound : sound_graph path_graph ≡ true
unfolding column sound_sides sound_graph sound_ids sound_offsets sound_side mirrored every each mem part_of targets_between
path-sound = refl

-- ---- the sheet's graph without the inward arc 9 20, and with 5 20 in its place
abbrev damaged_graph : List ℕ → List ℕ → Graph
damaged_graph offsets sources =
    record {
      vertices = 5;
      arcs = 5;
      ids = sheet_graph.ids;
      out_offsets = sheet_graph.out_offsets;
      out_targets = sheet_graph.out_targets;
      in_offsets = offsets;
      in_sources = sources;
    }

missing-unsound : sound_graph (damaged_graph (0 ∷ 0 ∷ 1 ∷ 2 ∷ 4 ∷ 4 ∷ []) (2 ∷ 1 ∷ 1 ∷ 2 ∷ 0 ∷ [])) ≡ false
unfolding sound_sides sound_graph sound_ids sound_offsets sound_side mirrored every each mem part_of targets_between
missing-unsound = refl

changed-unsound : sound_graph (damaged_graph (0 ∷ 0 ∷ 1 ∷ 2 ∷ 4 ∷ 5 ∷ []) (2 ∷ 1 ∷ 1 ∷ 2 ∷ 2 ∷ [])) ≡ false
unfolding sound_sides sound_graph sound_ids sound_offsets sound_side mirrored every each mem part_of targets_between
changed-unsound = refl
