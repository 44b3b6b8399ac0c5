-- Change K3: what the SSSP call answers, and what it leaves in the areas lent for writing.
use Rattle.std.specs.Prelude.{ℕ, Bool, ◌&&◌, Option, Some, None, List, [], ℤ, pos, length, leb}
use Rattle.basis.specs.Refusal.{Said, gives, refuses, plain, check, no_room, unsound, not_there, unweighted}
use Rattle.basis.specs.Area.{leaves, cleared, cleared_z}
use Rattle.graph.specs.Find.{place_in, is_there}
use Rattle.graph.specs.Sound.{names}
use Rattle.graph.specs.Weights.{Weighted, is_weighted, out_legs, sound_weighted}
use Rattle.sssp.specs.Distance.{distances, as_signed}

-- the answer, and what stands in the result area and in the three working areas: the distances that are settled, those of the vertices that
-- wait, and the tree that finds the nearest of these
pub record Outcome : Type 0 where
  pub said : Said (Unit {0})
  pub distance : List ℤ
  pub settled : List ℕ
  pub waiting : List ℕ
  pub tree : List ℕ

-- the same, by its fields in order
abbrev pub outcome : Said (Unit {0}) → List ℤ → List ℕ → List ℕ → List ℕ → Outcome
outcome said distance settled waiting tree =
    record { said = said; distance = distance; settled = settled; waiting = waiting; tree = tree }

-- "fill every area lent for writing with zero": a refusal with its number
abbrev pub refusal : ℕ → List ℤ → List ℕ → List ℕ → List ℕ → Outcome
refusal number distance settled waiting tree =
    outcome (refuses (plain number)) (cleared_z distance) (cleared settled) (cleared waiting) (cleared tree)

-- the distances from a root that is there
abbrev pub distances_from : Weighted → Option ℕ → List ℤ
distances_from g (Some root) = as_signed g.graph.vertices (distances g.graph.vertices (out_legs g) root)
distances_from g None = []

-- "each result or working area needs n places"
unfoldable pub room_for : ℕ → List ℤ → List ℕ → List ℕ → List ℕ → Bool
room_for n distance settled waiting tree =
    (leb n (length distance) && leb n (length settled)) && (leb n (length waiting) && leb n (length tree))

-- with an answer: the distances from the root's place in the result area with zeros behind them, or zeros where refused;
-- "working areas are zero throughout"
unfoldable pub left_by : Said (Unit {0}) → Weighted → Option ℕ → List ℤ → List ℕ → List ℕ → List ℕ → Outcome
left_by said g place distance settled waiting tree =
    outcome said (leaves said (pos 0) (length distance) (distances_from g place)) (cleared settled) (cleared waiting) (cleared tree)

-- "Kernels check 9, then 10 or 11, then 8", of which SSSP has 10; "14, SSSP on an unweighted graph, after 9"
unfoldable pub sssp_says : Bool → Bool → Bool → Bool → Said (Unit {0})
sssp_says sound weighted there room =
    check sound unsound (check weighted unweighted (check there not_there (check room no_room (gives tt))))

-- the call on a graph with its weights, a root "given by identifier" and what stands in the four areas
unfoldable pub sssp_call : Weighted → ℤ → List ℤ → List ℕ → List ℕ → List ℕ → Outcome
sssp_call g root distance settled waiting tree =
    let place = place_in (names g.graph) root in
    left_by
    (sssp_says (sound_weighted g) (is_weighted g) (is_there place) (room_for g.graph.vertices distance settled waiting tree))
    g place distance settled waiting tree
