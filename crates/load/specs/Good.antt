-- The rules "Lists": the files that a load accepts, and why it refuses others, said of their bytes and of the identifiers in them, with no
-- word on how they are read.
use Rattle.std.specs.Prelude.{ℕ, ◌≤◌, ◌<◌, ◌≡◌, true, false, List, ℤ, length}
use Rattle.basis.specs.declared.refusal.Refusal.{Refusal}
use Rattle.basis.specs.Refusal.{plain, no_room, unknown_number, vertex_file, edge_file}
use Rattle.text.specs.Word.{ident_of}
use Rattle.text.specs.Line.{two_of}
use Rattle.text.specs.File.{FirstFault}
use Rattle.graph.specs.declared.Size.{Size}
use Rattle.graph.specs.Sound.{Graph, lent}
use Rattle.graph.specs.Find.{place_in}
use Rattle.lists.specs.Good.{GoodVertices, GoodEdges}
use Rattle.load.specs.declared.Limits.{Limits}
use Rattle.lists.specs.Files.{vertex_test, edge_test}
use Rattle.load.specs.Load.{Lists, Room, is_undirected, places_for, arc_room, listed_arcs, Outcome}

-- all that a load asks for, and the lists that it then gives
pub record GoodLoad (limits : Limits) (mode : ℕ) (room : Room) (vertices edges : List ℕ) (g : Lists) : Type 0 where
  pub known : mode ≤ 1
  pub good_vertices : GoodVertices limits.vertices vertices g.ids
  pub ids_fit : length g.ids ≤ room.ids
  pub out_offsets_fit : length g.ids < room.out_offsets
  pub in_offsets_fit : length g.ids < room.in_offsets
  pub list : List (ℤ × ℤ)
  pub good_edges : GoodEdges (is_undirected mode) limits.edges g.ids edges list
  pub arcs_are : g.arcs ≡ listed_arcs (is_undirected mode) g.ids list
  pub out_targets_fit : length g.arcs ≤ room.out_targets
  pub in_sources_fit : length g.arcs ≤ room.in_sources

-- why a load is refused, in the "Order of checks": the mode (12); the vertex file's first fault; "room for identifiers (n places) and
-- offsets (n+1 places each way)" (8); the edge file's first fault; "room for the arcs each way" (8)
pub data RefusedLoad (limits : Limits) (mode : ℕ) (room : Room) (vertices edges : List ℕ) (r : Refusal) : Type 0 where
  unknown_mode : 1 < mode → r ≡ plain unknown_number → RefusedLoad limits mode room vertices edges r
  vertex_fault : mode ≤ 1 → FirstFault ident_of vertex_file limits.vertices vertex_test vertices r
      → RefusedLoad limits mode room vertices edges r
  no_places : mode ≤ 1 → (ids : List ℤ) → GoodVertices limits.vertices vertices ids → places_for room ids ≡ false → r ≡ plain no_room
      → RefusedLoad limits mode room vertices edges r
  edge_fault : mode ≤ 1 → (ids : List ℤ) → GoodVertices limits.vertices vertices ids → places_for room ids ≡ true
      → FirstFault (two_of ident_of ident_of) edge_file limits.edges (edge_test (is_undirected mode) (place_in ids)) edges r
      → RefusedLoad limits mode room vertices edges r
  no_arcs : mode ≤ 1 → (ids : List ℤ) → GoodVertices limits.vertices vertices ids → places_for room ids ≡ true
      → (list : List (ℤ × ℤ)) → GoodEdges (is_undirected mode) limits.edges ids edges list
      → arc_room room.out_targets room.in_sources (length (listed_arcs (is_undirected mode) ids list)) ≡ false → r ≡ plain no_room
      → RefusedLoad limits mode room vertices edges r

-- the graph in the five areas after a load
abbrev pub graph_left : Size → Outcome → Graph
graph_left size o = lent size o.ids o.out_offsets o.out_targets o.in_offsets o.in_sources
