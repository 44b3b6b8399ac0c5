-- The rules "Lists": the identifiers that a vertex file lists, and the edges that an edge file lists.
use Rattle.std.specs.Prelude.{Option, Some, None, ℕ, Bool, true, cond, ◌&&◌, ◌||◌, List, [], ◌∷◌, ℤ}
use Rattle.std.specs.Int.Signed.{lt_z}
use Rattle.basis.specs.Refusal.{Said, not_above, self_edge, larger_first, unknown_vertex, vertex_file, edge_file}
use Rattle.basis.specs.Order.{same_z}
use Rattle.text.specs.Line.{vertex_line, edge_line}
use Rattle.text.specs.File.{lines_of, Before, first, after, values_of}
use Rattle.graph.specs.Arcs.{Arc}
use Rattle.graph.specs.Find.{is_there}

-- "Vertex lines strictly rise as signed numbers."
abbrev pub vertex_test : Before ℤ → ℤ → ℕ
vertex_test first z = 0
vertex_test (after y) z = cond (lt_z y z) 0 not_above

-- "the vertex file line by line (1, 2, 3, 4)"
abbrev pub identifiers : ℕ → List ℕ → Said (List ℤ)
identifiers most s = values_of vertex_file most vertex_test (lines_of vertex_line s)

-- "Edge lines strictly rise by first number, then second."
abbrev pub above_pair : ℤ × ℤ → ℤ × ℤ → Bool
above_pair e f = lt_z e.0 f.0 || (same_z e.0 f.0 && lt_z e.1 f.1)

-- an edge line is above the one before it; the first line has none before it and passes
abbrev pub is_above : Before (ℤ × ℤ) → ℤ × ℤ → Bool
is_above first e = true
is_above (after d) e = above_pair d e

-- the number of a vertex that was found; 0 where it is missing, and then its edge is refused
abbrev pub vertex_number : Option ℕ → ℕ
vertex_number (Some k) = k
vertex_number None = 0

-- "an edge joins a vertex to itself"; "undirected, and the first number is the larger"; "not above the one before it"; "names a vertex not
-- in the vertex file"
unfoldable pub edge_test : Bool → (ℤ → Option ℕ) → Before (ℤ × ℤ) → ℤ × ℤ → ℕ
edge_test undirected place before e =
    cond (same_z e.0 e.1) self_edge
    (cond (undirected && lt_z e.1 e.0) larger_first
    (cond (is_above before e) (cond (is_there (place e.0) && is_there (place e.1)) 0 unknown_vertex) not_above))

-- "the edge file line by line (1, 2, 3, 5, 6, 4, 7)"
abbrev pub edges_of : Bool → ℕ → (ℤ → Option ℕ) → List ℕ → Said (List (ℤ × ℤ))
edges_of undirected most place s = values_of edge_file most (edge_test undirected place) (lines_of edge_line s)

-- an edge, by the numbers of its vertices
abbrev pub numbered : (ℤ → Option ℕ) → ℤ × ℤ → Arc
numbered place e = (vertex_number (place e.0), vertex_number (place e.1))

-- a list of edges, by the numbers of their vertices, in order
abbrev pub all_numbered : (ℤ → Option ℕ) → List (ℤ × ℤ) → List Arc
all_numbered place [] = []
all_numbered place (e ∷ l) = numbered place e ∷ all_numbered place l
