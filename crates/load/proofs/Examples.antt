-- Loads by computation: the sheet's graph of the rules, a small undirected one, and some that are refused.
use mathlib.Core.Path.{◌≡◌, refl}
use mathlib.Core.List.{List, [], ◌∷◌}
use Prim.Native.Nat.{ℕ}
use lib.IntN.{pos, negsuc}
use Rattle.basis.specs.Refusal.{gives, refuses, at_column, at, plain}
use Rattle.basis.specs.Scan.{each, mem}
use Rattle.basis.specs.Area.{column}
use Rattle.text.specs.Bytes.{bytes}
use Rattle.text.specs.Word.{within}
use Rattle.text.specs.Line.{line_by, two_of, two_stop}
use Rattle.text.specs.File.{lines_from, values_from}
use Rattle.graph.specs.Find.{place_from}
use Rattle.lists.specs.Files.{edge_test}
use Rattle.load.specs.Load.{room_of, arcs_read, lists_read, loaded, outcome, outcome_of, load_call, library}

-- the vertices of the sheet's graph, and its edges
vertices : List ℕ
vertices = bytes "-3\n2\n5\n9\n20\n"

edges : List ℕ
edges = bytes "2 5\n2 9\n5 2\n5 9\n9 20\n"

directed : load_call library 1 (room_of 6 7 6 6 5) vertices edges
    ≡ outcome (gives (record { vertices = 5; arcs = 5 }))
    (negsuc 2 ∷ pos 2 ∷ pos 5 ∷ pos 9 ∷ pos 20 ∷ pos 0 ∷ [])
    (0 ∷ 0 ∷ 2 ∷ 4 ∷ 5 ∷ 5 ∷ 0 ∷ [])
    (2 ∷ 3 ∷ 1 ∷ 3 ∷ 4 ∷ 0 ∷ [])
    (0 ∷ 0 ∷ 1 ∷ 2 ∷ 4 ∷ 5 ∷ [])
    (2 ∷ 1 ∷ 1 ∷ 2 ∷ 3 ∷ [])
unfolding vertices edges each mem column within line_by two_of place_from lines_from values_from edge_test arcs_read lists_read loaded
    outcome_of
    load_call
directed = refl

-- one place in each area: no room for five identifiers (8), before any edge is read
no-places : load_call library 0 (room_of 1 1 1 1 1) vertices edges
    ≡ outcome (refuses (plain 8)) (pos 0 ∷ []) (0 ∷ []) (0 ∷ []) (0 ∷ []) (0 ∷ [])
unfolding vertices edges each mem column within line_by two_of place_from lines_from values_from edge_test arcs_read lists_read loaded
    outcome_of
    load_call
no-places = refl

-- the same files read as undirected: 5 2 has the larger number first (6)
larger-first : loaded library 0 (room_of 5 6 9 6 9) vertices edges ≡ refuses (at 6 2 3)
unfolding vertices edges each mem within line_by two_of place_from lines_from values_from edge_test arcs_read lists_read loaded
larger-first = refl

-- three vertices with two edges, each of which stores two arcs
three : List ℕ
three = bytes "1\n2\n3\n"

star : List ℕ
star = bytes "1 2\n1 3\n"

undirected : load_call library 0 (room_of 3 4 5 4 4) three star
    ≡ outcome (gives (record { vertices = 3; arcs = 4 }))
    (pos 1 ∷ pos 2 ∷ pos 3 ∷ [])
    (0 ∷ 2 ∷ 3 ∷ 4 ∷ [])
    (1 ∷ 2 ∷ 0 ∷ 0 ∷ 0 ∷ [])
    (0 ∷ 2 ∷ 3 ∷ 4 ∷ [])
    (1 ∷ 2 ∷ 0 ∷ 0 ∷ [])
unfolding three star each mem column within line_by two_of place_from lines_from values_from edge_test arcs_read lists_read loaded
    outcome_of
    load_call
undirected = refl

-- "empty lists load"
empty : load_call library 1 (room_of 0 1 0 1 0) [] [] ≡ outcome (gives (record { vertices = 0; arcs = 0 })) [] (0 ∷ []) [] (0 ∷ []) []
unfolding each mem column within line_by two_of place_from lines_from values_from edge_test arcs_read lists_read loaded outcome_of load_call
empty = refl

-- a mode that is unknown (12); one vertex too many, whatever stands in its line (1); no room for the arcs (8)
unknown-mode : loaded library 2 (room_of 3 4 4 4 4) three star ≡ refuses (plain 12)
unfolding three star loaded
unknown-mode = refl

too_many : loaded (record { vertices = 2; edges = 2 }) 0 (room_of 3 4 4 4 4) (bytes "1\n2\n-") star ≡ refuses (at 1 1 3)
unfolding star each mem within line_by two_of place_from lines_from values_from edge_test arcs_read lists_read loaded
too_many = refl

no_room : loaded library 0 (room_of 3 4 4 4 3) three star ≡ refuses (plain 8)
unfolding three star each mem within line_by two_of place_from lines_from values_from edge_test arcs_read lists_read loaded
no_room = refl

-- 1 4 names a vertex that isn't there (7); 1 2 twice is not above (4)
not_there : loaded library 0 (room_of 3 4 4 4 4) three (bytes "1 4\n") ≡ refuses (at 7 2 1)
unfolding three each mem within line_by two_of place_from lines_from values_from edge_test arcs_read lists_read loaded
not_there = refl

twice : loaded library 0 (room_of 3 4 4 4 4) three (bytes "1 2\n1 2\n") ≡ refuses (at 4 2 2)
unfolding three each mem within line_by two_of place_from lines_from values_from edge_test arcs_read lists_read loaded
twice = refl

-- a tab behind the third vertex is in column 2 of line 3, and one behind the first edge's second number in column 4 of line 1
tab-behind-vertex : loaded library 0 (room_of 3 4 4 4 4) (bytes "1\n2\n3\t\n") star ≡ refuses (at_column 2 1 3 2)
unfolding star each mem within line_by two_of place_from lines_from values_from edge_test arcs_read lists_read loaded
tab-behind-vertex = refl

tab-behind-edge : loaded library 0 (room_of 3 4 4 4 4) three (bytes "1 2\t\n") ≡ refuses (at_column 2 2 1 4)
unfolding three each mem within line_by two_of two_stop place_from lines_from values_from edge_test arcs_read lists_read loaded
tab-behind-edge = refl
