-- The rules "Lists", "The loaded graph": what a load answers, and what stands in the five areas then.
use Rattle.std.specs.Prelude.{ℕ, ◌+◌, min, Bool, ◌&&◌, List, ℤ, pos, length, eqb, leb, ltb}
use Rattle.basis.specs.Refusal.{Said, gives, no_room, unknown_number, onward, mapped, check}
use Rattle.basis.specs.Area.{area_of}
use Rattle.basis.specs.Limits.{most_vertices, most_edges, desk_vertices, desk_edges}
use Rattle.graph.specs.declared.Size.{Size}
use Rattle.graph.specs.Find.{place_in}
use Rattle.graph.specs.Arcs.{Arc, arcs, backward, parts, offsets}
use Rattle.load.specs.declared.Limits.{Limits}
use Rattle.lists.specs.Files.{identifiers, edges_of, all_numbered}

-- what two files say: the identifiers, and the arcs between vertex numbers
pub record Lists : Type 0 where
  pub ids : List ℤ
  pub arcs : List Arc

-- how many places the lent areas have
pub record Room : Type 0 where
  pub ids : ℕ
  pub out_offsets : ℕ
  pub out_targets : ℕ
  pub in_offsets : ℕ
  pub in_sources : ℕ

-- "mode (0 undirected, 1 directed)"
abbrev pub is_undirected : ℕ → Bool
is_undirected mode = eqb mode 0

-- "room for identifiers (n places) and offsets (n+1 places each way)"
abbrev pub vertex_room : ℕ → ℕ → ℕ → ℕ → Bool
vertex_room ids oo io n = leb n ids && (ltb n oo && ltb n io)

-- "room for the arcs each way", in areas of two lengths
abbrev pub arc_room : ℕ → ℕ → ℕ → Bool
arc_room t t' m = leb m t && leb m t'

-- room in the lent areas for a list of identifiers and their offsets
abbrev pub places_for : Room → List ℤ → Bool
places_for room ids = vertex_room room.ids room.out_offsets room.in_offsets (length ids)

-- what is given where there is room enough
abbrev pub with_room : {A : Type 0} → Bool → A → Said A
with_room enough x = check enough no_room (gives x)

-- the arcs of a list of edges over the given identifiers, by the numbers of their vertices
abbrev pub listed_arcs : Bool → List ℤ → List (ℤ × ℤ) → List Arc
listed_arcs undirected ids es = arcs undirected (all_numbered (place_in ids) es)

-- the arcs of an edge file over the given identifiers, if there is room for them
unfoldable pub arcs_read : Bool → ℕ → List ℤ → List ℕ → ℕ → ℕ → Said (List Arc)
arcs_read undirected most ids s t t' =
    onward (edges_of undirected most (place_in ids) s)
    (λ es. with_room (arc_room t t' (length (listed_arcs undirected ids es))) (listed_arcs undirected ids es))

-- "the vertex file line by line (1, 2, 3, 4); room for identifiers (n places) and offsets (n+1 places each way); the edge file line by line
-- (1, 2, 3, 5, 6, 4, 7); room for the arcs each way"
unfoldable pub lists_read : Limits → Bool → Room → List ℕ → List ℕ → Said Lists
lists_read limits undirected room vertices edges =
    onward (identifiers limits.vertices vertices)
    (λ ids. onward (with_room (places_for room ids) ids)
    (λ ids. mapped (λ l. record { ids = ids; arcs = l })
    (arcs_read undirected limits.edges ids edges room.out_targets room.in_sources)))

-- "the mode (12)" before all
unfoldable pub loaded : Limits → ℕ → Room → List ℕ → List ℕ → Said Lists
loaded limits mode room vertices edges =
    check (leb mode 1) unknown_number (lists_read limits (is_undirected mode) room vertices edges)

-- a load's outcome: its answer, and the content of each area
pub record Outcome : Type 0 where
  pub answer : Said Size
  pub ids : List ℤ
  pub out_offsets : List ℕ
  pub out_targets : List ℕ
  pub in_offsets : List ℕ
  pub in_sources : List ℕ

-- the same, by its fields in order
abbrev pub outcome : Said Size → List ℤ → List ℕ → List ℕ → List ℕ → List ℕ → Outcome
outcome answer ids oo ot io is = record { answer = answer; ids = ids; out_offsets = oo; out_targets = ot; in_offsets = io; in_sources = is }

-- a `Room`, by its fields in order: identifiers, outward offsets and targets, inward offsets and sources
abbrev pub room_of : ℕ → ℕ → ℕ → ℕ → ℕ → Room
room_of ids oo ot io is = record { ids = ids; out_offsets = oo; out_targets = ot; in_offsets = io; in_sources = is }

-- the room of five areas: how many places each has
abbrev pub room_in : List ℤ → List ℕ → List ℕ → List ℕ → List ℕ → Room
room_in ids oo ot io is = room_of (length ids) (length oo) (length ot) (length io) (length is)

-- how large the graph is that two files say
abbrev pub size_of : Lists → Size
size_of g = record { vertices = length g.ids; arcs = length g.arcs }

-- the outcome of what two files say: a refusal fills "every area lent for writing with zero", and after success "places beyond the ones
-- used are zero"
unfoldable pub outcome_of : Room → Said Lists → Outcome
outcome_of room g =
    outcome (mapped size_of g) (area_of (pos 0) room.ids (λ g. g.ids) g)
    (area_of 0 room.out_offsets (λ g. offsets g.arcs (length g.ids)) g)
    (area_of 0 room.out_targets (λ g. parts g.arcs (length g.ids)) g)
    (area_of 0 room.in_offsets (λ g. offsets (backward g.arcs) (length g.ids)) g)
    (area_of 0 room.in_sources (λ g. parts (backward g.arcs) (length g.ids)) g)

-- the whole call
unfoldable pub load_call : Limits → ℕ → Room → List ℕ → List ℕ → Outcome
load_call limits mode room vertices edges = outcome_of room (loaded limits mode room vertices edges)

-- "Library limits: 65,536 vertices, 1,048,576 edges"
abbrev pub library : Limits
library = record { vertices = most_vertices; edges = most_edges }

-- "Library limits: 65,536 vertices, 1,048,576 edges" bind every load: a given limit above the library's counts as the library's
abbrev pub capped : Limits → Limits
capped limits = record { vertices = min limits.vertices library.vertices; edges = min limits.edges library.edges }

-- "Desk limits: 1,024 vertices, 2,048 edges"
abbrev pub desk : Limits
desk = record { vertices = desk_vertices; edges = desk_edges }

-- the most arcs within them: two for each edge
abbrev pub desk_arcs : ℕ
desk_arcs = desk_edges + desk_edges

-- areas for a graph within them: the identifiers, then the offsets and the arcs outward, then as many inward
abbrev pub desk_room : Room
desk_room = room_of desk_vertices (desk_vertices + 1) desk_arcs (desk_vertices + 1) desk_arcs
