-- What the functions of a load leave behind.
use Rattle.std.specs.Prelude.{ℕ, Result, Ok, Err, ◌<◌, ◌≡◌, Bool, true, List, ℤ, length}
use Rattle.basis.specs.declared.refusal.Refusal.{Refusal}
use Rattle.basis.specs.Refusal.{Said, gives, refuses, onward, mapped}
use Rattle.basis.specs.Order.{rising_z}
use Rattle.basis.specs.Area.{cleared, cleared_z, pad}
use Rattle.graph.specs.declared.Size.{Size}
use Rattle.graph.specs.Find.{place_in}
use Rattle.graph.specs.Arcs.{Arc, backward, parts, offsets}
use Rattle.store.specs.Held.{in_arcs}
use Rattle.lists.specs.Files.{edges_of, all_numbered}
use Rattle.load.specs.declared.Limits.{Limits}
use Rattle.load.specs.Load.{Lists, Room, arc_room, with_room, listed_arcs, arcs_read, loaded, Outcome, outcome, outcome_of}

-- ---- edges stored by their first ends, and their arcs the other way
-- the edges of a file by number, if areas of two lengths have room for their arcs
unfoldable pub edges_read : Bool → ℕ → List ℤ → List ℕ → ℕ → ℕ → Said (List Arc)
edges_read undirected most ids s t t' =
    onward (edges_of undirected most (place_in ids) s)
    (λ es. with_room (arc_room t t' (length (listed_arcs undirected ids es))) (all_numbered (place_in ids) es))

-- two pairs of areas, and how many edges they hold
pub record Arranged : Type 0 where
  pub edges : ℕ
  pub offsets : List ℕ
  pub targets : List ℕ
  pub back_offsets : List ℕ
  pub back_targets : List ℕ

-- the same, by its fields in order
abbrev pub arranged : ℕ → List ℕ → List ℕ → List ℕ → List ℕ → Arranged
arranged m o t b u = record { edges = m; offsets = o; targets = t; back_offsets = b; back_targets = u }

-- the edges of n vertices in areas of four lengths
abbrev pub arranged_by : Bool → ℕ → ℕ → ℕ → ℕ → ℕ → List Arc → Arranged
arranged_by undirected n o t b u es =
    arranged (length es) (pad o (offsets es n)) (pad t (parts es n)) (pad b (offsets (in_arcs undirected es) n))
    (pad u (parts (in_arcs undirected es) n))

-- the edges of a file over the given identifiers in four areas: edges by their first ends in o and t, their arcs the other way in b and u
abbrev pub arranged_call : Bool → ℕ → List ℤ → List ℕ → List ℕ → List ℕ → List ℕ → List ℕ → Said Arranged
arranged_call undirected most ids s o t b u =
    mapped (arranged_by undirected (length ids) (length o) (length t) (length b) (length u))
    (edges_read undirected most ids s (length t) (length u))

-- the answer of the storing and the four areas as they stand: the count of edges with the areas, or the refusal alone
abbrev pub arranged_left : Result ℕ Refusal → List ℕ → List ℕ → List ℕ → List ℕ → Said Arranged
arranged_left (Ok m) o t b u = gives (arranged m o t b u)
arranged_left (Err r) o t b u = refuses r

-- what the storing of edges asks for: identifiers that rise, and places for their offsets
pub record Storing (ids : List ℤ) (o b : List ℕ) : Type 0 where
  pub rise : rising_z ids ≡ true
  pub places : length ids < length o
  pub back_places : length ids < length b

-- a graph's size and the four areas of its arcs
pub record Filled : Type 0 where
  pub size : Size
  pub out_offsets : List ℕ
  pub out_targets : List ℕ
  pub in_offsets : List ℕ
  pub in_sources : List ℕ

-- the same, by its fields in order
abbrev pub filled : Size → List ℕ → List ℕ → List ℕ → List ℕ → Filled
filled size oo ot io is = record { size = size; out_offsets = oo; out_targets = ot; in_offsets = io; in_sources = is }

-- the arcs of n vertices in areas of four lengths
abbrev pub filled_by : ℕ → ℕ → ℕ → ℕ → ℕ → List Arc → Filled
filled_by n oo ot io is l =
    filled (record { vertices = n; arcs = length l }) (pad oo (offsets l n)) (pad ot (parts l n)) (pad io (offsets (backward l) n))
    (pad is (parts (backward l) n))

-- the arcs of an edge file over the given identifiers in four areas, outward and inward
abbrev pub filled_call : Bool → ℕ → List ℤ → List ℕ → List ℕ → List ℕ → List ℕ → List ℕ → Said Filled
filled_call undirected most ids s oo ot io is =
    mapped (filled_by (length ids) (length oo) (length ot) (length io) (length is))
    (arcs_read undirected most ids s (length ot) (length is))

-- the answer of the filling and the four areas as they stand: the size with the areas, or the refusal alone
abbrev pub filled_left : Result Size Refusal → List ℕ → List ℕ → List ℕ → List ℕ → Said Filled
filled_left (Ok size) oo ot io is = gives (filled size oo ot io is)
filled_left (Err r) oo ot io is = refuses r

-- a load's outcome where it gives a graph, in areas of these lengths
abbrev pub outcome_by : Room → Lists → Outcome
outcome_by room g = outcome_of room (gives g)

-- the same of two files: the outcome of the graph that they say, or their refusal
abbrev pub filled_load : Limits → ℕ → Room → List ℕ → List ℕ → Said Outcome
filled_load limits mode room vertices edges = mapped (outcome_by room) (loaded limits mode room vertices edges)

-- a load's answer and the five areas as they stand: the outcome of a graph of that size, or the refusal alone
abbrev pub outcome_left : Result Size Refusal → List ℤ → List ℕ → List ℕ → List ℕ → List ℕ → Said Outcome
outcome_left (Ok size) ids oo ot io is = gives (outcome (gives size) ids oo ot io is)
outcome_left (Err r) ids oo ot io is = refuses r

-- five areas that were cleared
pub record Emptied (ids : List ℤ) (oo ot io is : List ℕ) (ids' : List ℤ) (oo' ot' io' is' : List ℕ) : Type 0 where
  pub empty_ids : ids' ≡ cleared_z ids
  pub empty_out_offsets : oo' ≡ cleared oo
  pub empty_out_targets : ot' ≡ cleared ot
  pub empty_in_offsets : io' ≡ cleared io
  pub empty_in_sources : is' ≡ cleared is
