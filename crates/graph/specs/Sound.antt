-- The rules "The loaded graph": what a lent graph is, and when it is sound: as a test that computes, and clause by clause (laws `sound-of`
-- and `sound-from`).
use Rattle.std.specs.Prelude.{ℕ, ◌+◌, ◌≤◌, ◌<◌, ◌≡◌, Bool, true, not, ◌&&◌, List, ℤ, length, get_or, take, eqb, leb, ltb}
use Rattle.basis.specs.Limits.{most_vertices, most_arcs}
use Rattle.basis.specs.Order.{rising, rising_z}
use Rattle.basis.specs.Scan.{every, each, mem}
use Rattle.graph.specs.declared.Size.{Size}
use Rattle.graph.specs.declared.Lent.{Lent}
use Rattle.graph.specs.Part.{part_of}

-- "Outward offsets and targets, and inward offsets and sources, are lent areas of whole numbers"
pub record Graph : Type 0 where
  pub vertices : ℕ
  pub arcs : ℕ
  pub ids : List ℤ
  pub out_offsets : List ℕ
  pub out_targets : List ℕ
  pub in_offsets : List ℕ
  pub in_sources : List ℕ

-- the graph of a stated size that stands in five lent areas
abbrev pub lent : Size → List ℤ → List ℕ → List ℕ → List ℕ → List ℕ → Graph
lent size ids oo ot io is =
    record { vertices = size.vertices; arcs = size.arcs; ids = ids; out_offsets = oo; out_targets = ot; in_offsets = io; in_sources = is }

-- the same of a lent graph's own size and areas
abbrev pub standing : Lent → Graph
standing g = lent g.size g.ids.now g.outward.offsets.now g.outward.targets.now g.inward.offsets.now g.inward.targets.now

-- the vertices that v's arcs lead to: its part of the targets
abbrev pub outward : Graph → ℕ → List ℕ
outward g v = part_of g.vertices g.out_offsets g.out_targets v

-- the vertices whose arcs lead to v: its part of the sources
abbrev pub inward : Graph → ℕ → List ℕ
inward g v = part_of g.vertices g.in_offsets g.in_sources v

-- the identifiers of the graph's vertices
abbrev pub names : Graph → List ℤ
names g = take g.vertices g.ids

-- "Identifiers strictly rise": the first n of an area that isn't "too short for its stated counts"
abbrev pub first_ids_rise : ℕ → List ℤ → Bool
first_ids_rise n ids = leb n (length ids) && rising_z (take n ids)

-- the same of a lent graph's identifiers
unfoldable pub sound_ids : Graph → Bool
sound_ids g = first_ids_rise g.vertices g.ids

-- the first n + 1 offsets "never fall"
abbrev pub never_fall : ℕ → List ℕ → Bool
never_fall n off = every n (λ v. leb (get_or off v 0) (get_or off (v + 1) 0))

-- "Offsets begin at 0, never fall and end at the arc count", of n vertices and m arcs: the offset at place 0 is 0, the one at place n is m
unfoldable pub sound_offsets : ℕ → ℕ → List ℕ → Bool
sound_offsets n m off = eqb (get_or off 0 0) 0 && eqb (get_or off n 0) m && never_fall n off

-- "names only other vertices below n"
abbrev pub other : ℕ → ℕ → ℕ → Bool
other n v w = ltb w n && not (eqb w v)

-- "Each vertex's part strictly rises, names only other vertices below n"
abbrev pub sound_part : ℕ → ℕ → List ℕ → Bool
sound_part n v l = rising l && each (other n v) l

-- the same of every vertex below n, by its part of a target area
abbrev pub sound_parts : ℕ → List ℕ → List ℕ → Bool
sound_parts n off tgt = every n (λ v. sound_part n v (part_of n off tgt v))

-- one way of a graph of n vertices and m arcs
unfoldable pub sound_side : ℕ → ℕ → List ℕ → List ℕ → Bool
sound_side n m off tgt = (ltb n (length off) && leb m (length tgt)) && sound_offsets n m off && sound_parts n off tgt

-- each arc from u, by the first view, stands at its other end in the second
unfoldable pub mirrored : ℕ → (ℕ → List ℕ) → (ℕ → List ℕ) → Bool
mirrored n from back = every n (λ u. each (λ w. mem u (back w)) (from u))

-- "the inward arcs are exactly the outward ones reversed"
abbrev pub both_ways : ℕ → (ℕ → List ℕ) → (ℕ → List ℕ) → Bool
both_ways n out into = mirrored n out into && mirrored n into out

-- the limits are kept, no area is "too short for its stated counts", and the identifiers and each way are sound for themselves
unfoldable pub sound_sides : Graph → Bool
sound_sides g =
    (leb g.vertices most_vertices && leb g.arcs most_arcs) && sound_ids g
    && (sound_side g.vertices g.arcs g.out_offsets g.out_targets
    && sound_side g.vertices g.arcs g.in_offsets g.in_sources)

-- "A graph that breaks any of this, or a limit, or whose areas are too short for its stated counts, is unsound (9)"
unfoldable pub sound_graph : Graph → Bool
sound_graph g = sound_sides g && both_ways g.vertices (outward g) (inward g)

-- one way of a sound graph of n vertices and m arcs, clause by clause: no area is "too short for its stated counts"; "Offsets begin at 0,
-- never fall and end at the arc count"; "Each vertex's part strictly rises, names only other vertices below n"
pub record Side (n m : ℕ) (off tgt : List ℕ) : Type 0 where
  pub offsets_room : n < length off
  pub targets_room : m ≤ length tgt
  pub begins : get_or off 0 0 ≡ 0
  pub ends : get_or off n 0 ≡ m
  pub grows : (v : ℕ) → v < n → get_or off v 0 ≤ get_or off (v + 1) 0
  pub good : (v : ℕ) → v < n → sound_part n v (part_of n off tgt v) ≡ true

-- a sound graph, clause by clause: the "Library limits" of vertices and "stored arcs"; a place for each identifier, and "Identifiers
-- strictly rise"; each way; "the inward arcs are exactly the outward ones reversed"
pub record Sound (g : Graph) : Type 0 where
  pub few_vertices : g.vertices ≤ most_vertices
  pub few_arcs : g.arcs ≤ most_arcs
  pub ids_room : g.vertices ≤ length g.ids
  pub ids_rise : rising_z (names g) ≡ true
  pub outward_side : Side g.vertices g.arcs g.out_offsets g.out_targets
  pub inward_side : Side g.vertices g.arcs g.in_offsets g.in_sources
  pub back : mirrored g.vertices (outward g) (inward g) ≡ true
  pub forth : mirrored g.vertices (inward g) (outward g) ≡ true

-- Graphalytics, 2.3: "For undirected graphs, each edge is bidirectional": an arc leads back wherever one leads out
abbrev pub Undirected : Graph → Type 0
Undirected g = (u w : ℕ) → u < g.vertices → w < g.vertices → mem w (outward g u) ≡ true → mem u (outward g w) ≡ true
