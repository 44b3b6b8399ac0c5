-- Change K3: "The graph record gains a weight beside each arc": what a lent graph with weights is, and when it is sound: as a test that
-- computes, and clause by clause (laws `weighted-of` and `weighted-from`).
use Rattle.std.specs.Prelude.{ℕ, ◌≤◌, ◌<◌, ◌≡◌, ◌↔◌, Bool, true, false, not, ◌&&◌, ◌||◌, List, [], ◌∷◌, length, get_or, eqb, leb, ltb}
use Rattle.basis.specs.Limits.{most_weight}
use Rattle.basis.specs.Scan.{every, each}
use Rattle.graph.specs.Part.{part_of}
use Rattle.graph.specs.declared.Weighed.{Weighed}
use Rattle.graph.specs.Sound.{Graph, standing, sound_side, both_ways, sound_graph, Sound}

-- a lent graph, whether it is marked as weighted, and "The weight areas, one each way"
pub record Weighted : Type 0 where
  pub graph : Graph
  pub weighted : Bool
  pub out_weights : List ℕ
  pub in_weights : List ℕ

-- the same, by its fields in order
abbrev pub weighing : Graph → Bool → List ℕ → List ℕ → Weighted
weighing g weighted ow iw = record { graph = g; weighted = weighted; out_weights = ow; in_weights = iw }

-- the same of a lent graph's own areas
abbrev pub weighing_of : Weighed → Weighted
weighing_of g = weighing (standing g.graph) g.weighted g.out_weights.now g.in_weights.now

-- "a sound graph without arcs [is] unweighted", however it is marked
abbrev pub counts_weighted : Bool → ℕ → Bool
counts_weighted weighted arcs = weighted && ltb 0 arcs

-- the same of a lent graph
abbrev pub is_weighted : Weighted → Bool
is_weighted g = counts_weighted g.weighted g.graph.arcs

-- an arc of a vertex with its weight: the vertex at its other end, and the weight beside it
abbrev pub Leg : Type 0
Leg = ℕ × ℕ

-- "a weight beside each arc": other ends with the weights beside them
unfoldable pub legs : List ℕ → List ℕ → List Leg
legs [] cs = []
legs (w ∷ ws) [] = []
legs (w ∷ ws) (c ∷ cs) = (w, c) ∷ legs ws cs

-- v's arcs of one way: its part of the other ends, beside its part of the weights
abbrev pub legs_of : ℕ → List ℕ → List ℕ → List ℕ → ℕ → List Leg
legs_of n off ends weights v = legs (part_of n off ends v) (part_of n off weights v)

-- the arcs that leave v, with their weights
abbrev pub out_legs : Weighted → ℕ → List Leg
out_legs g v = legs_of g.graph.vertices g.graph.out_offsets g.graph.out_targets g.out_weights v

-- the arcs that lead to v, with their weights
abbrev pub in_legs : Weighted → ℕ → List Leg
in_legs g v = legs_of g.graph.vertices g.graph.in_offsets g.graph.in_sources g.in_weights v

-- an arc with x at its other end that weighs c is one of a list
unfoldable pub has_leg : ℕ → ℕ → List Leg → Bool
has_leg x c [] = false
has_leg x c (a ∷ l) = (eqb a.0 x && eqb a.1 c) || has_leg x c l

-- the arcs of u stand at their other ends, with the same weight
abbrev pub legs_answered : (ℕ → List Leg) → ℕ → List Leg → Bool
legs_answered back u l = each (λ a. has_leg u a.1 (back a.0)) l

-- "equal .. in the reversed arcs": so do the arcs of every vertex below n
unfoldable pub legs_mirrored : ℕ → (ℕ → List Leg) → (ℕ → List Leg) → Bool
legs_mirrored n from back = every n (λ u. legs_answered back u (from u))

-- "a weight .. from 0 to 100000": the first m of an area
abbrev pub all_light : ℕ → List ℕ → Bool
all_light m weights = every m (λ i. leb (get_or weights i 0) most_weight)

-- "The weight areas, one each way, need room", each weight is at most the largest, and reversed arcs weigh the same
unfoldable pub sound_weights : Weighted → Bool
sound_weights g =
    (leb g.graph.arcs (length g.out_weights) && leb g.graph.arcs (length g.in_weights))
    && (all_light g.graph.arcs g.out_weights && all_light g.graph.arcs g.in_weights)
    && legs_mirrored g.graph.vertices (out_legs g) (in_legs g)

-- "and soundness says so"; the weight areas "are looked at only for a weighted graph"
unfoldable pub sound_weighted : Weighted → Bool
sound_weighted g = sound_graph g.graph && (not (is_weighted g) || sound_weights g)

-- the weights of a sound graph, clause by clause: room for them, none above the largest, and each inward arc has the weight of the outward
-- arc that it reverses
pub record SoundWeights (g : Weighted) : Type 0 where
  pub out_room : g.graph.arcs ≤ length g.out_weights
  pub in_room : g.graph.arcs ≤ length g.in_weights
  pub out_light : (i : ℕ) → i < g.graph.arcs → get_or g.out_weights i 0 ≤ most_weight
  pub in_light : (i : ℕ) → i < g.graph.arcs → get_or g.in_weights i 0 ≤ most_weight
  pub reversed : (u w c : ℕ) → u < g.graph.vertices → w < g.graph.vertices
      → (has_leg w c (out_legs g u) ≡ true) ↔ (has_leg u c (in_legs g w) ≡ true)

-- a sound graph with its weights, clause by clause
pub record SoundWeighted (g : Weighted) : Type 0 where
  pub graph : Sound g.graph
  pub weights : is_weighted g ≡ true → SoundWeights g

-- what the steps of the check need: each way is sound for itself and the other's reversed, and has a weight beside each arc
pub record Beside (n m : ℕ) (oo ot io is ow iw : List ℕ) : Type 0 where
  pub outward : sound_side n m oo ot ≡ true
  pub inward : sound_side n m io is ≡ true
  pub both : both_ways n (part_of n oo ot) (part_of n io is) ≡ true
  pub out_room : m ≤ length ow
  pub in_room : m ≤ length iw

-- the same of a lent graph with its weights
abbrev pub HasBeside : Weighted → Type 0
HasBeside g =
    Beside g.graph.vertices g.graph.arcs g.graph.out_offsets g.graph.out_targets g.graph.in_offsets g.graph.in_sources g.out_weights
    g.in_weights
