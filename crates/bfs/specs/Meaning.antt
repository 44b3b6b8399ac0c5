-- What a depth is, and what a call of the kernel means, apart from how it is computed: the rules "Kernels" and Graphalytics 1.0.4, 2.3.1.
use Rattle.std.specs.Prelude.{ℕ, zero, suc, ◌≤◌, ◌<◌, ◌≡◌, ◌⊎◌, ◌↔◌, true, false, List, ℤ, pos, length, get_or}
use Rattle.basis.specs.Refusal.{gives, unsound, not_there, no_room}
use Rattle.basis.specs.Area.{infinity, unreachable, cleared}
use Rattle.basis.specs.Scan.{mem}
use Rattle.graph.specs.Sound.{Graph, outward, names, sound_graph}
use Rattle.kernels.specs.Result.{ZeroBehind}
use Rattle.bfs.specs.Call.{Outcome, refusal}

-- "hops along outgoing arcs from the root": a walk of k arcs that ends at a vertex
pub data Walk (out : ℕ → List ℕ) (root : ℕ) : ℕ → ℕ → Type 0 where
  stay : Walk out root zero root
  go : {k u w : ℕ} → Walk out root k u → mem w (out u) ≡ true → Walk out root (suc k) w

-- k is the length of a shortest walk from the root to v
pub record Shortest (out : ℕ → List ℕ) (root v k : ℕ) : Type 0 where
  pub walk : Walk out root k v
  pub least : (i : ℕ) → Walk out root i v → k ≤ i

-- z is the depth of v
pub record IsDepth (out : ℕ → List ℕ) (root v : ℕ) (z : ℤ) : Type 0 where
  -- "the length (or depth) of the shortest path from a given source vertex (root) to this vertex"
  pub hops : (k : ℕ) → ((z ≡ pos k) × (k < infinity)) ↔ Shortest out root v k
  -- "Unreachable vertices should be given the value infinity"
  pub none : (z ≡ unreachable) ↔ ((k : ℕ) → Walk out root k v → ⊥)

-- "given by identifier": v is a vertex of the graph, and this is its identifier
abbrev pub HasName : Graph → ℕ → ℤ → Type 0
HasName g v id = (v < g.vertices) × (get_or (names g) v (pos 0) ≡ id)

-- a call that gives the depths from a vertex: each vertex has its depth at its place
pub record Done (g : Graph) (root : ℕ) (depth : List ℤ) (queue : List ℕ) (o : Outcome) : Type 0 where
  pub answer : o.said ≡ gives tt
  pub depths : (v : ℕ) → v < g.vertices → IsDepth (outward g) root v (get_or o.depth v (pos 0))
  pub behind : ZeroBehind (pos 0) g.vertices (length depth) o.depth
  -- "working areas are zero throughout"
  pub zeros : o.queue ≡ cleared queue

-- what a call means, refusals included; depth and queue stood in the two areas before it
pub record Called (g : Graph) (root : ℤ) (depth : List ℤ) (queue : List ℕ) (o : Outcome) : Type 0 where
  pub not_sound : sound_graph g ≡ false → o ≡ refusal unsound depth queue
  pub missing : sound_graph g ≡ true → ((v : ℕ) → HasName g v root → ⊥) → o ≡ refusal not_there depth queue
  pub short : sound_graph g ≡ true → (v : ℕ) → HasName g v root → (length depth < g.vertices) ⊎ (length queue < g.vertices)
      → o ≡ refusal no_room depth queue
  pub done : sound_graph g ≡ true → (v : ℕ) → HasName g v root → g.vertices ≤ length depth → g.vertices ≤ length queue
      → Done g v depth queue o
