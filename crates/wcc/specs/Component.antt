-- The rules "Kernels" and Graphalytics 1.0.4, 2.3.3: components and their labels, over the arcs that leave each of n vertices.
use Rattle.std.specs.Prelude.{ℕ, zero, suc, ◌<◌, ◌≡◌, Bool, true, ◌&&◌, ◌||◌, List, ℤ, pos, get_or, eqb}
use Rattle.basis.specs.Area.{column}
use Rattle.basis.specs.Closure.{Linked}
use Rattle.basis.specs.Scan.{mem, first_from}
use Rattle.graph.specs.Sound.{Graph, outward, names}

-- an arc of n vertices leads from u to w
abbrev pub HasArc : ℕ → (ℕ → List ℕ) → ℕ → ℕ → Type 0
HasArc n out u w = (u < n) × (mem w (out u) ≡ true)

-- "there exists a path between these vertices along the edges of the graph",
-- "it is allowed to travel over the reverse direction of an edge"
abbrev pub LinkedAmong : ℕ → (ℕ → List ℕ) → ℕ → ℕ → Type 0
LinkedAmong n out u v = Linked (HasArc n out) u v

module _ (out : ℕ → List ℕ) where
  -- "arcs followed either way": the same vertex, or an arc from one to the other
  unfoldable pub adjacent : ℕ → ℕ → Bool
  adjacent u v = eqb u v || mem v (out u) || mem u (out v)

  -- a chain of arcs from u to v whose vertices between them are below k; among n vertices `chain n` is `LinkedAmong n` (laws
  -- `chain-linked`, `linked-chain`)
  unfoldable pub chain : ℕ → ℕ → ℕ → Bool
  chain zero u v = adjacent u v
  chain (suc k) u v = chain k u v || chain k u k && chain k k v

-- the first vertex of v's component
unfoldable pub first : ℕ → (ℕ → List ℕ) → ℕ → ℕ
first n out v = first_from (λ u. chain out n u v) n 0

-- "House label: the smallest identifier of the component", which is its first vertex's, since identifiers rise
unfoldable pub label_of : ℕ → (ℕ → List ℕ) → List ℤ → ℕ → ℤ
label_of n out ids v = get_or ids (first n out v) (pos 0)

-- "assigns each vertex a unique label that indicates which component it belongs to"
abbrev pub labels : ℕ → (ℕ → List ℕ) → List ℤ → List ℤ
labels n out ids = column (label_of n out ids) 0 n

-- the labels of a graph's vertices
abbrev pub wcc_of : Graph → List ℤ
wcc_of g = labels g.vertices (outward g) (names g)
