-- The rules "Kernels" and Graphalytics, 2.3.1: depths of breadth-first search, over the arcs that leave each vertex.
use Rattle.std.specs.Prelude.{ℕ, zero, suc, cond, List, [], ◌∷◌, ◌++◌, ℤ, pos, ltb}
use Rattle.basis.specs.Area.{unreachable, column}
use Rattle.basis.specs.Scan.{mem, first_from}

module _ (out : ℕ → List ℕ) where
  -- where the arcs from a list of vertices lead
  unfoldable pub ends : List ℕ → List ℕ
  ends [] = []
  ends (u ∷ l) = out u ++ ends l

  -- "The root has depth 0, its outgoing neighbors have depth 1, their outgoing neighbors have depth 2, etc.": where the walks of k arcs end
  unfoldable pub ring : ℕ → ℕ → List ℕ
  ring root zero = root ∷ []
  ring root (suc k) = ends (ring root k)

-- the depth that a ring stands for, of n rings: its number, or unreachable where it is none of them
unfoldable pub ring_depth : ℕ → ℕ → ℤ
ring_depth n k = cond (ltb k n) (pos k) unreachable

-- "least hops along outgoing arcs from the root": the first ring that v stands in, of the first n, since a shortest walk meets no vertex
-- twice
unfoldable pub depth_of : ℕ → (ℕ → List ℕ) → ℕ → ℕ → ℤ
depth_of n out root v = ring_depth n (first_from (λ k. mem v (ring out root k)) n 0)

-- "labels each vertex of a graph": the depths of vertices 0 to n - 1
abbrev pub depths : ℕ → (ℕ → List ℕ) → ℕ → List ℤ
depths n out root = column (depth_of n out root) 0 n
