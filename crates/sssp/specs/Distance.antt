-- Change K3: "Shortest weighted routes": the least sums of weights over walks along outgoing arcs, in whole millionths.
use Rattle.std.specs.Prelude.{ℕ, zero, suc, ◌+◌, min, cond, List, [], ◌∷◌, ℤ, pos, get_or, eqb}
use Rattle.basis.specs.Area.{infinity, column}
use Rattle.graph.specs.Weights.{Leg}

-- what an arc offers to v, from a vertex at distance x
abbrev pub offer : ℕ → ℕ → Leg → ℕ
offer v x a = cond (eqb a.0 v) (x + a.1) infinity

-- the least of d and what the arcs of a list offer to v, from a vertex at distance x
unfoldable pub offered : ℕ → ℕ → ℕ → List Leg → ℕ
offered v x d [] = d
offered v x d (a ∷ l) = min (offer v x a) (offered v x d l)

module _ (out : ℕ → List Leg) where
  -- the same of the arcs of the vertices below m, whose distances stand in a list
  unfoldable pub overall : List ℕ → ℕ → ℕ → ℕ → ℕ
  overall l v d zero = d
  overall l v d (suc m) = offered v (get_or l m infinity) (overall l v d m) (out m)

  -- the least weight of a walk of at most k arcs from the root to each of n vertices: of none, the root's 0; of one more, over the last arc
  unfoldable pub least_within : ℕ → ℕ → ℕ → List ℕ
  least_within n root zero = column (λ v. cond (eqb v root) 0 infinity) 0 n
  least_within n root (suc k) = let l = least_within n root k in column (λ v. overall l v (get_or l v infinity) n) 0 n

-- "route sums are exact": the distances of vertices 0 to n - 1, since a lightest walk needs no more than n arcs (law `rounds-enough`)
abbrev pub distances : ℕ → (ℕ → List Leg) → ℕ → List ℕ
distances n out root = least_within out n root n

-- the distance of v among them
abbrev pub distance_to : ℕ → (ℕ → List Leg) → ℕ → ℕ → ℕ
distance_to n out root v = get_or (distances n out root) v infinity

-- n numbers as a result area holds them
abbrev pub as_signed : ℕ → List ℕ → List ℤ
as_signed n l = column (λ v. pos (get_or l v 0)) 0 n
