-- What the kernel's private functions do and need: what is settled stands in `dist`, what waits in `key`.
use Rattle.std.specs.Prelude.{ℕ, ◌+◌, ◌≤◌, ◌<◌, min, ◌≡◌, true, cond, Option, MatchOption, List, [], ◌∷◌, ℤ, length, get_or, set, ltb, leb}
use Rattle.basis.specs.Scan.{each, all_below}
use Rattle.basis.specs.Area.{infinity}
use Rattle.basis.specs.Limits.{most_vertices, most_weight}
use Rattle.graph.specs.Weights.{Weighted, is_weighted, Leg, sound_weighted}
use Rattle.sssp.specs.Call.{room_for}
use Rattle.sssp.specs.Tree.{won}

-- the areas can be filled: the graph is weighted and sound, the root is one of its vertices, and each area has room for them
pub record Ready (g : Weighted) (root : ℕ) (distance : List ℤ) (settled waiting tree : List ℕ) : Type 0 where
  pub sound : sound_weighted g ≡ true
  pub weighted : is_weighted g ≡ true
  pub there : root < g.graph.vertices
  pub room : room_for g.graph.vertices distance settled waiting tree ≡ true

-- the distance at which v is known
abbrev pub known_at : List ℕ → List ℕ → ℕ → ℕ
known_at dist key v = min (get_or dist v 0) (get_or key v 0)

-- vertex w is met at distance d
unfoldable pub lowered : List ℕ → ℕ → ℕ → List ℕ → List ℕ
lowered dist w d key = cond (ltb d (known_at dist key w)) (set key w d) key

-- the arcs of a vertex at distance d are walked in order
unfoldable pub walked : List ℕ → ℕ → List Leg → List ℕ → List ℕ
walked dist d [] key = key
walked dist d (a ∷ l) key = walked dist d l (lowered dist a.0 (d + a.1) key)

-- vertex u is settled at its key: the distances after that
abbrev pub settled : ℕ → List ℕ → List ℕ → List ℕ
settled u dist key = set dist u (get_or key u 0)

-- and the keys, once its arcs are walked
abbrev pub served : List Leg → ℕ → List ℕ → List ℕ → List ℕ
served l u dist key = walked (settled u dist key) (get_or key u 0) l (set key u infinity)

-- the vertex that wins the tree is the nearest of those that wait; where its key is infinity, none waits
abbrev pub Nearest : List ℕ → List ℕ → Option ℕ → Type 0
Nearest key tree r =
    MatchOption r (infinity ≤ get_or key (won tree 1) 0) (λ u. (u ≡ won tree 1) × (get_or key u 0 < infinity))

-- targets of the first n vertices with a weight beside each
pub record WeighedPart (n : ℕ) (ws cs : List ℕ) : Type 0 where
  pub low : all_below n ws ≡ true
  pub long : length cs ≡ length ws
  pub light : each (λ c. leb c most_weight) cs ≡ true

-- so are the arcs of each of the first n vertices
abbrev pub WeighedAll : ℕ → (ℕ → List ℕ) → (ℕ → List ℕ) → Type 0
WeighedAll n out cost = (u : ℕ) → u < n → WeighedPart n (out u) (cost u)

-- a root that is there, and a place for each vertex in the three areas
pub record Lent (root : ℕ) (dist key tree : List ℕ) : Type 0 where
  pub few : length dist ≤ most_vertices
  pub there : root < length dist
  pub keys : length key ≡ length dist
  pub nodes : length tree ≡ length dist

-- each of a list's numbers fits a result area
abbrev pub AllSigned : List ℕ → Type 0
AllSigned l = (v : ℕ) → v < length l → get_or l v 0 ≤ infinity
