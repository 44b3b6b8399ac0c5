-- The tree of winners over the vertices' keys: node k stands over nodes 2 k and 2 k + 1, and the vertices are the nodes from n on.
use Rattle.std.specs.Prelude.{ℕ, ◌+◌, ◌-◌, ◌*◌, ◌<◌, ◌≡◌, ◌⊎◌, cond, List, length, get_or, set, ltb}

-- the vertex that wins below node k
unfoldable pub won : List ℕ → ℕ → ℕ
won tree k = cond (ltb k (length tree)) (get_or tree k 0) (k - length tree)

-- of two vertices the one with the lesser key, the first where the keys are the same
unfoldable pub nearer : List ℕ → ℕ → ℕ → ℕ
nearer key a b = cond (ltb (get_or key b 0) (get_or key a 0)) b a

-- who wins at node k, of the winners below it
abbrev pub winner_at : List ℕ → List ℕ → ℕ → ℕ
winner_at key tree k = nearer key (won tree (2 * k)) (won tree (2 * k + 1))

-- the tree has a place for each key, and names vertices only
pub record Nodes (key tree : List ℕ) : Type 0 where
  pub long : length tree ≡ length key
  pub low : (i : ℕ) → i < length tree → get_or tree i 0 < length tree

-- each node that is not left out has the winner of the two below it
pub record Played (Out : ℕ → Type 0) (key tree : List ℕ) : Type 0 where
  pub ready : Nodes key tree
  pub right : (i : ℕ) → 0 < i → i < length tree → Out i ⊎ (get_or tree i 0 ≡ winner_at key tree i)

-- no node is left out
abbrev pub None : ℕ → Type 0
None i = ⊥

-- the tree is played by the keys as they were before vertex v's changed
pub record Spoiled (v : ℕ) (key tree : List ℕ) : Type 0 where
  pub old : List ℕ
  pub given : ℕ
  pub played : Played None old tree
  pub low : v < length old
  pub same : key ≡ set old v given

-- the keys are the given ones, and the tree is played by them
pub record Replayed (keys key tree : List ℕ) : Type 0 where
  pub same : key ≡ keys
  pub played : Played None key tree
