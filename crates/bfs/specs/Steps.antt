-- What the kernel's private functions do and need: the steps of the queue.
use Rattle.std.specs.Prelude.{ℕ, zero, suc, ◌+◌, ◌<◌, ◌≡◌, Bool, true, cond, List, [], ◌∷◌, ℤ, pos, length, get_or, set, eqb}
use Rattle.basis.specs.Order.{same_z}
use Rattle.graph.specs.Sound.{Graph, sound_graph}
use Rattle.bfs.specs.declared.Ring.{Ring}
use Rattle.basis.specs.Area.{unreachable}
use Rattle.bfs.specs.Call.{room_for}

-- the areas can be filled: the graph is sound, the root is one of its vertices, and each area has room for them
pub record Ready (g : Graph) (root : ℕ) (depth : List ℤ) (queue : List ℕ) : Type 0 where
  pub sound : sound_graph g ≡ true
  pub there : root < g.vertices
  pub room : room_for g.vertices depth queue ≡ true

-- the three things that a step changes: the depths, the queue, and how much of the queue is filled
pub record Board : Type 0 where
  pub depth : List ℤ
  pub queue : List ℕ
  pub tail : ℕ

-- the same, by its fields in order
abbrev pub board : List ℤ → List ℕ → ℕ → Board
board depth queue tail = record { depth = depth; queue = queue; tail = tail }

-- whether a depth is "Unreachable": its vertex has not been met
abbrev pub is_far : ℤ → Bool
is_far z = same_z z unreachable

-- vertex w, not met before, gets depth d and goes to the queue's end
abbrev pub entered : ℕ → ℕ → Board → Board
entered d w S = board (set S.depth w (pos d)) (set S.queue S.tail w) (S.tail + 1)

-- vertex w is met at depth d
unfoldable pub relaxed : ℕ → ℕ → Board → Board
relaxed d w S = cond (is_far (get_or S.depth w (pos 0))) (entered d w S) S

-- the vertices of a list are met in order
unfoldable pub relaxed_all : ℕ → List ℕ → Board → Board
relaxed_all d [] S = S
relaxed_all d (w ∷ l) S = relaxed_all d l (relaxed d w S)

-- how many vertices have a depth
unfoldable pub seen : List ℤ → ℕ
seen [] = zero
seen (z ∷ l) = cond (is_far z) (seen l) (suc (seen l))

-- the queue is filled as far as vertices are seen, and has a place for each vertex
pub record Queued (S : Board) : Type 0 where
  pub filled : seen S.depth ≡ S.tail
  pub room : length S.queue ≡ length S.depth

-- at a ring's end the next ring begins: up to the tail, one level deeper
unfoldable pub advanced : Ring → ℕ → ℕ → Ring
advanced r head tail = cond (eqb head r.end) (record { end = tail; level = r.level + 1 }) r
