-- What the labels are, and what a call of the kernel means, apart from how it is computed: the rules "Kernels" and Graphalytics 1.0.4,
-- 2.3.4.
use Rattle.std.specs.Prelude.{ℕ, zero, suc, ◌+◌, ◌≤◌, ◌<◌, ◌≡◌, true, false, List, [], ◌∷◌, ℤ, pos, length, get_or}
use Rattle.std.specs.Int.Signed.{lt_z}
use Rattle.basis.specs.Refusal.{gives, unsound, no_room, bad_rounds}
use Rattle.basis.specs.Area.{cleared}
use Rattle.basis.specs.Order.{same_z}
use Rattle.basis.specs.Scan.{bit}
use Rattle.graph.specs.Sound.{Graph, inward, outward, names, sound_graph}
use Rattle.kernels.specs.Result.{ZeroBehind}
use Rattle.cdlp.specs.Rounds.{rounds}
use Rattle.cdlp.specs.Call.{Outcome, refusal, most_rounds, good_rounds, room_for}

-- in (2.5): how many of the vertices us have the label l, where L gives each vertex its label
unfoldable pub bearers : (ℕ → ℤ) → ℤ → List ℕ → ℕ
bearers L l [] = 0
bearers L l (u ∷ us) = bit (same_z l (L u)) + bearers L l us

-- "the frequency of the labels of its incoming and outgoing neighbors": the sum in (2.5)
abbrev pub frequency : Graph → (ℕ → ℤ) → ℕ → ℤ → ℕ
frequency g L v l = bearers L l (inward g v) + bearers L l (outward g v)

-- l is the label of v in the round that comes after the labels L
pub record NextLabel (g : Graph) (L : ℕ → ℤ) (v : ℕ) (l : ℤ) : Type 0 where
  -- "In case a vertex has no neighbors, it retains its current label"
  pub kept : inward g v ≡ [] → outward g v ≡ [] → l ≡ L v
  -- "selects the label which is most common"
  pub most : (x : ℤ) → frequency g L v x ≤ frequency g L v l
  -- "In case there are multiple labels with the maximum frequency, the smallest label is chosen"
  pub least : (x : ℤ) → 0 < frequency g L v x → frequency g L v x ≡ frequency g L v l → lt_z x l ≡ false

-- L gives the vertices of g their labels after k rounds: "labels start as identifiers", and "Each round uses only the round before"
abbrev pub Labels : Graph → ℕ → (ℕ → ℤ) → Type 0
Labels g zero L = (v : ℕ) → v < g.vertices → L v ≡ get_or (names g) v (pos 0)
Labels g (suc k) L = (before : ℕ → ℤ) × Labels g k before × ((v : ℕ) → v < g.vertices → NextLabel g before v (L v))

-- a call that gives the labels after k rounds: each vertex has its label at its place
pub record Done (g : Graph) (k : ℕ) (R : List ℤ) (L N C : List ℕ) (o : Outcome) : Type 0 where
  pub answer : o.said ≡ gives tt
  pub values : Labels g k (λ v. get_or o.result v (pos 0))
  pub behind : ZeroBehind (pos 0) g.vertices (length R) o.result
  -- "working areas are zero throughout"
  pub zeros : (o.labels ≡ cleared L) × (o.next ≡ cleared N) × (o.counts ≡ cleared C)

-- what a call means, refusals included; R, L, N and C stood in the result area and the three working areas before it
pub record Called (g : Graph) (z : ℤ) (R : List ℤ) (L N C : List ℕ) (o : Outcome) : Type 0 where
  pub not_sound : sound_graph g ≡ false → o ≡ refusal unsound R L N C
  pub outside : sound_graph g ≡ true → good_rounds z ≡ false → o ≡ refusal bad_rounds R L N C
  pub short : sound_graph g ≡ true → good_rounds z ≡ true → room_for g.vertices R L N C ≡ false
      → o ≡ refusal no_room R L N C
  pub done : sound_graph g ≡ true → (k : ℕ) → z ≡ pos k → k ≤ most_rounds → room_for g.vertices R L N C ≡ true → Done g k R L N C o

-- the labels after k rounds in which each neighbour of an undirected graph is heard once
abbrev pub heard_once : Graph → ℕ → List ℤ
heard_once g k = rounds same_z lt_z (pos 0) (outward g) g.vertices (names g) k
