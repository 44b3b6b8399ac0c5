-- What the kernel's private functions do and need; inside the rounds labels are vertex numbers.
use Rattle.std.specs.Prelude.{ℕ, ◌+◌, ◌≤◌, ◌<◌, true, cond, List, [], ◌∷◌, ◌≡◌, ℤ, length, get_or, set, replicate, eqb, ltb}
use Rattle.basis.specs.Limits.{most_vertices}
use Rattle.basis.specs.Scan.{all_below}
use Rattle.graph.specs.Sound.{Graph, inward, outward, sound_graph}
use Rattle.cdlp.specs.Call.{room_for}
use Rattle.cdlp.specs.Rounds.{around, one_round, rounds}
use Rattle.cdlp.specs.declared.label.Best.{Best}

-- the areas can be filled: the graph is sound, and each area has room for its vertices
pub record Ready (g : Graph) (result : List ℤ) (labels next counts : List ℕ) : Type 0 where
  pub sound : sound_graph g ≡ true
  pub room : room_for g.vertices result labels next counts ≡ true

-- no count is above k
abbrev pub Under : ℕ → List ℕ → Type 0
Under k C = (i : ℕ) → get_or C i 0 ≤ k

-- the best so far, by its fields in order: label l, which stands there k times
abbrev pub best : ℕ → ℕ → Best
best l k = record { label = l; count = k }

-- the best so far, against a label that now stands there k times
unfoldable pub best_with : Best → ℕ → ℕ → Best
best_with b l k = cond (ltb b.count k) (best l k) (cond (ltb k b.count) b (cond (ltb l b.label) (best l k) b))

-- what is counted: how often each label was heard, and the best so far
pub record Poll : Type 0 where
  pub counts : List ℕ
  pub lead : Best

-- the same, by its fields in order
abbrev pub poll : List ℕ → Best → Poll
poll C b = record { counts = C; lead = b }

-- one label more is counted
unfoldable pub polled : ℕ → Poll → Poll
polled l S = poll (set S.counts l (get_or S.counts l 0 + 1)) (best_with S.lead l (get_or S.counts l 0 + 1))

-- the labels of a list, counted one after the other
unfoldable pub polled_all : List ℕ → Poll → Poll
polled_all [] S = S
polled_all (l ∷ ls) S = polled_all ls (polled l S)

-- the counts of these labels go back to zero
unfoldable pub forgotten : List ℕ → List ℕ → List ℕ
forgotten [] C = C
forgotten (l ∷ ls) C = forgotten ls (set C l 0)

-- the vertices of a part have labels, and the labels have counts
pub record Labelled (part labels counts : List ℕ) : Type 0 where
  pub low_part : all_below (length labels) part ≡ true
  pub low_labels : all_below (length counts) labels ≡ true

-- and its labels can be counted: no count wraps
pub record Heard (part labels counts : List ℕ) : Type 0 where
  pub labelled : Labelled part labels counts
  pub under : Under most_vertices counts
  pub short : length part ≤ most_vertices

-- the two parts of a vertex of n: vertices below n, and no more of them than a graph may have
pub record Bounded (n : ℕ) (inward outward : List ℕ) : Type 0 where
  pub low_in : all_below n inward ≡ true
  pub low_out : all_below n outward ≡ true
  pub short_in : length inward ≤ most_vertices
  pub short_out : length outward ≤ most_vertices

-- the same of each vertex of a graph: the arcs stay inside
abbrev pub AllBounded : Graph → Type 0
AllBounded g = (v : ℕ) → v < g.vertices → Bounded g.vertices (inward g v) (outward g v)

-- a vertex can be settled: its two parts are bounded, the labels have counts, and the counts are zero
pub record TwoParts (inward outward labels counts : List ℕ) : Type 0 where
  pub sides : Bounded (length labels) inward outward
  pub low_labels : all_below (length counts) labels ≡ true
  pub fresh : counts ≡ replicate (length counts) 0

-- a round can be run: the arcs stay inside, labels are vertex numbers, each area has one place for each vertex, and the counts are zero
pub record Runnable (g : Graph) (labels next counts : List ℕ) : Type 0 where
  pub inside : AllBounded g
  pub low_labels : all_below g.vertices labels ≡ true
  pub room_labels : length labels ≡ g.vertices
  pub room_next : length next ≡ g.vertices
  pub room_counts : length counts ≡ g.vertices
  pub fresh : counts ≡ replicate (length counts) 0

-- v's neighbours: its part of the inward sources, then its part of the outward targets
abbrev pub around_in : Graph → ℕ → List ℕ
around_in g v = around (inward g) (outward g) v

-- "Each round uses only the round before": one round from the labels L of a graph's vertices
abbrev pub next_numbers : Graph → List ℕ → List ℕ
next_numbers g L = one_round eqb ltb 0 (around_in g) g.vertices L

-- the same of k rounds from the labels L
abbrev pub numbers_after : Graph → List ℕ → ℕ → List ℕ
numbers_after g L k = rounds eqb ltb 0 (around_in g) g.vertices L k

-- the rounds can be run: the graph is sound, and each area has exactly one place for each vertex
pub record Fitting (g : Graph) (result : List ℤ) (labels next counts : List ℕ) : Type 0 where
  pub sound : sound_graph g ≡ true
  pub room_result : length result ≡ g.vertices
  pub room_labels : length labels ≡ g.vertices
  pub room_next : length next ≡ g.vertices
  pub room_counts : length counts ≡ g.vertices

-- the labels can be named: each has an identifier, and each name a place
pub record Nameable (ids : List ℤ) (labels : List ℕ) (result : List ℤ) : Type 0 where
  pub low_labels : all_below (length ids) labels ≡ true
  pub room_result : length result ≡ length labels

-- the three working areas
pub record Worked : Type 0 where
  pub labels : List ℕ
  pub next : List ℕ
  pub counts : List ℕ

-- the same, by its fields in order
abbrev pub worked : List ℕ → List ℕ → List ℕ → Worked
worked L N C = record { labels = L; next = N; counts = C }
