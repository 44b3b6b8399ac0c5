-- The rules "Kernels" and Graphalytics 1.0.4, 2.3.4: a round, and k rounds.
use Rattle.std.specs.Prelude.{ℕ, zero, suc, Bool, List, [], ◌∷◌, ◌++◌, ℤ, pos, get_or}
use Rattle.std.specs.Int.Signed.{lt_z}
use Rattle.basis.specs.Order.{same_z}
use Rattle.basis.specs.Area.{column}
use Rattle.graph.specs.Sound.{Graph, inward, outward, names}
use Rattle.cdlp.specs.Label.{next_label}

-- "A neighbour both inward and outward counts twice": N_in (v), then N_out (v)
unfoldable pub around : (ℕ → List ℕ) → (ℕ → List ℕ) → ℕ → List ℕ
around into out v = into v ++ out v

-- the labels of the vertices us
unfoldable pub labels_at : {A : Type 0} → A → List A → List ℕ → List A
labels_at none L [] = []
labels_at none L (u ∷ us) = get_or L u none ∷ labels_at none L us

-- n vertices with the neighbours that each hears, and labels of any kind with tests for equal and for smaller ones
module _ {A : Type 0} (same less : A → A → Bool) (none : A) (hears : ℕ → List ℕ) (n : ℕ) where
  -- (2.5): the next label of v, from the labels L of the round before
  unfoldable pub next_at : List A → ℕ → A
  next_at L v = next_label same less (get_or L v none) (labels_at none L (hears v))

  -- "Each round uses only the round before"
  unfoldable pub one_round : List A → List A
  one_round L = column (next_at L) 0 n

  -- the labels after k rounds, from L: each round is run
  unfoldable pub rounds : List A → ℕ → List A
  rounds L zero = L
  rounds L (suc k) = one_round (rounds L k)

-- (2.4), "labels start as identifiers": the labels of a graph after k rounds
unfoldable pub cdlp_of : Graph → ℕ → List ℤ
cdlp_of g k = rounds same_z lt_z (pos 0) (around (inward g) (outward g)) g.vertices (names g) k
