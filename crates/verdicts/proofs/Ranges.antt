-- Each kernel's results are in the range of an identifier, if the identifiers are. Assumes nothing.
use Rattle.std.specs.Prelude.{Option, Some, None}
use mathlib.Core.Bool.{Bool, true, false, cond}
use mathlib.Core.List.{List, [], ◌∷◌}
use Prim.Native.Nat.{ℕ, zero, suc, ◌≤◌, ◌<◌}
use native.Mathlib.Omega.{arith}
use lib.Dec.{eqb}
use lib.IntN.{ℤ, pos}
use lib.Signed.{lt_z}
use lib.ListN.{get_or}
use mir.Syntax.{w64}
use mir.Val.{SFits}
use Rattle.basis.specs.Limits.{most_vertices}
use Rattle.basis.specs.Area.{column}
use Rattle.basis.specs.Order.{same_z}
use Rattle.graph.specs.Sound.{Graph, outward, inward, names}
use Rattle.bfs.specs.Depth.{ring_depth, depth_of}
use Rattle.bfs.specs.Call.{depths_from}
use Rattle.bfs.proofs.Rings.{depth-cases}
use Rattle.cdlp.specs.Label.{times, standing, most_common, smallest, smallest_or, next_label}
use Rattle.cdlp.specs.Rounds.{around, labels_at, next_at, one_round, rounds, cdlp_of}
use Rattle.matching.proofs.Listing.{AllFit}

fit_small : (n : ℕ) → n < 9223372036854775808 → SFits w64 (pos n)
fit_small n h = record { sfits = h }

fit_at : (l : List ℤ) → AllFit l → (i : ℕ) → SFits w64 (get_or l i (pos 0))
fit_at [] h i = fit_small 0 (omega arith)
fit_at (x ∷ l) h zero = h.0
fit_at (x ∷ l) h (suc i) = fit_at l h.1 i

fit-column : (f : ℕ → ℤ) → ((i : ℕ) → SFits w64 (f i)) → (s n : ℕ) → AllFit (column f s n)
unfolding column
fit-column f h s zero = tt
fit-column f h s (suc n) = (h s, fit-column f h (suc s) n)

-- ---- BFS
depth-fits : (n k : ℕ) → n ≤ most_vertices → SFits w64 (ring_depth n k)
depth-fits n k h = depth-cases (SFits w64) n k (λ l. fit_small k (omega arith)) (fit_small 9223372036854775807 (omega arith))

pub bfs-fits : (g : Graph) → g.vertices ≤ most_vertices → (place : Option ℕ) → AllFit (depths_from g place)
unfolding depth_of
bfs-fits g h (Some root) =
    fit-column (depth_of g.vertices (outward g) root) (λ v. depth-fits g.vertices _ h) 0 g.vertices
bfs-fits g h None = tt

-- ---- CDLP: a label is one of those before it
standing-fits : (k : ℕ) (ls cs : List ℤ) → AllFit cs → AllFit (standing same_z k ls cs)
unfolding standing
standing-fits k ls [] h = tt
standing-fits k ls (c ∷ cs) h = by (eqb (times same_z c ls) k) (standing-fits k ls cs h.1)
  where
    by : (t : Bool) → AllFit (standing same_z k ls cs) → AllFit (cond t (c ∷ standing same_z k ls cs) (standing same_z k ls cs))
    by true r = (h.0, r)
    by false r = r

smallest-fits : (a : ℤ) (cs : List ℤ) → SFits w64 a → AllFit cs → SFits w64 (smallest lt_z a cs)
unfolding smallest
smallest-fits a [] f h = f
smallest-fits a (c ∷ cs) f h = smallest-fits (cond (lt_z c a) c a) cs (by (lt_z c a)) h.1
  where
    by : (t : Bool) → SFits w64 (cond t c a)
    by true = h.0
    by false = f

smallest-or-fits : (own : ℤ) (cs : List ℤ) → SFits w64 own → AllFit cs → SFits w64 (smallest_or lt_z own cs)
unfolding smallest_or
smallest-or-fits own [] f h = f
smallest-or-fits own (c ∷ cs) f h = smallest-fits c cs h.0 h.1

labels-fit : (L : List ℤ) → AllFit L → (us : List ℕ) → AllFit (labels_at (pos 0) L us)
unfolding labels_at
labels-fit L h [] = tt
labels-fit L h (u ∷ us) = (fit_at L h u, labels-fit L h us)

rounds-fit : (near : ℕ → List ℕ) (n : ℕ) (L : List ℤ) → AllFit L → (k : ℕ) → AllFit (rounds same_z lt_z (pos 0) near n L k)
unfolding rounds one_round next_at next_label most_common
rounds-fit near n L h zero = h
rounds-fit near n L h (suc k) =
    let r = rounds same_z lt_z (pos 0) near n L k in
    let f : AllFit r = rounds-fit near n L h k in
    fit-column (next_at same_z lt_z (pos 0) near n r)
    (λ v. smallest-or-fits (get_or r v (pos 0)) _ (fit_at r f v) (standing-fits _ _ _ (labels-fit r f (near v)))) 0 n

pub cdlp-fits : (g : Graph) → AllFit (names g) → (k : ℕ) → AllFit (cdlp_of g k)
unfolding cdlp_of
cdlp-fits g h k = rounds-fit (around (inward g) (outward g)) g.vertices (names g) h k
