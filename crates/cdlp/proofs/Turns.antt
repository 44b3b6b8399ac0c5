-- What a round asks and gives, vertex by vertex, and that rounds can go on. Assumes nothing.
use Prim.Native.Nat.{ℕ, ◌+◌, ◌≤◌, ◌<◌}
use mathlib.Core.Path.{◌≡◌, refl, sym, ap, ap₂, ◌∙◌, subst}
use mathlib.Core.Bool.{true}
use mathlib.Core.List.{List, ◌++◌}
use native.Mathlib.Omega.{arith}
use native.Mathlib.Numerals.{add-one}
use lib.ListN.{length, get_or, set, drop, replicate}
use lib.Dec.{eqb, ltb}
use Rattle.basis.specs.Area.{column, copied}
use Rattle.basis.proofs.Areas.{column-none, column-more, column-end, column-length, copied_all}
use Rattle.basis.specs.Scan.{all_below}
use Rattle.basis.proofs.Scans.{below-append}
use Rattle.graph.specs.Sound.{Graph, inward, outward}
use Rattle.cdlp.specs.Label.{next_label}
use Rattle.cdlp.specs.Rounds.{around, labels_at, next_at, one_round, rounds}
use Rattle.cdlp.specs.Steps.{AllBounded, TwoParts, Runnable, around_in, next_numbers, numbers_after}
use Rattle.cdlp.proofs.Names.{rounds-low, rounds-length}

-- the first v places of next have the next labels of their vertices
pub record Filled (g : Graph) (labels next₀ next : List ℕ) (v : ℕ) : Type 0 where
  pub front : next ≡ column (next_at eqb ltb 0 (around_in g) g.vertices labels) 0 v ++ drop v next₀

-- the next label of v from its two parts
next_of : (g : Graph) (labels a b : List ℕ) (v : ℕ) → a ≡ inward g v → b ≡ outward g v
    → next_label eqb ltb (get_or labels v 0) (labels_at 0 labels (a ++ b)) ≡ next_at eqb ltb 0 (around_in g) g.vertices labels v
unfolding next_at around
next_of g labels a b v p q = ap₂ (λ x y. next_label eqb ltb (get_or labels v 0) (labels_at 0 labels (x ++ y))) p q

module _ {g : Graph} {labels : List ℕ} where
  -- what `settle` asks of v
  pub two-parts-of : {next counts a b C : List ℕ} → Runnable g labels next counts → (v : ℕ) → v < length labels
      → a ≡ inward g v → b ≡ outward g v → C ≡ counts → TwoParts a b labels C
  two-parts-of s v h p q e =
      record {
        sides = rw (p, q, s.room_labels) (s.inside v (let l = s.room_labels in omega arith));
        low_labels = subst (λ (n : ℕ). all_below n labels ≡ true) (sym s.room_counts ∙ sym (ap length e)) s.low_labels;
        fresh = subst (λ (D : List ℕ). D ≡ replicate (length D) 0) (sym e) s.fresh;
      }

  pub filled_none : {next : List ℕ} → Filled g labels next next 0
  filled_none {next} = record { front = column-none (next_at eqb ltb 0 (around_in g) g.vertices labels) next }

  pub filled_more : {next₀ counts next a b : List ℕ} {v r : ℕ} → Runnable g labels next₀ counts → v < length labels
      → Filled g labels next₀ next v
      → a ≡ inward g v → b ≡ outward g v
      → r ≡ next_label eqb ltb (get_or labels v 0) (labels_at 0 labels (a ++ b))
      → Filled g labels next₀ (set next v r) (v + 1)
  filled_more {next₀} {counts} {next} {a} {b} {v} {r} s h f p q e =
      record {
        front =
            column-more (next_at eqb ltb 0 (around_in g) g.vertices labels) v next₀ next r
            (let l = s.room_labels in let m = s.room_next in omega arith) f.front (e ∙ next_of g labels a b v p q);
      }

  pub filled-all : {next₀ counts next : List ℕ} {v : ℕ} → Runnable g labels next₀ counts → v ≤ length labels → length labels ≤ v
      → Filled g labels next₀ next v
      → next ≡ next_numbers g labels
  unfolding one_round
  filled-all {next₀} {counts} {next} {v} s l h f =
      let r = s.room_labels in let m = s.room_next in
      column-end (next_at eqb ltb 0 (around_in g) g.vertices labels) v g.vertices next₀ next (omega arith) (omega arith) f.front

pub around-low : (g : Graph) → AllBounded g → (v : ℕ) → v < g.vertices → all_below g.vertices (around_in g v) ≡ true
unfolding around
around-low g h v l = below-append g.vertices (inward g v) (outward g v) (h v l).low_in (h v l).low_out

module _ {g : Graph} {L N C : List ℕ} (s : Runnable g L N C) where
  -- after any number of rounds the next one can be run
  pub runnable-on : {L' N' C' : List ℕ} (k : ℕ) → L' ≡ numbers_after g L k → length N' ≡ length N → C' ≡ C → Runnable g L' N' C'
  runnable-on {L'} k e p q =
      let nears = around-low g s.inside in
      record {
        inside = s.inside;
        low_labels = rw e (rounds-low (around_in g) g.vertices nears L k s.room_labels s.low_labels);
        room_labels = ap length e ∙ rounds-length (around_in g) g.vertices nears L k s.room_labels;
        room_next = p ∙ s.room_next;
        room_counts = ap length q ∙ s.room_counts;
        fresh = subst (λ (D : List ℕ). D ≡ replicate (length D) 0) (sym q) s.fresh;
      }

-- one round more: the labels are what was copied into them, the next labels
module _ (g : Graph) (L : List ℕ) where
  pub round-on : (L' M X : List ℕ) (k : ℕ) → L' ≡ numbers_after g L k → length L' ≡ g.vertices → M ≡ next_numbers g L'
      → X ≡ copied (length M) M L' → X ≡ numbers_after g L (k + 1)
  unfolding rounds one_round
  round-on L' M X k e l m q =
      let f = next_at eqb ltb 0 (around_in g) g.vertices L' in
      q ∙ copied_all M L' (l ∙ sym (ap length m ∙ column-length f 0 g.vertices)) ∙ m ∙ ap (next_numbers g) e ∙ rw (add-one k) refl

  pub round-none : L ≡ numbers_after g L 0
  unfolding rounds
  round-none = refl
