-- A whole run on a sound graph: from the vertex numbers, through the rounds, to the identifiers of the labels. Assumes nothing.
use Prim.Native.Nat.{ℕ, zero, suc, ◌<◌}
use mathlib.Core.Path.{◌≡◌, sym, ap, ◌∙◌, subst}
use mathlib.Core.Bool.{true}
use mathlib.Core.List.{List}
use native.Mathlib.Omega.{arith}
use lib.IntN.{ℤ, pos}
use lib.Signed.{lt_z}
use lib.ListN.{length, replicate, length-replicate}
use lib.Dec.{eqb, ltb}
use Rattle.basis.specs.Order.{same_z}
use Rattle.basis.specs.Area.{own_numbers, cleared}
use Rattle.basis.proofs.Areas.{column-length}
use Rattle.basis.proofs.Orders.{signed-order}
use Rattle.basis.specs.Scan.{all_below}
use Rattle.basis.proofs.Scans.{below_up}
use Rattle.graph.specs.Sound.{Graph, inward, outward, names, Sound}
use Rattle.graph.proofs.Sounds.{sound-of, names-length, inward-below, outward-below, inward-few, outward-few}
use Rattle.cdlp.specs.Rounds.{around, labels_at, one_round, rounds, cdlp_of}
use Rattle.cdlp.specs.Steps.{AllBounded, Runnable, around_in, numbers_after, Fitting, Nameable}
use Rattle.cdlp.proofs.Lists.{labels-front}
use Rattle.cdlp.proofs.Names.{rounds-low, rounds-length, own-low, numbers-named}
use Rattle.cdlp.proofs.Turns.{around-low}

-- the arcs of a sound graph stay among its vertices, and no vertex has more of them than a graph has vertices
pub sound-bounded : (g : Graph) → Sound g → AllBounded g
sound-bounded g s v l =
    let few = s.few_vertices in
    let a = inward-few g s v l in
    let b = outward-few g s v l in
    record {
      low_in = inward-below g s v l;
      low_out = outward-below g s v l;
      short_in = omega arith;
      short_out = omega arith;
    }

-- there are as many labels as vertices
pub cdlp-length : (g : Graph) → Sound g → (k : ℕ) → length (cdlp_of g k) ≡ g.vertices
unfolding cdlp_of rounds one_round
cdlp-length g s zero = names-length g s
cdlp-length g s (suc k) = column-length _ 0 g.vertices

-- labels are identifiers of the graph: those of the vertices that rounds on vertex numbers give
pub cdlp-numbers : (g : Graph) → Sound g → (k : ℕ)
    → labels_at (pos 0) (names g) (rounds eqb ltb 0 (around (inward g) (outward g)) g.vertices (own_numbers g.vertices) k) ≡ cdlp_of g k
unfolding cdlp_of
cdlp-numbers g s k =
    let hears : ℕ → List ℕ = around (inward g) (outward g) in
    let n = names-length g s in
    subst (λ (j : ℕ). labels_at (pos 0) (names g) (rounds eqb ltb 0 hears j (own_numbers j) k)
    ≡ rounds same_z lt_z (pos 0) hears j (names g) k)
    n
    (numbers-named signed-order (pos 0) (names g) s.ids_rise hears
    (λ v l. subst (λ (j : ℕ). all_below j (hears v) ≡ true) (sym n)
    (around-low g (sound-bounded g s) v (omega arith))) k)

module _ {g : Graph} {R : List ℤ} {L N C L₁ C₁ : List ℕ} (x : Fitting g R L N C)
    (e₁ : L₁ ≡ own_numbers (length L)) (e₂ : C₁ ≡ cleared C) where
  abbrev n : ℕ
  n = g.vertices

  s : Sound g
  s = sound-of g x.sound

  numbers : L₁ ≡ own_numbers n
  numbers = e₁ ∙ ap own_numbers x.room_labels

  own-length : length (own_numbers n) ≡ n
  own-length = column-length (λ (v : ℕ). v) 0 n

  pub run-runnable : Runnable g L₁ N C₁
  run-runnable =
      let c : length C₁ ≡ length C = ap length e₂ ∙ length-replicate (length C) 0 in
      record {
        inside = sound-bounded g s;
        low_labels = rw numbers (own-low n);
        room_labels = ap length numbers ∙ own-length;
        room_next = x.room_next;
        room_counts = c ∙ x.room_counts;
        fresh = e₂ ∙ ap (λ (k : ℕ). replicate k 0) (sym c);
      }

  module _ {L₂ : List ℕ} (k : ℕ) (e₃ : L₂ ≡ numbers_after g L₁ k) where
    nears : (v : ℕ) → v < n → all_below n (around_in g v) ≡ true
    nears = around-low g (sound-bounded g s)

    run : L₂ ≡ numbers_after g (own_numbers n) k
    run = e₃ ∙ ap (λ (M : List ℕ). numbers_after g M k) numbers

    low : all_below n L₂ ≡ true
    low = rw run (rounds-low (around_in g) n nears (own_numbers n) k own-length (own-low n))

    pub run-nameable : Nameable g.ids L₂ R
    run-nameable =
        record {
          low_labels = below_up n (length g.ids) L₂ s.ids_room low;
          room_result = x.room_result ∙ sym (ap length run ∙ rounds-length (around_in g) n nears (own_numbers n) k own-length);
        }

    pub run-named : {X : List ℤ} → X ≡ labels_at (pos 0) g.ids L₂ → X ≡ cdlp_of g k
    unfolding cdlp_of
    run-named q = q ∙ labels-front (pos 0) n g.ids L₂ low ∙ ap (labels_at (pos 0) (names g)) run ∙ cdlp-numbers g s k
