-- What the definition says, in the words of Graphalytics 1.0.4, 2.3.4, over identifiers; and what stands in a call's result area.
-- Assumes nothing.
use Prim.Native.Nat.{ℕ, zero, suc, ◌+◌, ◌≤◌, ◌<◌}
use mathlib.Core.Path.{◌≡◌, refl, sym, ap, ap₂, ◌∙◌, subst}
use mathlib.Core.Bool.{true}
use mathlib.Core.List.{List, [], ◌∷◌, ◌++◌}
use native.Mathlib.Nat.{not-suc-le-zero}
use native.Mathlib.Omega.{arith}
use lib.IntN.{ℤ, pos}
use lib.Signed.{lt_z}
use lib.ListN.{length, get_or}
use borrow.Author.Tests.{le-ltb}
use Rattle.basis.specs.Order.{same_z}
use Rattle.basis.specs.Scan.{all_below, bit}
use Rattle.basis.proofs.Tests.{no-case}
use Rattle.basis.proofs.Scans.{below-first, below_rest}
use Rattle.basis.proofs.Areas.{column-at, column-ext}
use Rattle.basis.proofs.Orders.{signed-order}
use Rattle.graph.specs.Sound.{Graph, inward, outward, names, sound_graph, Undirected, Sound}
use Rattle.graph.proofs.Sounds.{sound-of, inward-below, outward-below, same-neighbours}
use Rattle.kernels.specs.Answer.{kernel_says}
use Rattle.kernels.proofs.Results.{pad-value, pad-behind}
use Rattle.cdlp.specs.Label.{times, standing, most_common, smallest_or, next_label}
use Rattle.cdlp.specs.Rounds.{around, labels_at, next_at, one_round, rounds, cdlp_of}
use Rattle.cdlp.specs.Call.{most_rounds, good_rounds, room_for, left_by, cdlp_call}
use Rattle.cdlp.specs.Meaning.{bearers, frequency, NextLabel, Labels, Done, Called, heard_once}
use Rattle.cdlp.proofs.Labels.{Chosen, next-chosen, times-append, next-twice}
use Rattle.cdlp.proofs.Lists.{labels_append}
use Rattle.cdlp.proofs.Runs.{cdlp-length}
use Rattle.cdlp.proofs.Calls.{allowed-within, rooms-of}

module _ (g : Graph) where
  -- the label of v after k rounds, L_k (v)
  abbrev pub label : ℕ → ℕ → ℤ
  label k v = get_or (cdlp_of g k) v (pos 0)

  -- the labels of the vertices us after k rounds
  abbrev pub labels_of : ℕ → List ℕ → List ℤ
  labels_of k us = labels_at (pos 0) (cdlp_of g k) us

  -- the labels that v hears after k rounds: those of its neighbours
  abbrev pub heard_by : ℕ → ℕ → List ℤ
  heard_by k v = labels_of k (around (inward g) (outward g) v)

  -- (2.4), and "Zero rounds give the identifiers"
  pub at_first : cdlp_of g 0 ≡ names g
  unfolding cdlp_of rounds
  at_first = refl

  -- "each iteration is computed based on the labels obtained as a result of the previous iteration"
  pub next-is : (k v : ℕ) → v < g.vertices → label (suc k) v ≡ next_label same_z lt_z (label k v) (heard_by k v)
  unfolding cdlp_of rounds one_round next_at
  next-is k v h = column-at _ g.vertices v (pos 0) h

  -- the frequency of a label in (2.5): from inward neighbours and from outward ones, so from one that is both, twice
  pub heard-twice : (k v : ℕ) (x : ℤ) → times same_z x (heard_by k v)
      ≡ times same_z x (labels_of k (inward g v)) + times same_z x (labels_of k (outward g v))
  unfolding around
  heard-twice k v x =
      ap (times same_z x) (labels_append (pos 0) (cdlp_of g k) (inward g v) (outward g v))
      ∙ times-append same_z x (labels_of k (inward g v)) (labels_of k (outward g v))

  -- "In case a vertex has no neighbors, it retains its current label"
  pub alone : (k v : ℕ) → v < g.vertices → around (inward g) (outward g) v ≡ [] → label (suc k) v ≡ label k v
  unfolding labels_at next_label most_common standing smallest_or
  alone k v h e = next-is k v h ∙ ap (λ us. next_label same_z lt_z (label k v) (labels_of k us)) e

  chosen : (own : ℤ) (ls : List ℤ) → (ls ≡ [] → ⊥) → Chosen same_z lt_z ls (next_label same_z lt_z own ls)
  chosen own [] h = absurd (h refl)
  chosen own (l ∷ ls) h = next-chosen signed-order own l ls

  -- (2.5): with neighbours it is a label that is heard, none is heard more often, and of those heard as often it is the smallest
  pub settled : (k v : ℕ) → v < g.vertices → (heard_by k v ≡ [] → ⊥) → Chosen same_z lt_z (heard_by k v) (label (suc k) v)
  settled k v h e = subst (Chosen same_z lt_z (heard_by k v)) (sym (next-is k v h)) (chosen (label k v) (heard_by k v) e)

-- ---- the rule of a round
-- the labels of a list, by place
abbrev by_place : List ℤ → ℕ → ℤ
by_place L v = get_or L v (pos 0)

bearers-times : (L : List ℤ) (l : ℤ) (us : List ℕ) → bearers (by_place L) l us ≡ times same_z l (labels_at (pos 0) L us)
unfolding bearers times labels_at
bearers-times L l [] = refl
bearers-times L l (u ∷ us) = ap (λ (k : ℕ). bit (same_z l (by_place L u)) + k) (bearers-times L l us)

module _ (g : Graph) (k : ℕ) where
  frequency-times : (v : ℕ) (x : ℤ) → frequency g (label g k) v x ≡ times same_z x (heard_by g k v)
  frequency-times v x =
      let L = cdlp_of g k in
      ap₂ (λ (a b : ℕ). a + b) (bearers-times L x (inward g v)) (bearers-times L x (outward g v)) ∙ sym (heard-twice g k v x)

  module _ (v : ℕ) (h : v < g.vertices) where
    heard-none : (x : ℤ) → 0 < times same_z x (heard_by g k v) → heard_by g k v ≡ [] → ⊥
    unfolding times
    heard-none x q n = not-suc-le-zero (rw n at q)

    heard-most : (ls : List ℤ) → heard_by g k v ≡ ls → (x : ℤ)
        → times same_z x (heard_by g k v) ≤ times same_z (label g (suc k) v) (heard_by g k v)
    unfolding times
    heard-most [] e x = rw e (omega arith)
    heard-most (l ∷ ls) e x = (settled g k v h (λ n. no-case (let z : l ∷ ls ≡ [] = sym e ∙ n in cc))).most x

    next-label : NextLabel g (label g k) v (label g (suc k) v)
    next-label =
        record {
          kept = λ a b. alone g k v h (unfold around in ap₂ (λ (s t : List ℕ). s ++ t) a b);
          most = λ x. rw (frequency-times v x, frequency-times v (label g (suc k) v)) (heard-most (heard_by g k v) refl x);
          least = λ x p e.
              (settled g k v h (heard-none x (rw (frequency-times v x) at p))).least x
              (sym (frequency-times v x) ∙ e ∙ frequency-times v (label g (suc k) v));
        }

-- labels that agree on the vertices
labels-same : (g : Graph) (k : ℕ) (L M : ℕ → ℤ) → ((v : ℕ) → v < g.vertices → M v ≡ L v) → Labels g k L → Labels g k M
labels-same g zero L M e h = λ v l. e v l ∙ h v l
labels-same g (suc k) L M e h = (h.0, h.1, λ v l. subst (NextLabel g h.0 v) (sym (e v l)) (h.2 v l))

-- the labels after k rounds are those of the rule
pub rounds-labels : (g : Graph) (k : ℕ) → Labels g k (label g k)
rounds-labels g zero = λ v l. ap (λ (L : List ℤ). by_place L v) (at_first g)
rounds-labels g (suc k) = (label g k, rounds-labels g k, next-label g k)

-- ---- the rule leaves no choice
heard-first : (L : ℕ → ℤ) (u : ℕ) (us : List ℕ) → 0 < bearers L (L u) (u ∷ us)
unfolding bearers
heard-first L u us = rw (signed-order.same_refl (L u)) (omega arith)

next_one : (g : Graph) (L : ℕ → ℤ) (v : ℕ) (x y : ℤ) → NextLabel g L v x → NextLabel g L v y → x ≡ y
next_one g L v x y a b = by (inward g v) (outward g v) refl refl
  where
    by-heard : (u : ℕ) → 0 < frequency g L v (L u) → x ≡ y
    by-heard u p =
        let m = a.most (L u) in
        let e : frequency g L v x ≡ frequency g L v y = omega (arith, a.most y, b.most x) in
        signed-order.less-eq x y (b.least x (omega arith) e) (a.least y (omega arith) (sym e))

    by : (i o : List ℕ) → inward g v ≡ i → outward g v ≡ o → x ≡ y
    by [] [] p q = a.kept p q ∙ sym (b.kept p q)
    by [] (u ∷ o) p q = by-heard u (let h : 0 < bearers L (L u) (outward g v) = rw q (heard-first L u o) in omega arith)
    by (u ∷ i) o p q = by-heard u (let h : 0 < bearers L (L u) (inward g v) = rw p (heard-first L u i) in omega arith)

-- it looks at the labels of vertices only
bearers-same : (n : ℕ) (L M : ℕ → ℤ) → ((u : ℕ) → u < n → L u ≡ M u) → (l : ℤ) (us : List ℕ) → all_below n us ≡ true
    → bearers L l us ≡ bearers M l us
unfolding bearers
bearers-same n L M e l [] h = refl
bearers-same n L M e l (u ∷ us) h =
    ap₂ (λ (z : ℤ) (k : ℕ). bit (same_z l z) + k) (e u (below-first n u us h)) (bearers-same n L M e l us (below_rest n u us h))

next-same : (g : Graph) → Sound g → (L M : ℕ → ℤ) → ((u : ℕ) → u < g.vertices → L u ≡ M u) → (v : ℕ) → v < g.vertices → (x : ℤ)
    → NextLabel g L v x → NextLabel g M v x
next-same g s L M e v h x a =
    let same : (y : ℤ) → frequency g L v y ≡ frequency g M v y = λ y.
    ap₂ (λ (i j : ℕ). i + j) (bearers-same g.vertices L M e y (inward g v) (inward-below g s v h))
    (bearers-same g.vertices L M e y (outward g v) (outward-below g s v h)) in
    record {
      kept = λ p q. a.kept p q ∙ e v h;
      most = λ y. omega (arith, a.most y, same y, same x);
      least = λ y p q. a.least y (omega (arith, same y)) (omega (arith, same y, same x));
    }

-- so these are the only labels after k rounds
pub labels-only : (g : Graph) → sound_graph g ≡ true → (k : ℕ) (L : ℕ → ℤ) → Labels g k L → (v : ℕ) → v < g.vertices → L v ≡ label g k v
labels-only g s zero L h v l = h v l ∙ sym (rounds-labels g zero v l)
labels-only g s (suc k) L h v l =
    next_one g (label g k) v (L v) (label g (suc k) v)
    (next-same g (sound-of g s) h.0 (label g k) (labels-only g s k h.0 h.1) v l (L v) (h.2 v l)) (next-label g k v l)

-- ---- the call
module _ (g : Graph) (z : ℤ) (R : List ℤ) (L N C : List ℕ) where
  call-done : sound_graph g ≡ true → (k : ℕ) → z ≡ pos k → k ≤ most_rounds → room_for g.vertices R L N C ≡ true
      → Done g k R L N C (cdlp_call g z R L N C)
  unfolding cdlp_call left_by kernel_says
  call-done s k e h r =
      let n = g.vertices in
      let good : good_rounds (pos k) ≡ true = sym (allowed-within (pos k) (le-ltb k 0 (omega arith)) (le-ltb most_rounds k h)) in
      let len = cdlp-length g (sound-of g s) k in
      let fit = (rooms-of n R L N C r).result in
      rw (e, s, good, r)
      (record {
        answer = refl;
        values = labels-same g k (label g k) _ (λ v l. pad-value (pos 0) n (length R) (cdlp_of g k) len fit v l) (rounds-labels g k);
        behind = pad-behind (pos 0) n (length R) (cdlp_of g k) len fit;
        zeros = (refl, refl, refl);
      })

  -- what the public call answers and leaves, on every graph, number of rounds and area
  pub cdlp-call : Called g z R L N C (cdlp_call g z R L N C)
  unfolding cdlp_call left_by kernel_says
  cdlp-call = record { not_sound = λ s. rw s; outside = λ s b. rw (s, b); short = λ s b r. rw (s, b, r); done = call-done }

-- ---- an undirected graph
module _ (g : Graph) (sound : sound_graph g ≡ true) (both : Undirected g) where
  -- "If the graph is directed and a neighbor is reachable via both an incoming and outgoing edge, its label will be counted twice":
  -- in an undirected graph each
  -- neighbour is heard twice, and the labels are those of hearing each once
  pub undirected-once : (k : ℕ) → cdlp_of g k ≡ heard_once g k
  unfolding cdlp_of rounds one_round next_at around
  undirected-once zero = refl
  undirected-once (suc k) =
      column-ext _ _ g.vertices
      (λ v l.
      let M = heard_once g k in
      ap (λ (K : List ℤ). next_label same_z lt_z (by_place K v) (labels_at (pos 0) K (inward g v ++ outward g v))) (undirected-once k)
      ∙ ap (λ (us : List ℕ). next_label same_z lt_z (by_place M v) (labels_at (pos 0) M (us ++ outward g v)))
      (same-neighbours g (sound-of g sound) both v l)
      ∙ ap (next_label same_z lt_z (by_place M v)) (labels_append (pos 0) M (outward g v) (outward g v))
      ∙ next-twice signed-order (by_place M v) (labels_at (pos 0) M (outward g v)))
