-- Laws of the call: one for each way that a function of it ends, its premises the code's tests. Assumes nothing.
use Prim.Native.Nat.{ℕ, ◌≤◌}
use mathlib.Core.Path.{◌≡◌, refl, sym, ap, ◌∙◌}
use mathlib.Core.Bool.{Bool, true, false, not, ◌&&◌}
use mathlib.Core.List.{List, ◌++◌}
use native.Mathlib.Omega.{arith}
use lib.IntN.{ℤ, pos, negsuc, nat_abs}
use lib.Signed.{lt_z, non_neg}
use lib.ListN.{length, take, drop, length-replicate}
use lib.Seq.{length-take-le}
use lib.Dec.{T, leb, ltb}
use mir.Syntax.{w64}
use mir.Val.{Fits}
use borrow.Author.Tests.{leb-true, ltb-false, not-true}
use Rattle.basis.specs.Refusal.{Said, gives, refuses, plain, unsound, bad_rounds, no_room}
use Rattle.basis.specs.Area.{cleared, cleared_z}
use Rattle.basis.proofs.Tests.{clash, and_first, and_second, held}
use Rattle.graph.specs.Sound.{Graph, sound_graph}
use Rattle.graph.specs.Walk.{arcs_checked}
use Rattle.graph.proofs.Walks.{check-told, check-area}
use Rattle.graph.proofs.Sounds.{sound-of}
use Rattle.kernels.proofs.Results.{front-padded, front-cleared}
use Rattle.kernels.proofs.Ends.{ends-unsound, ends-refused, ends-short, ends-done}
use Rattle.cdlp.specs.Rounds.{cdlp_of}
use Rattle.cdlp.specs.Call.{Outcome, outcome, refusal, most_rounds, good_rounds, room_for, left_by, cdlp_call}
use Rattle.cdlp.specs.Steps.{Ready, Fitting, Worked, worked}
use Rattle.cdlp.proofs.Runs.{cdlp-length}

-- ---- a number of rounds within the limit
pub allowed-within : (z : ℤ) → lt_z z (pos 0) ≡ false → lt_z (pos most_rounds) z ≡ false → true ≡ good_rounds z
unfolding good_rounds
allowed-within z h g = rw (h, g)

-- ---- the areas
pub works : {L M N O C D : List ℕ} → L ≡ M → N ≡ O → C ≡ D → worked L N C ≡ worked M O D
works p q r = cc

-- equal parts, equal outcomes
outcomes : {s t : Said (Unit {0})} {R R' : List ℤ} {L L' N N' C C' : List ℕ} → s ≡ t → R ≡ R' → L ≡ L' → N ≡ N' → C ≡ C'
    → outcome s R L N C ≡ outcome t R' L' N' C'
outcomes d p q r t = cc

-- ---- a refusal, from its parts
module _ (s : Said (Unit {0})) (k : ℕ) (R R₁ : List ℤ) (L N C L₁ N₁ C₁ : List ℕ) where
  pub refuse-all : s ≡ refuses (plain k) → R₁ ≡ cleared_z R → worked L₁ N₁ C₁ ≡ worked (cleared L) (cleared N) (cleared C)
      → outcome s R₁ L₁ N₁ C₁ ≡ refusal k R L N C
  refuse-all p q r =
      outcomes p q (ap (λ (w : Worked). w.labels) r) (ap (λ (w : Worked). w.next) r) (ap (λ (w : Worked). w.counts) r)

-- ---- areas with room for n places
pub record Rooms (n : ℕ) (R : List ℤ) (L N C : List ℕ) : Type 0 where
  pub result : n ≤ length R
  pub labels : n ≤ length L
  pub next : n ≤ length N
  pub counts : n ≤ length C

pub rooms-of : (n : ℕ) (R : List ℤ) (L N C : List ℕ) → room_for n R L N C ≡ true → Rooms n R L N C
unfolding room_for
rooms-of n R L N C h =
    let r = leb n (length R) in let l = leb n (length L) in let m = leb n (length N) in let c = leb n (length C) in
    let p = and_first ((r && l) && m) c h in
    let q = and_first (r && l) m p in
    record {
      result = leb-true n (length R) (and_first r l q);
      labels = leb-true n (length L) (and_second r l q);
      next = leb-true n (length N) (and_second (r && l) m p);
      counts = leb-true n (length C) (and_second ((r && l) && m) c h);
    }

-- ---- their first n places, of a graph's n vertices; R₁ is the result area after it was cleared
module _ (g : Graph) (R : List ℤ) (L N C : List ℕ) (x : Ready g R L N C) where
  abbrev n : ℕ
  n = g.vertices

  rooms : Rooms n R L N C
  rooms = rooms-of n R L N C x.room

  pub lent-labels : n ≤ length L
  lent-labels = rooms.labels

  pub lent-next : n ≤ length N
  lent-next = rooms.next

  pub lent-counts : n ≤ length C
  lent-counts = rooms.counts

  pub taken-labels : n ≡ length (take n L)
  taken-labels = sym (length-take-le n L lent-labels)

  pub taken_next : n ≡ length (take n N)
  taken_next = sym (length-take-le n N lent-next)

  pub taken-counts : n ≡ length (take n C)
  taken-counts = sym (length-take-le n C lent-counts)

  module _ (R₁ : List ℤ) (e : length R₁ ≡ length R) where
    pub lent-result : n ≤ length R₁
    lent-result = let r = rooms.result in omega arith

    pub taken-result : n ≡ length (take n R₁)
    taken-result = sym (length-take-le n R₁ lent-result)

    pub fitting-of : Fitting g (take n R₁) (take n L) (take n N) (take n C)
    fitting-of =
        record {
          sound = x.sound;
          room_result = sym taken-result;
          room_labels = sym taken-labels;
          room_next = sym taken_next;
          room_counts = sym taken-counts;
        }

  -- the labels with zeros behind them, and working areas of zeros, whatever their first places held
  pub fill-all : (k : ℕ) (R₁ X : List ℤ) (L₂ N₂ C₂ L₃ N₃ C₃ : List ℕ) → R₁ ≡ cleared_z R → X ≡ cdlp_of g k
      → length L₂ ≡ length (take n L) → length N₂ ≡ length (take n N) → length C₂ ≡ length (take n C)
      → worked L₃ N₃ C₃ ≡ worked (cleared (L₂ ++ drop n L)) (cleared (N₂ ++ drop n N)) (cleared (C₂ ++ drop n C))
      → outcome (gives tt) (X ++ drop n R₁) L₃ N₃ C₃ ≡ left_by (gives tt) g k R L N C
  unfolding left_by
  fill-all k R₁ X L₂ N₂ C₂ L₃ N₃ C₃ e q l m c w =
      outcomes refl (front-padded (pos 0) n R R₁ (cdlp_of g k) X (cdlp-length g (sound-of g x.sound) k) e q)
      (ap (λ (t : Worked). t.labels) w ∙ front-cleared n L L₂ l)
      (ap (λ (t : Worked). t.next) w ∙ front-cleared n N N₂ m)
      (ap (λ (t : Worked). t.counts) w ∙ front-cleared n C C₂ c)

-- ---- the call: how it ends, by its tests in their order
-- the check of the graph left zeros in the counts
call-over : (g : Graph) (z : ℤ) (R : List ℤ) (L N C C₁ : List ℕ) → C₁ ≡ cleared C → cdlp_call g z R L N C₁ ≡ cdlp_call g z R L N C
unfolding cdlp_call left_by room_for
call-over g z R L N C C₁ q = rw (q, length-replicate {A = ℕ} (length C) 0)

-- C₁ are the counts that it left; z' is z as it is handed on
module _ (graph : Graph) (z : ℤ) (R : List ℤ) (L N C C₁ : List ℕ) (o : Outcome)
    (s : Bool) (e : arcs_checked s C₁ ≡ arcs_checked (sound_graph graph) (cleared C)) where
  abbrev roomy : Bool
  roomy = room_for graph.vertices R L N C₁

  -- what the call leaves by what it says
  abbrev left : Said (Unit {0}) → Outcome
  left said = left_by said graph (nat_abs z) R L N C₁

  over : cdlp_call graph z R L N C₁ ≡ cdlp_call graph z R L N C
  over = call-over graph z R L N C C₁ (check-area e)

  pub call-unsound : s ≡ false → o ≡ refusal unsound R L N C₁ → o ≡ cdlp_call graph z R L N C
  unfolding cdlp_call left_by
  call-unsound h q = ends-unsound left o (sound_graph graph) (good_rounds z) bad_rounds roomy s (check-told e) h q ∙ over

  module _ (h : s ≡ true) (z' : ℤ) (same : z' ≡ z) (a : Bool) (f : a ≡ good_rounds z') where
    good : a ≡ good_rounds z
    good = f ∙ ap good_rounds same

    pub call-refused : a ≡ false → o ≡ refusal bad_rounds R L N C₁ → o ≡ cdlp_call graph z R L N C
    unfolding cdlp_call left_by
    call-refused k q = ends-refused left o (sound_graph graph) (good_rounds z) bad_rounds roomy s (check-told e) h a good k q ∙ over

    module _ (k : a ≡ true) (r : Bool) (i : r ≡ room_for graph.vertices R L N C₁) where
      pub call-short : r ≡ false → o ≡ refusal no_room R L N C₁ → o ≡ cdlp_call graph z R L N C
      unfolding cdlp_call left_by
      call-short l q = ends-short left o (sound_graph graph) (good_rounds z) bad_rounds roomy s (check-told e) h a good k r i l q ∙ over

      pub call-done : r ≡ true → o ≡ left_by (gives tt) graph (nat_abs z') R L N C₁ → o ≡ cdlp_call graph z R L N C
      unfolding cdlp_call
      call-done l q =
          ends-done left o (sound_graph graph) (good_rounds z) bad_rounds roomy s (check-told e) h a good k r i l
          (q ∙ ap (λ (y : ℤ). left_by (gives tt) graph (nat_abs y) R L N C₁) same) ∙ over

-- a number of rounds within the limit is a number
pub rounds-cast : (z : ℤ) (a : Bool) → a ≡ good_rounds z → a ≡ true → T (non_neg z) × Fits w64 (nat_abs z)
unfolding good_rounds
rounds-cast (pos k) a e h =
    let l = ltb-false most_rounds k (not-true (ltb most_rounds k)
    (and_second (not (ltb k 0)) (not (ltb most_rounds k)) (held a (good_rounds (pos k)) e h))) in
    (tt, record { fits = omega arith })
rounds-cast (negsuc k) a e h = clash (held a (good_rounds (negsuc k)) e h) refl
