-- Demand 3 of every form of book that meets the equations of `Faithful.antt`. Assumes nothing.
use mathlib.Core.Path.{◌≡◌, refl, sym, ap, ap₂, ◌∙◌, subst}
use mathlib.Core.List.{List, [], ◌∷◌, ◌++◌}
use mathlib.Core.Bool.{Bool, true, false, cond}
use mathlib.Core.Logic.{◌⊎◌, inl, inr, ◌↔◌}
use Prim.Native.Nat.{ℕ, suc, ◌+◌, ◌-◌, ◌^◌, ◌≤◌, ◌<◌}
use native.Mathlib.Omega.{arith}
use native.Mathlib.Decide.{dec_lt}
use lib.ListN.{take}
use lib.Dec.{eqb, ltb}
use borrow.Author.Tests.{ltb-true, eq-eqb, ne_eqb}
use Rattle.basis.specs.Limits.{most_vertices}
use Rattle.basis.specs.Closure.{Linked}
use Rattle.basis.proofs.Tests.{and_first, and_second}
use Rattle.basis.specs.declared.refusal.Refusal.{Refusal}
use Rattle.basis.specs.Refusal.{Said, gives, refuses, plain, not_there}
use Rattle.basis.specs.Scan.{each, all_below}
use Rattle.book.specs.Rules.{most_moves, stop, View, Machine, walk_end, Step, Joining, merged, same, outcome, Each, all, stopped}
use Rattle.book.specs.Rules.{EachOutcome, counted, behind, join_each, walk_from, open_book, join_book, write_book, decide, largest}
use Rattle.book.specs.Series.{Call, Answer, State, state, slip, Accepted, Kept, Demand3, put_each, merges_of, after, after_open}
use Rattle.book.specs.Series.{after_join, after_each, joinings, answer, run, head_in, moves_in, head_at, moves_at, members, shown}
use Rattle.book.proofs.Walks.{walk-head}
use Rattle.book.proofs.Powers.{largest-low, largest-high, largest-most}
use Rattle.book.proofs.Tally.{tally-same, tally-le}
use Rattle.book.proofs.Answers.{merges_by, each-said, each-stopped}
use Rattle.book.proofs.Faithful.{Faithful}
use Rattle.book.proofs.Forest.{Whose}
use Rattle.book.proofs.Book.{Sound, Joins, joins, sound-already, sound-merged, sound-open, join-outside, head_in_lem, walk_is}
use Rattle.book.proofs.Book.{head-answer, same_answer, size-answer, limit-answer, count-answer, linked-iff, size-group, size-pos}

-- the state's book keeps the invariant
abbrev pub Whole : (M : Machine) → ℕ → State M.Area → Type 0
Whole M n s = Sound n (M.view s.area) s.slips s.merges

-- joins of a vertex with each of a list are accepted: the field of `Kept`
abbrev AllAccepted : (M : Machine) → ℕ → State M.Area → Type 0
AllAccepted M n s =
    (u : ℕ) (ws : List ℕ) → u < n → all_below n ws ≡ true
    → (answer M s (Call.joining_each u ws) ≡ Answer.joins_each (all ((run M s (joinings u ws)).merges - s.merges)))
    × (after M s (Call.joining_each u ws) ≡ run M s (joinings u ws))

-- a head is its own
pub own-head : (w : View) (v : ℕ) → w.next v ≡ stop → head_at w v ≡ v
unfolding walk_from
own-head w v e = ap head_in (walk-head w.next w.count most_moves 0 v e)

-- areas that are well lent are opened
pub open_is : (M : Machine) (a : M.Area) → (M.view a).fit ≡ true → open_book M a ≡ outcome (gives tt) (M.opened a)
unfolding open_book
open_is M a f = simp f

module _ (M : Machine) where
  -- what an opening leaves in the areas
  pub open-area : (s : State M.Area) → (after M s Call.opening).area ≡ (open_book M s.area).area
  unfolding after
  open-area s = go (open_book M s.area).said
    where
      go : (d : Said (Unit {0})) → (after_open d (open_book M s.area).area s).area ≡ (open_book M s.area).area
      go (gives x) = refl
      go (refuses r) = refl

  -- a further call
  pub run-snoc : (s : State M.Area) (cs : List Call) (c : Call) → run M s (cs ++ (c ∷ [])) ≡ after M (run M s cs) c
  unfolding run
  run-snoc s [] c = refl
  run-snoc s (d ∷ cs) c = run-snoc (after M s d) cs c

-- ---- joins of one vertex with each of a list are joins by a call each

module _ (M : Machine) where
  -- what a join leaves in the areas
  pub join-area : (s : State M.Area) (u v : ℕ) → (after M s (Call.joining u v)).area ≡ (join_book M s.area u v).area
  unfolding after
  join-area s u v = go (join_book M s.area u v).said
    where
      b : M.Area
      b = (join_book M s.area u v).area

      go : (d : Said Joining) → (after_join u v d b s).area ≡ b
      go (gives merged) = refl
      go (gives same) = refl
      go (refuses r) = refl

  -- none
  each-nothing : (s : State M.Area) (u : ℕ) → after M s (Call.joining_each u []) ≡ s
  unfolding after join_each put_each
  each-nothing s u = let e : s.merges + 0 ≡ s.merges = omega arith in ap (state s.area s.latest s.slips) e

  module _ (s : State M.Area) (u w : ℕ) (ws : List ℕ) where
    -- where it is refused nothing is joined
    each-ends : (r : Refusal) → (join_book M s.area u w).said ≡ refuses r
        → after M s (Call.joining_each u (w ∷ ws)) ≡ after M s (Call.joining u w)
    unfolding after put_each
    each-ends r e =
        let b = (join_book M s.area u w).area in
        let z : s.merges + 0 ≡ s.merges = omega arith in
        ap (λ (d : EachOutcome M.Area). after_each u (w ∷ ws) d.said d.area s) (each-stopped M u s.area w ws r e)
        ∙ ap (state b s.latest s.slips) z
        ∙ ap (λ (d : Said Joining). after_join u w d b s) (sym e)

    -- what is put and counted behind the first join
    put_first : (j : Joining) (x : Each) (b c : M.Area)
        → after_each u (w ∷ ws) (counted 1 (merges_by j) x) c s ≡ after_each u ws x c (after_join u w (gives j) b s)
    unfolding put_each
    put_first merged (all m) b c =
        let e : s.merges + (m + 1) ≡ suc s.merges + m = omega arith in ap (state c s.latest (put_each u ws (slip u w ∷ s.slips))) e
    put_first merged (stopped k m r) b c =
        let e : s.merges + (m + 1) ≡ suc s.merges + m = omega arith in
        let q : k + 1 ≡ suc k = omega arith in
        rw q (ap (state c s.latest (put_each u (take k ws) (slip u w ∷ s.slips))) e)
    put_first same (all m) b c =
        let e : s.merges + (m + 0) ≡ s.merges + m = omega arith in ap (state c s.latest (put_each u ws (slip u w ∷ s.slips))) e
    put_first same (stopped k m r) b c =
        let e : s.merges + (m + 0) ≡ s.merges + m = omega arith in
        let q : k + 1 ≡ suc k = omega arith in
        rw q (ap (state c s.latest (put_each u (take k ws) (slip u w ∷ s.slips))) e)

    each_goes : (j : Joining) → (join_book M s.area u w).said ≡ gives j
        → after M s (Call.joining_each u (w ∷ ws)) ≡ after M (after M s (Call.joining u w)) (Call.joining_each u ws)
    unfolding after behind
    each_goes j e =
        let b = (join_book M s.area u w).area in
        let x = join_each M b u ws in
        ap (λ (d : EachOutcome M.Area). after_each u (w ∷ ws) d.said d.area s) (each-said M u s.area w ws j e)
        ∙ put_first j x.said b x.area
        ∙ ap (λ (d : Said Joining). after_each u ws x.said x.area (after_join u w d b s)) (sym e)
        ∙ ap (λ (a : M.Area). after_each u ws (join_each M a u ws).said (join_each M a u ws).area (after M s (Call.joining u w)))
        (sym (join-area s u w))

-- ---- the calls keep the invariant

module _ (M : Machine) (L : Faithful M) (n : ℕ) where
  join-whole : (s : State M.Area) → Whole M n s → (u v : ℕ) → Whole M n (after M s (Call.joining u v))
  unfolding after
  join-whole s W u v = go (dec_lt u n) (dec_lt v n)
    where
      w : View
      w = M.view s.area

      kept : u < n → v < n → Joins n (M.view s.area) s.slips s.merges W.forest.head u v
          → Whole M n (after M s (Call.joining u v))
      kept k l (inl t) =
          let e : join_book M s.area u v ≡ outcome (gives same) s.area = unfold join_book write_book in
          ap (λ d. write_book M d s.area) t.0 in
          rw e (sound-already n w _ _ W u v k l t.1)
      kept k l (inr t) =
          let e : join_book M s.area u v ≡ outcome (gives merged) (M.merged t.0 t.1 (w.size t.0 + w.size t.1) s.area)
          = unfold join_book write_book in ap (λ d. write_book M d s.area) t.2 in
          rw e (sound-merged M L n s.area _ _ W u v k l t.0 t.1 t.3 t.4 t.5)

      out : (n ≤ u) ⊎ (n ≤ v) → Whole M n (after M s (Call.joining u v))
      out o =
          let e : join_book M s.area u v ≡ outcome (refuses (plain not_there)) s.area = unfold join_book write_book in
          ap (λ d. write_book M d s.area) (join-outside n w _ _ W u v o) in
          rw e W

      go : Dec (u < n) → Dec (v < n) → Whole M n (after M s (Call.joining u v))
      go (yes k) (yes l) = kept k l (joins n w _ _ W u v k l)
      go (yes k) (no l) = out (inr (omega arith))
      go (no k) d = out (inl (omega arith))

  each-whole : (s : State M.Area) → Whole M n s → (u : ℕ) (ws : List ℕ) → Whole M n (after M s (Call.joining_each u ws))
  each-whole s W u [] = subst (Whole M n) (sym (each-nothing M s u)) W
  each-whole s W u (w ∷ ws) = go (join_book M s.area u w).said refl (each-whole (after M s (Call.joining u w)) (join-whole s W u w) u ws)
    where
      go : (d : Said Joining) → (join_book M s.area u w).said ≡ d
          → Whole M n (after M (after M s (Call.joining u w)) (Call.joining_each u ws))
          → Whole M n (after M s (Call.joining_each u (w ∷ ws)))
      go (gives j) e ih = subst (Whole M n) (sym (each_goes M s u w ws j e)) ih
      go (refuses r) e ih = subst (Whole M n) (sym (each-ends M s u w ws r e)) (join-whole s W u w)

  pub after-whole : (s : State M.Area) → Whole M n s → (c : Call) → Whole M n (after M s c)
  unfolding after
  after-whole s W Call.opening = rw (open_is M s.area W.fit) (sound-open M L n s.area [] 0 W.fit W.count)
  after-whole s W (Call.joining u v) = join-whole s W u v
  after-whole s W (Call.joining_each u ws) = each-whole s W u ws
  after-whole s W (Call.heading v) = W
  after-whole s W (Call.comparing u v) = W
  after-whole s W (Call.sizing v) = W
  after-whole s W Call.counting = W
  after-whole s W (Call.limiting v) = W

  pub run-whole : (s : State M.Area) → Whole M n s → (cs : List Call) → Whole M n (run M s cs)
  unfolding run
  run-whole s W [] = W
  run-whole s W (c ∷ cs) = run-whole (after M s c) (after-whole s W c) cs

-- ---- what holds of a book that keeps the invariant

module _ (M : Machine) (n : ℕ) (s : State M.Area) (W : Whole M n s) where
  head-is : (v : ℕ) → v < n → head_at (M.view s.area) v ≡ W.forest.head v
  head-is v l = ap head_in (walk_is n _ _ _ W v l)

  moves-are : (v : ℕ) → v < n → moves_at (M.view s.area) v ≡ W.forest.depth v
  moves-are v l = ap moves_in (walk_is n _ _ _ W v l)

  members-are : (v : ℕ) → v < n → members (M.view s.area) v ≡ (M.view s.area).size (W.forest.head v)
  members-are v l =
      rw W.count
      (tally-same (λ x. eqb (head_in (walk_from (M.view s.area).next n x)) (head_in (walk_from (M.view s.area).next n v)))
      (λ x. eqb (W.forest.head x) (W.forest.head v)) n
      (λ x k. ap₂ eqb (rw W.count at (head-is x k)) (rw W.count at (head-is v l)))
      ∙ sym (size-group n _ _ _ W v l))

  kept-linked : (u v : ℕ) → u < n → v < n → (head_at (M.view s.area) u ≡ head_at (M.view s.area) v) ↔ Linked (Accepted s.slips) u v
  kept-linked u v k l = rw (head-is u k, head-is v l) (linked-iff n _ _ _ W u v k l)

  -- a join of two vertices of the book finds one group where their heads are equal, else it merges two
  join-said : (u v : ℕ) → u < n → v < n → (join_book M s.area u v).said
      ≡ gives (cond (eqb (head_at (shown M s) u) (head_at (shown M s) v)) same merged)
  unfolding join_book write_book
  join-said u v k l = rw (head-is u k, head-is v l) (go (joins n _ _ _ W u v k l))
    where
      g : ℕ → ℕ
      g = W.forest.head

      say : (d : Said Step) → decide (shown M s) u v ≡ d → (t : Bool) → eqb (g u) (g v) ≡ t
          → (write_book M d s.area).said ≡ gives (cond t same merged)
          → (write_book M (decide (shown M s) u v) s.area).said ≡ gives (cond (eqb (g u) (g v)) same merged)
      say d e t f q = rw (e, f) q

      apart : (t d : ℕ) → (t ≡ d → ⊥) → Whose g u v t d → g u ≡ g v → ⊥
      apart t d a (inl p) q = a (sym p.0 ∙ q ∙ p.1)
      apart t d a (inr p) q = a (sym p.1 ∙ sym q ∙ p.0)

      go : Joins n (shown M s) s.slips s.merges g u v
          → (write_book M (decide (shown M s) u v) s.area).said ≡ gives (cond (eqb (g u) (g v)) same merged)
      go (inl t) = say _ t.0 true (eq-eqb _ _ t.1) refl
      go (inr t) = say _ t.2 false (ne_eqb _ _ (apart t.0 t.1 t.3.apart t.4)) refl

  size-range : (v : ℕ) → v < n → (0 < members (M.view s.area) v) × (members (M.view s.area) v ≤ most_vertices)
  size-range v l = (
    omega (arith, members-are v l, size-pos n _ _ _ W v l),
    omega (
      arith,
      W.within,
      W.count,
      tally-le (λ x. eqb (head_at (M.view s.area) x) (head_at (M.view s.area) v))
          (M.view s.area).count,
    ),
  )

  kept-limited : (v : ℕ) → v < n
      → (k : ℕ) × (answer M s (Call.limiting v) ≡ Answer.reads (gives k)) × (2 ^ k ≤ members (M.view s.area) v)
      × (members (M.view s.area) v < 2 ^ suc k)
      × (moves_at (M.view s.area) v ≤ k)
  unfolding answer
  kept-limited v l =
      let r = size-range v l in
      let c = members (M.view s.area) v in (
        largest most_moves c,
        ap Answer.reads (limit-answer n _ _ _ W v l ∙ ap (λ (x : ℕ). gives (largest most_moves x)) (sym (members-are v l))),
        largest-low c r.0 r.1,
        largest-high c r.0 r.1,
        largest-most c (moves_at (M.view s.area) v) r.0 r.1 (rw (moves-are v l, members-are v l) (W.forest.deep v l)),
      )

  kept-settled : (v : ℕ) → v < n → head_at (M.view s.area) (head_at (M.view s.area) v) ≡ head_at (M.view s.area) v
  kept-settled v l = rw (head-is v l) (own-head (M.view s.area) (W.forest.head v) (head_in_lem n _ _ _ W v l).1)

  whole-kept : s.latest ≡ gives tt → AllAccepted M n s → Kept M n s
  unfolding answer
  whole-kept ready each = record {
    opened = ready;
    fit = W.fit;
    count = W.count;
    headed = λ v l. ap Answer.heads (head-answer n _ _ _ W v l
        ∙ ap₂ (λ (h k : ℕ). gives (walk_end h k)) (sym (head-is v l)) (sym (moves-are v l)));
    inside = λ v l. omega (arith, head-is v l, (head_in_lem n _ _ _ W v l).0);
    settled = kept-settled;
    linked = kept-linked;
    compared =
        λ u v k l. ap Answer.compares (same_answer n _ _ _ W u v k l
        ∙ ap₂ (λ (g h : ℕ). gives (eqb g h)) (sym (head-is u k)) (sym (head-is v l)));
    accepted = λ u v k l. ap Answer.joins (join-said u v k l);
    all_accepted = each;
    sized = λ v l. ap Answer.reads (size-answer n _ _ _ W v l ∙ ap gives (sym (members-are v l)));
    limited = kept-limited;
    counted = (ap Answer.reads (count-answer n _ _ _ W), omega (arith, W.forest.counted));
  }

-- ---- joins with each of a list

module _ (M : Machine) (L : Faithful M) (n : ℕ) where
  -- each of them is accepted
  each-accepted : (s : State M.Area) → Whole M n s → (u : ℕ) (ws : List ℕ) → u < n → all_below n ws ≡ true
      → (m : ℕ) × ((join_each M s.area u ws).said ≡ all m) × (after M s (Call.joining_each u ws) ≡ run M s (joinings u ws))
  unfolding run joinings join_each each behind
  each-accepted s W u [] k b = (0, refl, each-nothing M s u)
  each-accepted s W u (w ∷ ws) k b =
      let l : w < n = ltb-true w n (and_first (ltb w n) (all_below n ws) b) in
      let j : Joining = cond (eqb (head_at (shown M s) u) (head_at (shown M s) w)) same merged in
      let e : (join_book M s.area u w).said ≡ gives j = join-said M n s W u w k l in
      let ih = each-accepted (after M s (Call.joining u w)) (join-whole M L n s W u w) u ws k (and_second (ltb w n) (all_below n ws) b) in
      let q : (join_each M (join_book M s.area u w).area u ws).said
      ≡ all ih.0 = ap (λ (a : M.Area). (join_each M a u ws).said) (sym (join-area M s u w)) ∙ ih.1 in (
        ih.0 + merges_by j,
        ap (λ (d : EachOutcome M.Area). d.said) (each-said M u s.area w ws j e) ∙ ap (counted 1 (merges_by j)) q,
        each_goes M s u w ws j e ∙ ih.2,
      )

  every-accepted : (s : State M.Area) → Whole M n s → AllAccepted M n s
  unfolding answer after
  every-accepted s W u ws k b =
      let t = each-accepted s W u ws k b in
      let q : s.merges + t.0 ≡ (run M s (joinings u ws)).merges
      = ap (λ (x : Each). s.merges + merges_of x) (sym t.1) ∙ ap (λ (x : State M.Area). x.merges) t.2 in
      let p : t.0 ≡ (run M s (joinings u ws)).merges - s.merges = omega arith in
      (ap Answer.joins_each (t.1 ∙ ap all p), t.2)

-- ---- the theorem

-- what the latest opening said, after calls on a book that keeps the invariant
module _ (M : Machine) (L : Faithful M) (n : ℕ) where
  after-latest : (s : State M.Area) → Whole M n s → s.latest ≡ gives tt → (c : Call) → (after M s c).latest ≡ gives tt
  unfolding after
  after-latest s W e Call.opening = rw (open_is M s.area W.fit)
  after-latest s W e (Call.joining u v) = go (join_book M s.area u v).said
    where
      go : (d : Said Joining) → (after_join u v d (join_book M s.area u v).area s).latest ≡ gives tt
      go (gives merged) = e
      go (gives same) = e
      go (refuses r) = e
  after-latest s W e (Call.joining_each u ws) = e
  after-latest s W e (Call.heading v) = e
  after-latest s W e (Call.comparing u v) = e
  after-latest s W e (Call.sizing v) = e
  after-latest s W e Call.counting = e
  after-latest s W e (Call.limiting v) = e

  run-latest : (s : State M.Area) → Whole M n s → s.latest ≡ gives tt → (cs : List Call) → (run M s cs).latest ≡ gives tt
  unfolding run
  run-latest s W e [] = e
  run-latest s W e (c ∷ cs) = run-latest (after M s c) (after-whole M L n s W c) (after-latest s W e c) cs

pub demand3 : (M : Machine) → Faithful M → Demand3 M
unfolding run after
demand3 M L s f cs =
    let n = (M.view s.area).count in
    let W : Whole M n (after M s Call.opening) = rw (open_is M s.area f) (sound-open M L n s.area [] 0 f refl) in
    let e : (after M s Call.opening).latest ≡ gives tt = rw (open_is M s.area f) in
    let K = run-whole M L n _ W cs in
    whole-kept M n _ K (run-latest M L n _ W e cs) (every-accepted M L n _ K)
