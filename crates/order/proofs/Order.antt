-- Change K11: the order of entry changes no group, and no further call separates two of one group. Both follow from demand 3.
-- Assumes nothing.
use mathlib.Core.Path.{◌≡◌, refl, sym, ap, ◌∙◌, subst}
use mathlib.Core.List.Memᴰ
use mathlib.Core.List.{List, [], ◌∷◌, ◌++◌}
use mathlib.Core.Bool.{true, false}
use mathlib.Core.Logic.{◌⊎◌, inl, inr, ⊎_elim}
use Prim.Native.Nat.{ℕ, ◌≤◌, ◌<◌}
use native.Mathlib.Omega.{arith}
use native.Mathlib.Decide.{dec_le, dec_lt}
use lib.IntN.{ℤ}
use lib.ListN.{length}
use lib.Dec.{eqb}
use borrow.Author.Tests.{lt-leb, eq-eqb, eqb-true}
use Rattle.basis.specs.Limits.{most_vertices}
use Rattle.basis.specs.Refusal.{Said, gives, refuses, plain, no_room, not_there, onward}
use Rattle.basis.specs.Closure.{Linked, by, back}
use Rattle.basis.proofs.Closures.{linked-through, linked-within}
use Rattle.basis.proofs.Tests.{clash, eqb-by}
use Rattle.basis.proofs.Saids.{onward-passed}
use Rattle.book.specs.Rules.{View, Machine, walk_end, Joining, merged, same, is_stop, tally, head_of, heads_of}
use Rattle.book.specs.Rules.{one_head, same_group, size_at, group_size, group_count, limit_of, step_limit}
use Rattle.book.specs.Rules.{Outcome, EachOutcome, open_book, join_book, join_each}
use Rattle.book.specs.One.{one, one_book}
use Rattle.book.specs.Series.{Call, Answer, Slip, State, Accepted, Kept, joined_of, after, after_join, run, answer}
use Rattle.book.specs.Series.{head_at, moves_at, members, shown}
use Rattle.order.specs.Order.{SamePairs, GroupsAgree, OrderFree, NeverApart}
use Rattle.book.proofs.Walks.{walk_from-in, stop-of}
use Rattle.book.proofs.Tally.{tally-same}
use Rattle.book.proofs.Calls.{head-inside, head-unlent, head-missing, heads-inside, heads-unlent, heads-outside, count-unlent, count-is}
use Rattle.book.proofs.Answers.{open-unchanged}
use Rattle.book.proofs.Series.{own-head, open-area, join-area, run-snoc}
use Rattle.book.proofs.OneBook.{demand3-one}
use Rattle.book.proofs.Each.{join-lost, each-unlent}
use Rattle.book.proofs.Held.{put-old}
use Rattle.order.proofs.Counts.{tally-into}

-- ---- the same pairs link the same vertices
pairs-linked : {js ks : List Slip} → SamePairs js ks → {u v : ℕ} → Linked (Accepted js) u v → Linked (Accepted ks) u v
pairs-linked p l = linked-through (λ x y m. ⊎_elim (λ k. by k) (λ k. back (by k)) ((p x y).0 (inl m))) l

-- ---- a book and its heads
own : (w : View) (v : ℕ) → is_stop (w.next v) ≡ true → head_at w v ≡ v
own w v e = own-head w v (stop-of _ true (sym e) refl)

module _ (M : Machine) (n : ℕ) (s : State M.Area) (K : Kept M n s) where
  -- a walk ends at a head
  at_head : (v : ℕ) → v < n → is_stop ((shown M s).next (head_at (shown M s) v)) ≡ true
  unfolding answer
  at_head v l =
      let f = walk_end (head_at (shown M s) v) (moves_at (shown M s) v) in
      let q : Answer.heads (head_of (shown M s) v) ≡ Answer.heads (gives f) = K.headed v l in
      let t = head-inside (shown M s) v f cc in
      ap is_stop (walk_from-in (shown M s).next (shown M s).count v f t.1 t.2).1

  -- the count is the heads'
  count-heads : gives (tally (λ v. is_stop ((shown M s).next v)) n) ≡ group_count (shown M s)
  count-heads =
      count-is (shown M s) true (sym K.fit) (tally (λ v. is_stop ((shown M s).next v)) n) refl (rw K.count refl)

  -- a number that is no vertex has no size
  size_none : (v : ℕ) → n ≤ v → group_size (shown M s) v ≡ refuses (plain not_there)
  unfolding group_size
  size_none v o =
      ap (λ d. onward d (size_at (shown M s)))
      (sym (head-missing (shown M s) v true (sym K.fit) (plain not_there) refl (omega (arith, K.count)) refl))

-- ---- two books of n vertices in which the same pairs were joined
record Twins (M : Machine) (n : ℕ) (s t : State M.Area) : Type 0 where
  first : Kept M n s
  second : Kept M n t
  pairs : SamePairs s.slips t.slips

module _ (M : Machine) (n : ℕ) where
  turned : {s t : State M.Area} → Twins M n s t → Twins M n t s
  turned T = record { first = T.second; second = T.first; pairs = λ u v. ((T.pairs u v).1, (T.pairs u v).0) }

  one-head : {s t : State M.Area} → Twins M n s t → (u v : ℕ) → u < n → v < n → head_at (shown M s) u ≡ head_at (shown M s) v
      → head_at (shown M t) u ≡ head_at (shown M t) v
  one-head T u v k l e = (T.second.linked u v k l).1 (pairs-linked T.pairs ((T.first.linked u v k l).0 e))

  -- a head of the first goes to its head in the second, and no two to one
  heads-into : {s t : State M.Area} → Twins M n s t
      → tally (λ v. is_stop ((shown M s).next v)) n ≤ tally (λ v. is_stop ((shown M t).next v)) n
  heads-into {s} {t} T =
      tally-into (λ v. is_stop ((shown M s).next v)) (λ v. is_stop ((shown M t).next v)) (head_at (shown M t)) n n
      (λ v l _. (T.second.inside v l, at_head M n t T.second v l))
      (λ u v k l p q e. sym (own (shown M s) u p) ∙ one-head (turned T) u v k l e ∙ own (shown M s) v q)

module _ (M : Machine) (n : ℕ) (s t : State M.Area) (T : Twins M n s t) where
  counts_same : group_count (shown M s) ≡ group_count (shown M t)
  counts_same =
      let e : tally (λ v. is_stop ((shown M s).next v)) n ≡ tally (λ v. is_stop ((shown M t).next v)) n
      = omega (arith, heads-into M n T, heads-into M n (turned M n T)) in
      sym (count-heads M n s T.first) ∙ ap gives e ∙ count-heads M n t T.second

  heads-same : (u v : ℕ) → u < n → v < n
      → eqb (head_at (shown M s) u) (head_at (shown M s) v) ≡ eqb (head_at (shown M t) u) (head_at (shown M t) v)
  heads-same u v k l = eqb-by _ _ _ _ (one-head M n T u v k l) (one-head M n (turned M n T) u v k l)

  groups-same : (u v : ℕ) → same_group (shown M s) u v ≡ same_group (shown M t) u v
  unfolding answer same_group
  groups-same u v = go (dec_lt u n) (dec_lt v n)
    where
      Same : Type 0
      Same = onward (heads_of (shown M s) u v) one_head ≡ onward (heads_of (shown M t) u v) one_head

      none : (r : State M.Area) → Kept M n r → (n ≤ u) ⊎ (n ≤ v) → heads_of (shown M r) u v ≡ refuses (plain not_there)
      none r K o = heads-outside (shown M r) u v n K.fit K.count o

      out : (n ≤ u) ⊎ (n ≤ v) → Same
      out o = ap (λ d. onward d one_head) (none s T.first o ∙ sym (none t T.second o))

      go : Dec (u < n) → Dec (v < n) → Same
      go (yes k) (yes l) =
          let e = T.first.compared u v k l ∙ ap (λ b. Answer.compares (gives b)) (heads-same u v k l)
          ∙ sym (T.second.compared u v k l) in
          cc
      go (yes k) (no l) = out (inr (omega arith))
      go (no k) d = out (inl (omega arith))

  members-same : (v : ℕ) → v < n → members (shown M s) v ≡ members (shown M t) v
  members-same v l =
      ap (tally (λ x. eqb (head_at (shown M s) x) (head_at (shown M s) v))) T.first.count
      ∙ tally-same _ _ n (λ x k. heads-same x v k l)
      ∙ sym (ap (tally (λ x. eqb (head_at (shown M t) x) (head_at (shown M t) v))) T.second.count)

  sizes-same : (v : ℕ) → group_size (shown M s) v ≡ group_size (shown M t) v
  unfolding answer
  sizes-same v = go (dec_lt v n)
    where
      go : Dec (v < n) → group_size (shown M s) v ≡ group_size (shown M t) v
      go (yes l) =
          let e = T.first.sized v l ∙ ap (λ (k : ℕ). Answer.reads (gives k)) (members-same v l) ∙ sym (T.second.sized v l) in cc
      go (no l) = size_none M n s T.first v (omega arith) ∙ sym (size_none M n t T.second v (omega arith))

-- ---- an area that is not well lent: no call changes it
after-unlent : (s : State (List ℤ)) → (one s.area).fit ≡ false → (c : Call) → (after one_book s c).area ≡ s.area
unfolding after join_each one
after-unlent s f Call.opening = open-area one_book s ∙ open-unchanged one_book s.area (plain no_room) (unfold open_book in simp f)
after-unlent s f (Call.joining u v) =
    join-area one_book s u v
    ∙ sym (ap (λ (d : Outcome Joining (List ℤ)). d.area) (join-lost one_book s.area u v (plain no_room)
    (heads-unlent (one s.area) u v false (sym f) _ refl refl)))
after-unlent s f (Call.joining_each u []) = refl
after-unlent s f (Call.joining_each u (w ∷ ws)) =
    sym (ap (λ (d : EachOutcome (List ℤ)). d.area) (each-unlent s.area u false (sym f) (w ∷ ws) (λ e. omega arith) _ refl refl))
after-unlent s f (Call.heading v) = refl
after-unlent s f (Call.comparing u v) = refl
after-unlent s f (Call.sizing v) = refl
after-unlent s f Call.counting = refl
after-unlent s f (Call.limiting v) = refl

run-unlent : (s : State (List ℤ)) → (one s.area).fit ≡ false → (cs : List Call) → (one (run one_book s cs).area).fit ≡ false
unfolding run
run-unlent s f [] = f
run-unlent s f (c ∷ cs) = run-unlent (after one_book s c) (ap (λ a. (one a).fit) (after-unlent s f c) ∙ f) cs

-- ---- the order of entry
agree : (s t : State (List ℤ)) → ((u v : ℕ) → same_group (one s.area) u v ≡ same_group (one t.area) u v)
    → ((v : ℕ) → group_size (one s.area) v ≡ group_size (one t.area) v) → group_count (one s.area) ≡ group_count (one t.area)
    → GroupsAgree s t
unfolding answer step_limit
agree s t c z k = record {
  compared = λ u v. ap Answer.compares (c u v);
  sized = λ v. ap Answer.reads (z v);
  counted = ap Answer.reads k;
  limited = λ v. ap (λ d. Answer.reads (onward d limit_of)) (z v);
}

unlent-agree : (s t : State (List ℤ)) → (one s.area).fit ≡ false → (one t.area).fit ≡ false → GroupsAgree s t
unlent-agree s t f g =
    let w = one s.area in
    let x = one t.area in
    agree s t
    (λ u v. unfold same_group in
    ap (λ d. onward d one_head) (sym (heads-unlent w u v false (sym f) _ refl refl) ∙ heads-unlent x u v false (sym g) _ refl refl))
    (λ v. unfold group_size in
    ap (λ d. onward d (size_at w)) (sym (head-unlent w v false (sym f) _ refl refl))
    ∙ ap (λ d. onward d (size_at x)) (head-unlent x v false (sym g) _ refl refl))
    (sym (count-unlent w false (sym f) _ refl refl) ∙ count-unlent x false (sym g) _ refl refl)

-- an area that is too long
unlent : (xs : List ℤ) → (length xs ≤ most_vertices → ⊥) → (one xs).fit ≡ false
unfolding one
unlent xs k = lt-leb (length xs) most_vertices (omega arith)

pub order-free : OrderFree
order-free s t e cs ds P = go (dec_le (length s.area) most_vertices)
  where
    twins : length s.area ≤ most_vertices
        → Twins one_book (length s.area) (run one_book s (Call.opening ∷ cs)) (run one_book t (Call.opening ∷ ds))
    twins l = record {
      first = demand3-one s l cs;
      second = subst (λ (n : ℕ). Kept one_book n (run one_book t (Call.opening ∷ ds))) (sym e) (demand3-one t (omega (arith, e)) ds);
      pairs = P l;
    }

    go : Dec (length s.area ≤ most_vertices) → GroupsAgree (run one_book s (Call.opening ∷ cs)) (run one_book t (Call.opening ∷ ds))
    go (yes l) =
        agree _ _ (groups-same one_book _ _ _ (twins l)) (sizes-same one_book _ _ _ (twins l)) (counts_same one_book _ _ _ (twins l))
    go (no k) =
        unlent-agree _ _ (run-unlent s (unlent s.area k) _)
        (run-unlent t (unlent t.area (λ l. k (omega (arith, e)))) _)

-- ---- a further call
module _ (M : Machine) where
  -- keeps the joins that were accepted
  slips-kept : (s : State M.Area) (c : Call) → (c ≡ Call.opening → ⊥) → (x y : ℕ) → Accepted s.slips x y
      → Accepted (after M s c).slips x y
  unfolding after
  slips-kept s Call.opening d x y m = absurd (d refl)
  slips-kept s (Call.joining u v) d x y m = go (join_book M s.area u v).said
    where
      go : (j : Said Joining) → Accepted (after_join u v j (join_book M s.area u v).area s).slips x y
      go (gives merged) = Memᴰ.tail m
      go (gives same) = Memᴰ.tail m
      go (refuses r) = m
  slips-kept s (Call.joining_each u ws) d x y m = put-old u (joined_of ws (join_each M s.area u ws).said) _ _ m
  slips-kept s (Call.heading v) d x y m = m
  slips-kept s (Call.comparing u v) d x y m = m
  slips-kept s (Call.sizing v) d x y m = m
  slips-kept s Call.counting d x y m = m
  slips-kept s (Call.limiting v) d x y m = m

  -- and the groups
  kept-together : (n : ℕ) (s : State M.Area) (c : Call) → Kept M n s → Kept M n (after M s c) → (c ≡ Call.opening → ⊥) → (u v : ℕ)
      → u < n → v < n → answer M s (Call.comparing u v) ≡ Answer.compares (gives true)
      → answer M (after M s c) (Call.comparing u v) ≡ Answer.compares (gives true)
  kept-together n s c K J d u v k l e =
      let q : Answer.compares (gives (eqb (head_at (shown M s) u) (head_at (shown M s) v))) ≡ Answer.compares (gives true)
      = sym (K.compared u v k l) ∙ e in
      let h : eqb (head_at (shown M s) u) (head_at (shown M s) v) ≡ true = cc in
      let g = (J.linked u v k l).1 (linked-within (slips-kept s c d) ((K.linked u v k l).0 (eqb-true _ _ h))) in
      J.compared u v k l ∙ ap (λ b. Answer.compares (gives b)) (eq-eqb _ _ g)

  -- what is compared is of the book
  compared-inside : (s : State M.Area) (u v : ℕ) → answer M s (Call.comparing u v) ≡ Answer.compares (gives true)
      → ((shown M s).fit ≡ true) × (u < (shown M s).count) × (v < (shown M s).count)
  unfolding answer same_group
  compared-inside s u v e =
      let p = onward-passed (heads_of (shown M s) u v) one_head true cc in
      let t = heads-inside (shown M s) u v p.0.first p.0.second p.1 in
      (t.0, t.1, t.2)

pub never-apart : NeverApart
never-apart s cs c d u v e = go (dec_le (length s.area) most_vertices)
  where
    r : State (List ℤ)
    r = run one_book s (Call.opening ∷ cs)

    i : ((shown one_book r).fit ≡ true) × (u < (shown one_book r).count) × (v < (shown one_book r).count)
    i = compared-inside one_book r u v e

    go : Dec (length s.area ≤ most_vertices) → answer one_book (after one_book r c) (Call.comparing u v) ≡ Answer.compares (gives true)
    go (yes l) =
        let K = demand3-one s l cs in
        let J = subst (Kept one_book _) (run-snoc one_book s (Call.opening ∷ cs) c) (demand3-one s l (cs ++ (c ∷ []))) in
        kept-together one_book _ r c K J d u v (omega (arith, i.1, K.count)) (omega (arith, i.2, K.count)) e
    go (no k) = clash i.0 (run-unlent s (unlent s.area k) (Call.opening ∷ cs))
