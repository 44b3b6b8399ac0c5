-- Two books, of any form, whose areas show the same give equal answers, and go on to show the same. So from an opening on the book of one
-- area answers as that of two. Assumes nothing.
use mathlib.Core.Path.{◌≡◌, refl, sym, ap, ap₂, ◌∙◌}
use mathlib.Core.List.{List, [], ◌∷◌}
use mathlib.Core.Bool.{Bool, true, false, ◌&&◌}
use Prim.Native.Nat.{ℕ, zero, suc, ◌+◌, ◌<◌}
use native.Mathlib.Omega.{arith}
use native.Mathlib.Decide.{dec_lt, ℕ_discrete}
use lib.Dec.{ltb, leb}
use borrow.Author.Tests.{ltb-true}
use Rattle.basis.specs.Limits.{most_vertices}
use Rattle.basis.specs.Refusal.{Said, gives, refuses, no_room, not_there, unsound, check, onward}
use Rattle.basis.proofs.Tests.{clash, no-case}
use Rattle.basis.proofs.Saids.{check-on, check-off, onward-passed}
use Rattle.book.specs.Rules.{most_moves, Next, stop, to, View, WalkEnd, Heads, Step, already, merge, Joining, merged, same}
use Rattle.book.specs.Rules.{Machine, EachOutcome, counted, behind, and_on, walk, walk_from, is_stop, tally}
use Rattle.book.specs.Rules.{head_of, pair, heads_of, one_head, same_group, size_at, group_size, group_count, limit_of, step_limit}
use Rattle.book.specs.Rules.{link_heads, decide, open_book, write_book, join_book, join_each}
use Rattle.book.specs.Series.{Call, Answer, State, after, answer, answers, AnswersAsTwo}
use Rattle.book.specs.One.{one, one_book}
use Rattle.book.specs.Two.{two, two_book}
use Rattle.book.proofs.Walks.{walk-head, walk-move, walk-late, walk-out, walk_from-in}
use Rattle.book.proofs.Calls.{head-inside, heads-inside, heads-below}
use Rattle.book.proofs.Joins.{link-merged}
use Rattle.book.proofs.Tally.{tally-same}
use Rattle.book.proofs.Faithful.{Mergeable, Faithful}
use Rattle.book.proofs.Series.{open-area, join-area}
use Rattle.book.proofs.OneBook.{faithful-one}
use Rattle.book.proofs.TwoBook.{fits-is, faithful-two}

-- two books show the same: where their walks go and, at heads, the sizes. Areas that are not well lent are not looked at
pub record Agree (w x : View) : Type 0 where
  pub fit : w.fit ≡ x.fit
  pub count : w.count ≡ x.count
  pub next : w.fit ≡ true → (v : ℕ) → v < w.count → w.next v ≡ x.next v
  pub size : w.fit ≡ true → (v : ℕ) → v < w.count → w.next v ≡ stop → w.size v ≡ x.size v

-- ---- equal answers

-- a check of each
checks : {A : Type 0} (s t : Bool) (number : ℕ) (a b : Said A) → s ≡ t → (s ≡ true → a ≡ b) → check s number a ≡ check t number b
checks true t number a b e h = check-on true number a refl ∙ h refl ∙ sym (check-on t number b (sym e))
checks false t number a b e h = check-off false number a refl ∙ sym (check-off t number b (sym e))

-- walks that go alike end alike
walk-agree : (f g : ℕ → Next) (n : ℕ) → ((v : ℕ) → v < n → f v ≡ g v) → (left m v : ℕ) → v < n → walk f n left m v ≡ walk g n left m v
walk-agree f g n h zero m v l = go (f v) refl
  where
    go : (x : Next) → f v ≡ x → walk f n zero m v ≡ walk g n zero m v
    go stop e = walk-head f n zero m v e ∙ sym (walk-head g n zero m v (sym (h v l) ∙ e))
    go (to p) e = walk-late f n m v p e ∙ sym (walk-late g n m v p (sym (h v l) ∙ e))
walk-agree f g n h (suc left) m v l = go (f v) refl (λ p k. walk-agree f g n h left (m + 1) p k)
  where
    go : (x : Next) → f v ≡ x → ((p : ℕ) → p < n → walk f n left (m + 1) p ≡ walk g n left (m + 1) p)
        → walk f n (suc left) m v ≡ walk g n (suc left) m v
    go stop e ih = walk-head f n (suc left) m v e ∙ sym (walk-head g n (suc left) m v (sym (h v l) ∙ e))
    go (to p) e ih =
        elim (dec_lt p n) [
          | yes y ↦ walk-move f n left m v p e y ∙ ih p y ∙ sym (walk-move g n left m v p (sym (h v l) ∙ e) y)
          | no k ↦ walk-out f n (suc left) m v p e (omega arith) ∙ sym (walk-out g n (suc left) m v p (sym (h v l) ∙ e) (omega arith))
        ]

module _ (w x : View) (A : Agree w x) where
  from-agree : w.fit ≡ true → (v : ℕ) → ltb v w.count ≡ true → walk_from w.next w.count v ≡ walk_from x.next x.count v
  unfolding walk_from
  from-agree f v l =
      walk-agree w.next x.next w.count (A.next f) most_moves 0 v (ltb-true v w.count l)
      ∙ ap (λ (n : ℕ). walk x.next n most_moves 0 v) A.count

  -- a vertex of both
  in_both : {B : Type 0} (v : ℕ) (a b : Said B) → (ltb v w.count ≡ true → a ≡ b)
      → check (ltb v w.count) not_there a ≡ check (ltb v x.count) not_there b
  in_both v a b h = checks (ltb v w.count) (ltb v x.count) not_there a b (ap (ltb v) A.count) h

  head-agree : (v : ℕ) → head_of w v ≡ head_of x v
  unfolding head_of
  head-agree v = checks w.fit x.fit no_room _ _ A.fit (λ f. in_both v _ _ (from-agree f v))

  heads-agree : (u v : ℕ) → heads_of w u v ≡ heads_of x u v
  unfolding heads_of
  heads-agree u v =
      checks w.fit x.fit no_room _ _ A.fit
      (λ f. in_both u _ _ (λ k. in_both v _ _ (λ l. ap₂ pair (from-agree f u k) (from-agree f v l))))

  same-agree : (u v : ℕ) → same_group w u v ≡ same_group x u v
  unfolding same_group
  same-agree u v = ap (λ s. onward s one_head) (heads-agree u v)

  size-agree : (v : ℕ) → group_size w v ≡ group_size x v
  unfolding group_size
  size-agree v = go (head_of w v) refl ∙ ap (λ s. onward s (size_at x)) (head-agree v)
    where
      sized : ℕ → ℕ → Said ℕ
      sized n a = check (ltb 0 a && leb a n) unsound (gives a)

      go : (s : Said WalkEnd) → head_of w v ≡ s → onward (head_of w v) (size_at w) ≡ onward (head_of w v) (size_at x)
      go (gives f) e =
          let t = head-inside w v f e in
          let q = walk_from-in w.next w.count v f t.1 t.2 in
          rw e (ap₂ sized A.count (A.size t.0 f.head q.0 q.1))
      go (refuses r) e = rw e

  limit-agree : (v : ℕ) → step_limit w v ≡ step_limit x v
  unfolding step_limit
  limit-agree v = ap (λ s. onward s limit_of) (size-agree v)

  count-agree : group_count w ≡ group_count x
  unfolding group_count
  count-agree =
      checks w.fit x.fit no_room _ _ A.fit
      (λ f. ap gives (tally-same (λ v. is_stop (w.next v)) (λ v. is_stop (x.next v)) w.count (λ v l. ap is_stop (A.next f v l))
      ∙ ap (tally (λ v. is_stop (x.next v))) A.count))

  decide-agree : (u v : ℕ) → decide w u v ≡ decide x u v
  unfolding decide
  decide-agree u v = go (heads_of w u v) refl ∙ ap (λ s. onward s (link_heads x)) (heads-agree u v)
    where
      go : (s : Said Heads) → heads_of w u v ≡ s → onward (heads_of w u v) (link_heads w) ≡ onward (heads_of w u v) (link_heads x)
      go (gives p) e =
          let t = heads-below w u v p.first p.second e in
          let f = (heads-inside w u v p.first p.second e).0 in
          rw e (unfold link_heads in simp (A.count, A.size f p.first t.0 t.1, A.size f p.second t.2 t.3))
      go (refuses r) e = rw e

-- what a join merges can be merged
decide-merged : (w : View) (u v t d s : ℕ) → decide w u v ≡ gives (merge t d s) → Mergeable w t d s
unfolding decide
decide-merged w u v t d s e =
    let p = onward-passed (heads_of w u v) (link_heads w) (merge t d s) e in
    (link-merged w u v p.0.first p.0.second p.1 t d s p.2).0

-- ---- two forms of book
module _ (M N : Machine) (F : Faithful M) (G : Faithful N) where
  -- their areas show the same
  abbrev Alike : M.Area → N.Area → Type 0
  Alike a b = Agree (M.view a) (N.view b)

  opened-alike : (a : M.Area) (b : N.Area) → (M.view a).fit ≡ true → (N.view b).fit ≡ true → (M.view a).count ≡ (N.view b).count
      → Alike (M.opened a) (N.opened b)
  opened-alike a b f g e = record {
    fit = F.opened-fit a f ∙ sym (G.opened-fit b g);
    count = F.opened-count a ∙ e ∙ sym (G.opened-count b);
    next = λ _ v l. F.opened-next a v (omega (arith, F.opened-count a)) ∙ sym (G.opened-next b v (omega (arith, F.opened-count a, e)));
    size = λ _ v l _.
        F.opened-size a v (omega (arith, F.opened-count a)) ∙ sym (G.opened-size b v (omega (arith, F.opened-count a, e)));
  }

  -- an opening, whatever the areas hold
  open-alike : (a : M.Area) (b : N.Area) → (M.view a).fit ≡ (N.view b).fit → (M.view a).count ≡ (N.view b).count
      → ((open_book M a).said ≡ (open_book N b).said) × Alike (open_book M a).area (open_book N b).area
  unfolding open_book
  open-alike a b e c = go (M.view a).fit refl
    where
      go : (t : Bool) → (M.view a).fit ≡ t → ((open_book M a).said ≡ (open_book N b).said) × Alike (open_book M a).area (open_book N b).area
      go true f = rw (f, sym e ∙ f) (refl, opened-alike a b f (sym e ∙ f) c)
      go false f =
          rw (f, sym e ∙ f) (refl, record { fit = e; count = c; next = λ t v l. clash t f; size = λ t v l h. clash t f })

  merged-alike : (a : M.Area) (b : N.Area) → Alike a b → (t d s : ℕ) → Mergeable (M.view a) t d s
      → Alike (M.merged t d s a) (N.merged t d s b)
  merged-alike a b A t d s k = record {
    fit = F.merged-fit a t d s ∙ A.fit ∙ sym (G.merged-fit b t d s);
    count = F.merged-count a t d s ∙ A.count ∙ sym (G.merged-count b t d s);
    next = λ _ v l. next v (omega (arith, F.merged-count a t d s)) (ℕ_discrete v d);
    size = λ _ v l e. size v (omega (arith, F.merged-count a t d s)) e (ℕ_discrete v t) (ℕ_discrete v d);
  }
    where
      j : Mergeable (N.view b) t d s
      j = record {
        fit = sym A.fit ∙ k.fit;
        top_in = omega (arith, k.top_in, A.count);
        under-in = omega (arith, k.under-in, A.count);
        apart = k.apart;
        top_head = sym (A.next k.fit t k.top_in) ∙ k.top_head;
        under-head = sym (A.next k.fit d k.under-in) ∙ k.under-head;
        total-pos = k.total-pos;
      }

      next : (v : ℕ) → v < (M.view a).count → Dec (v ≡ d) → (M.view (M.merged t d s a)).next v ≡ (N.view (N.merged t d s b)).next v
      next v l (yes q) = rw q (F.merged-under a t d s k ∙ sym (G.merged-under b t d s j))
      next v l (no q) = F.merged-next a t d s k v q ∙ A.next k.fit v l ∙ sym (G.merged-next b t d s j v q)

      size : (v : ℕ) → v < (M.view a).count → (M.view (M.merged t d s a)).next v ≡ stop → Dec (v ≡ t) → Dec (v ≡ d)
          → (M.view (M.merged t d s a)).size v ≡ (N.view (N.merged t d s b)).size v
      size v l e (yes q) r = rw q (F.merged-top a t d s k ∙ sym (G.merged-top b t d s j))
      size v l e (no q) (yes r) =
          let f : to t ≡ stop = sym (F.merged-under a t d s k) ∙ ap (M.view (M.merged t d s a)).next (sym r) ∙ e in no-case cc
      size v l e (no q) (no r) =
          F.merged-size a t d s k v q r ∙ A.size k.fit v l (sym (F.merged-next a t d s k v r) ∙ e)
          ∙ sym (G.merged-size b t d s j v q r)

  join-alike : (a : M.Area) (b : N.Area) → Alike a b → (u v : ℕ)
      → ((join_book M a u v).said ≡ (join_book N b u v).said) × Alike (join_book M a u v).area (join_book N b u v).area
  unfolding join_book write_book
  join-alike a b A u v = go (decide (M.view a) u v) refl
    where
      go : (d : Said Step) → decide (M.view a) u v ≡ d
          → ((join_book M a u v).said ≡ (join_book N b u v).said) × Alike (join_book M a u v).area (join_book N b u v).area
      go (gives already) e = rw (e, sym (decide-agree _ _ A u v) ∙ e) (refl, A)
      go (gives (merge t d s)) e =
          rw (e, sym (decide-agree _ _ A u v) ∙ e) (refl, merged-alike a b A t d s (decide-merged (M.view a) u v t d s e))
      go (refuses r) e = rw (e, sym (decide-agree _ _ A u v) ∙ e) (refl, A)

  each-alike : (a : M.Area) (b : N.Area) → Alike a b → (u : ℕ) (ws : List ℕ)
      → ((join_each M a u ws).said ≡ (join_each N b u ws).said) × Alike (join_each M a u ws).area (join_each N b u ws).area
  unfolding join_each and_on behind
  each-alike a b A u [] = (refl, A)
  each-alike a b A u (w ∷ ws) =
      let J = join-alike a b A u w in
      rw J.0 (go (join_book N b u w).said J.1 (each-alike (join_book M a u w).area (join_book N b u w).area J.1 u ws))
    where
      c : EachOutcome M.Area
      c = join_each M (join_book M a u w).area u ws

      d : EachOutcome N.Area
      d = join_each N (join_book N b u w).area u ws

      go : (s : Said Joining) → Alike (join_book M a u w).area (join_book N b u w).area
          → (c.said ≡ d.said) × Alike c.area d.area
          → ((and_on s (join_book M a u w).area c).said ≡ (and_on s (join_book N b u w).area d).said)
          × Alike (and_on s (join_book M a u w).area c).area (and_on s (join_book N b u w).area d).area
      go (gives merged) B h = (ap (counted 1 1) h.0, h.1)
      go (gives same) B h = (ap (counted 1 0) h.0, h.1)
      go (refuses r) B h = (refl, B)

  -- ---- a series of calls
  answer-alike : (s : State M.Area) (t : State N.Area) → Alike s.area t.area → (c : Call) → answer M s c ≡ answer N t c
  unfolding answer
  answer-alike s t A Call.opening = ap Answer.opens (open-alike s.area t.area A.fit A.count).0
  answer-alike s t A (Call.joining u v) = ap Answer.joins (join-alike s.area t.area A u v).0
  answer-alike s t A (Call.joining_each u ws) = ap Answer.joins_each (each-alike s.area t.area A u ws).0
  answer-alike s t A (Call.heading v) = ap Answer.heads (head-agree _ _ A v)
  answer-alike s t A (Call.comparing u v) = ap Answer.compares (same-agree _ _ A u v)
  answer-alike s t A (Call.sizing v) = ap Answer.reads (size-agree _ _ A v)
  answer-alike s t A Call.counting = ap Answer.reads (count-agree _ _ A)
  answer-alike s t A (Call.limiting v) = ap Answer.reads (limit-agree _ _ A v)

  after_open : (s : State M.Area) (t : State N.Area) → (M.view s.area).fit ≡ (N.view t.area).fit
      → (M.view s.area).count ≡ (N.view t.area).count
      → Alike (after M s Call.opening).area (after N t Call.opening).area
  after_open s t f e = rw (open-area M s, open-area N t) (open-alike s.area t.area f e).1

  after-alike : (s : State M.Area) (t : State N.Area) → Alike s.area t.area → (c : Call)
      → Alike (after M s c).area (after N t c).area
  unfolding after
  after-alike s t A Call.opening = after_open s t A.fit A.count
  after-alike s t A (Call.joining u v) = rw (join-area M s u v, join-area N t u v) (join-alike s.area t.area A u v).1
  after-alike s t A (Call.joining_each u ws) = (each-alike s.area t.area A u ws).1
  after-alike s t A (Call.heading v) = A
  after-alike s t A (Call.comparing u v) = A
  after-alike s t A (Call.sizing v) = A
  after-alike s t A Call.counting = A
  after-alike s t A (Call.limiting v) = A

  answers-alike : (s : State M.Area) (t : State N.Area) → Alike s.area t.area → (cs : List Call)
      → answers M s cs ≡ answers N t cs
  unfolding answers
  answers-alike s t A [] = refl
  answers-alike s t A (c ∷ cs) = ap₂ ◌∷◌ (answer-alike s t A c) (answers-alike (after M s c) (after N t c) (after-alike s t A c) cs)

  -- from an opening on, whatever the areas hold
  pub series-alike : (s : State M.Area) (t : State N.Area) → (M.view s.area).fit ≡ (N.view t.area).fit
      → (M.view s.area).count ≡ (N.view t.area).count → (cs : List Call)
      → answers M s (Call.opening ∷ cs) ≡ answers N t (Call.opening ∷ cs)
  unfolding answers answer
  series-alike s t f e cs =
      ap₂ ◌∷◌ (ap Answer.opens (open-alike s.area t.area f e).0)
      (answers-alike (after M s Call.opening) (after N t Call.opening) (after_open s t f e) cs)

-- Change K9: the book of one area answers as that of two
pub answers-as-two : AnswersAsTwo
unfolding one two
answers-as-two s t p q cs =
    series-alike one_book two_book faithful-one faithful-two s t
    (ap (λ (n : ℕ). leb n most_vertices) (sym p) ∙ sym (fits-is t.area.parents t.area.sizes (q ∙ sym p))) (sym p) cs
