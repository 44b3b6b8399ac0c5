-- The search over a graph of n vertices: what its loop keeps, that each turn keeps it, and that an empty queue leaves the depths.
-- Assumes nothing.
use Prim.Native.Nat.{ℕ, zero, suc, ◌+◌, ◌≤◌, ◌<◌}
use mathlib.Core.Path.{◌≡◌, refl, sym, ap, ◌∙◌, subst}
use mathlib.Core.Logic.{◌⊎◌, inl, inr, ⊎_elim}
use mathlib.Core.Bool.{true}
use mathlib.Core.List.{List, [], ◌∷◌}
use native.Mathlib.Nat.{eq-or-lt_of_le}
use native.Mathlib.Numerals.{add-one}
use native.Mathlib.Decide.{ℕ_discrete}
use native.Mathlib.Omega.{arith}
use lib.IntN.{ℤ, pos}
use lib.Signed.{mag}
use lib.ListN.{length, get_or, set, replicate, length-set, length-replicate, get_or-replicate}
use lib.Seq.{get_or-set_same, get_or-set_other}
use lib.Dec.{eqb}
use borrow.Author.Tests.{eqb-true, eqb-false}
use Rattle.basis.specs.Scan.{Inside, all_below, mem}
use Rattle.basis.proofs.Tests.{clash, bool_cases}
use Rattle.basis.proofs.Scans.{mem-none-of, mem-head, mem-tail, mem-cases, below-mem}
use Rattle.basis.proofs.Areas.{column-is}
use Rattle.bfs.specs.declared.Ring.{Ring}
use Rattle.basis.specs.Area.{infinity, unreachable}
use Rattle.bfs.specs.Depth.{depth_of, depths}
use Rattle.bfs.specs.Steps.{Board, board, is_far, entered, relaxed, relaxed_all, Queued, advanced}
use Rattle.bfs.proofs.Boards.{seen-le, seen_none, far-mark, mark-far, relaxed-new, relaxed-old, room-more, queued-relaxed}
use Rattle.bfs.proofs.Rings.{Reached, ring-root, ring-first, ring-next, ring-from, ring-below, FirstRing, depth-found, depth-none}

-- the number that stands at v: its depth, or infinity
abbrev pub hops : Board → ℕ → ℕ
hops S v = mag (get_or S.depth v (pos 0))

-- v stands in the queue at place h or behind it
pub record Waits (S : Board) (h v : ℕ) : Type 0 where
  pub place : ℕ
  pub from : h ≤ place
  pub upto : place < S.tail
  pub is : get_or S.queue place 0 ≡ v

-- what a step keeps: the depths that are there, and the queue's places
record Kept (S R : Board) : Type 0 where
  len : length R.depth ≡ length S.depth
  grows : S.tail ≤ R.tail
  depths : (x : ℕ) → hops S x < infinity → get_or R.depth x (pos 0) ≡ get_or S.depth x (pos 0)
  places : (i : ℕ) → i < S.tail → get_or R.queue i 0 ≡ get_or S.queue i 0

kept_refl : (S : Board) → Kept S S
kept_refl S = record { len = refl; grows = omega arith; depths = λ x b. refl; places = λ i b. refl }

hops-kept : {S R : Board} → Kept S R → (x : ℕ) → hops S x < infinity → hops R x ≡ hops S x
hops-kept p x b = ap mag (p.depths x b)

kept_trans : {S R U : Board} → Kept S R → Kept R U → Kept S U
kept_trans p q =
    record {
      len = q.len ∙ p.len;
      grows = omega (arith, p.grows, q.grows);
      depths = λ x b. q.depths x (let e = hops-kept p x b in omega arith) ∙ p.depths x b;
      places = λ i b. q.places i (omega (arith, p.grows)) ∙ p.places i b;
    }

module _ (n : ℕ) (out : ℕ → List ℕ) (s : ℕ) where
  -- the arcs stay among n vertices, of which s is one
  pub record Base : Type 0 where
    pub inside : Inside n out
    pub root : s < n
    pub few : n < infinity

  pub base_of : Inside n out → s < n → n < infinity → Base
  base_of i r f = record { inside = i; root = r; few = f }

  -- all arcs of v lead to vertices that have a depth, of at most one more
  abbrev pub Closed : Board → ℕ → Type 0
  Closed S v = (w : ℕ) → mem w (out v) ≡ true → hops S w ≤ hops S v + 1

  -- v has a depth, the length of a walk, and it waits in the queue or is closed
  pub record Known (S : Board) (r : Ring) (h v : ℕ) : Type 0 where
    pub here : get_or S.depth v (pos 0) ≡ pos (hops S v)
    pub most : hops S v ≤ r.level + 1
    pub short : hops S v < S.tail
    pub way : Reached out s (hops S v) v
    pub place : Waits S h v ⊎ Closed S v

  -- the queue: places up to h are served, from h up to the ring's end have its level, from there up to the tail one more
  pub record Serving (S : Board) (r : Ring) (h : ℕ) : Type 0 where
    pub base : Base
    pub queued : Queued S
    pub len : length S.depth ≡ n
    pub he : h ≤ r.end
    pub et : r.end ≤ S.tail
    pub de : r.level < r.end
    pub low : (i : ℕ) → i < S.tail → get_or S.queue i 0 < n
    pub ring : (i : ℕ) → h ≤ i → i < r.end → hops S (get_or S.queue i 0) ≡ r.level
    pub next : (i : ℕ) → r.end ≤ i → i < S.tail → hops S (get_or S.queue i 0) ≡ r.level + 1
    pub start : hops S s ≡ 0
    pub form : (v : ℕ) → v < n → (get_or S.depth v (pos 0) ≡ unreachable) ⊎ Known S r h v

  module _ {S : Board} {r : Ring} {h : ℕ} (k : Serving S r h) where
    pub serving-tail : S.tail ≤ n
    serving-tail = omega (arith, seen-le S.depth, k.queued.filled, k.len)

    pub serving-room : length S.queue ≡ n
    serving-room = k.queued.room ∙ k.len

    pub serving-level : r.level + 1 < infinity
    serving-level = omega (arith, k.de, k.et, serving-tail, k.base.few)

    known : (v : ℕ) → v < n → hops S v < infinity → Known S r h v
    known v l b = ⊎_elim (λ a. let e : hops S v ≡ infinity = ap mag a in absurd (omega arith)) (λ x. x) (k.form v l)

  waits_kept : {S R : Board} (h v : ℕ) → Kept S R → Waits S h v → Waits R h v
  waits_kept h v p w =
      record { place = w.place; from = w.from; upto = omega (arith, w.upto, p.grows); is = p.places w.place w.upto ∙ w.is }

  known_kept : {S R : Board} {r : Ring} {h v : ℕ} → Kept S R → S.tail < infinity → Known S r h v → Known R r h v
  known_kept {S} {R} {r} {h} {v} p b x =
      let e : hops R v ≡ hops S v = hops-kept p v (omega (arith, x.short)) in
      record {
        here = p.depths v (omega (arith, x.short)) ∙ x.here ∙ ap pos (sym e);
        most = omega (arith, x.most);
        short = omega (arith, x.short, p.grows);
        way = rw e x.way;
        place =
            ⊎_elim
            (λ w. inl (waits_kept h v p w))
            (λ c. inr (λ w a. let l : hops S w ≤ hops S v + 1 = c w a in
            let f : hops R w ≡ hops S w = hops-kept p w (omega (arith, x.short)) in omega arith))
            x.place;
      }

  -- ---- a vertex is met for the first time
  module _ {S : Board} {r : Ring} {h : ℕ} (k : Serving S r h) (w : ℕ) (l : w < n) (f : is_far (get_or S.depth w (pos 0)) ≡ true)
      (p : Reached out s (r.level + 1) w) where
    R : Board
    R = entered (r.level + 1) w S

    inside-area : w < length S.depth
    inside-area = omega (arith, k.len)

    new-kept : Kept S R
    unfolding R
    new-kept =
        record {
          len = length-set S.depth w (pos (r.level + 1));
          grows = omega arith;
          depths = λ x b.
              get_or-set_other S.depth w x (pos (r.level + 1)) (pos 0)
              (λ g. let e : hops S x ≡ infinity = ap (hops S) g ∙ ap mag (mark-far (get_or S.depth w (pos 0)) f) in omega arith);
          places = λ i b. get_or-set_other S.queue S.tail i w 0 (λ g. omega arith);
        }

    new-here : get_or R.depth w (pos 0) ≡ pos (r.level + 1)
    unfolding R
    new-here = get_or-set_same S.depth w (pos (r.level + 1)) (pos 0) inside-area

    new-last : get_or R.queue S.tail 0 ≡ w
    unfolding R
    new-last = get_or-set_same S.queue S.tail w 0 (room-more S w k.queued inside-area f)

    -- a place of the queue is the new one, or as it was
    new-place : (i : ℕ) → i < R.tail → (get_or R.queue i 0 ≡ w) ⊎ ((i < S.tail) × (get_or R.queue i 0 ≡ get_or S.queue i 0))
    unfolding R
    new-place i b =
        let c : i ≤ S.tail = omega arith in
        ⊎_elim (λ e. inl (rw e new-last)) (λ g. inr (g, new-kept.places i g)) (eq-or-lt_of_le c)

    new-far : (x : ℕ) → (x ≡ w → ⊥) → get_or S.depth x (pos 0) ≡ unreachable → get_or R.depth x (pos 0) ≡ unreachable
    unfolding R
    new-far x q a = get_or-set_other S.depth w x (pos (r.level + 1)) (pos 0) q ∙ a

    new-known : Known R r h w
    unfolding R
    new-known =
        let e : hops R w ≡ r.level + 1 = ap mag new-here in
        record {
          here = new-here ∙ ap pos (sym e);
          most = omega arith;
          short = omega (arith, k.de, k.et);
          way = rw e p;
          place = inl (record { place = S.tail; from = omega (arith, k.he, k.et); upto = omega arith; is = new-last });
        }

    new-serving : Serving R r h
    new-serving =
        let b = serving-level k in
        let as-was : (x j : ℕ) → j < infinity → hops S x ≡ j → hops R x ≡ j = λ x j g e. hops-kept new-kept x (omega arith) ∙ e in
        record {
          base = k.base;
          queued = unfold R in subst Queued (relaxed-new (r.level + 1) w S f)
              (queued-relaxed (r.level + 1) w S k.queued inside-area b);
          len = new-kept.len ∙ k.len;
          he = k.he;
          et = omega (arith, k.et, new-kept.grows);
          de = k.de;
          low = λ i g. ⊎_elim (λ e. rw e l) (λ e. rw e.1 (k.low i e.0)) (new-place i g);
          ring = λ i a g. rw (new-kept.places i (omega (arith, k.et)))
              (as-was (get_or S.queue i 0) r.level (omega arith) (k.ring i a g));
          next = λ i a g.
              ⊎_elim (λ e. rw e (ap mag new-here)) (λ e. rw e.1 (as-was (get_or S.queue i 0) (r.level + 1) b (k.next i a e.0)))
              (new-place i g);
          start = as-was s 0 (omega arith) k.start;
          form = λ x g.
              elim (ℕ_discrete x w) as (λ _. (get_or R.depth x (pos 0) ≡ unreachable) ⊎ Known R r h x) [
                | yes q ↦ inr (subst (Known R r h) (sym q) new-known)
                | no q ↦
                    ⊎_elim
                    (λ a. inl (new-far x q a))
                    (λ y. inr (known_kept new-kept (omega (arith, serving-tail k, k.base.few)) y))
                    (k.form x g)
              ];
        }

  -- ---- the vertices of a list are met
  record Met (S R : Board) (r : Ring) (h : ℕ) (P : ℕ → Type 0) : Type 0 where
    serving : Serving R r h
    kept : Kept S R
    near : (w : ℕ) → P w → hops R w ≤ r.level + 1

  one : {S : Board} {r : Ring} {h : ℕ} → Serving S r h → (w : ℕ) → w < n → Reached out s (r.level + 1) w
      → Met S (relaxed (r.level + 1) w S) r h (λ x. x ≡ w)
  one {S} {r} {h} k w l p =
      bool_cases (is_far (get_or S.depth w (pos 0))) (Met S (relaxed (r.level + 1) w S) r h (λ x. x ≡ w))
      (λ f.
      rw (relaxed-new (r.level + 1) w S f)
      (unfold R in
      record { serving = new-serving k w l f p; kept = new-kept k w l f p; near = λ x e. rw (e, new-here k w l f p) (omega arith) }))
      (λ f.
      rw (relaxed-old (r.level + 1) w S f)
      (record {
        serving = k;
        kept = kept_refl S;
        near = λ x e. rw e (⊎_elim (λ a. clash (far-mark (get_or S.depth w (pos 0)) a) f) (λ y. y.most) (k.form w l));
      }))

  met : {S : Board} {r : Ring} {h : ℕ} (ws : List ℕ) → Serving S r h
      → ((w : ℕ) → mem w ws ≡ true → (w < n) × Reached out s (r.level + 1) w)
      → Met S (relaxed_all (r.level + 1) ws S) r h (λ w. mem w ws ≡ true)
  unfolding relaxed_all
  met {S} [] k ok = record { serving = k; kept = kept_refl S; near = λ w t. absurd (mem-none-of w t) }
  met {S = S} {r = r} (w ∷ ws) k ok =
      let a = ok w (mem-head w ws) in
      let b = serving-level k in
      let m = one k w a.0 a.1 in
      let q = met {S = relaxed (r.level + 1) w S} ws m.serving (λ x t. ok x (mem-tail x w ws t)) in
      record {
        serving = q.serving;
        kept = kept_trans m.kept q.kept;
        near = λ x t.
            ⊎_elim (λ e. let c = m.near x e in let g = hops-kept q.kept x (omega arith) in omega arith) (λ c. q.near x c)
            (mem-cases x w ws t);
      }

  -- ---- the vertex at the queue's head is served
  done : {S : Board} {r : Ring} {h : ℕ} → Serving S r h → h < r.end
      → ((w : ℕ) → mem w (out (get_or S.queue h 0)) ≡ true → hops S w ≤ r.level + 1) → Serving S r (h + 1)
  done {S} {r} {h} k l c =
      record {
        base = k.base;
        queued = k.queued;
        len = k.len;
        he = omega arith;
        et = k.et;
        de = k.de;
        low = k.low;
        ring = λ i a b. k.ring i (omega arith) b;
        next = k.next;
        start = k.start;
        form = λ x b. ⊎_elim (λ a. inl a) (λ y. inr (later x y)) (k.form x b);
      }
    where
      closed : (x : ℕ) → get_or S.queue h 0 ≡ x → Closed S x
      closed x e w a =
          let g : hops S x ≡ r.level = ap (hops S) (sym e) ∙ k.ring h (omega arith) l in
          let f : hops S w ≤ r.level + 1 = c w (rw e a) in
          omega arith

      moved : (x : ℕ) → Waits S h x → Waits S (h + 1) x ⊎ Closed S x
      moved x m =
          ⊎_elim
          (λ q. inr (closed x (ap (λ (i : ℕ). get_or S.queue i 0) q ∙ m.is)))
          (λ g. inl (record { place = m.place; from = omega arith; upto = m.upto; is = m.is }))
          (eq-or-lt_of_le m.from)

      later : (x : ℕ) → Known S r h x → Known S r (h + 1) x
      later x y =
          record { here = y.here; most = y.most; short = y.short; way = y.way; place = ⊎_elim (moved x) (λ z. inr z) y.place }

  serve : {S : Board} {r : Ring} {h : ℕ} → Serving S r h → h < r.end
      → Serving (relaxed_all (r.level + 1) (out (get_or S.queue h 0)) S) r (h + 1)
  serve {S} {r} {h} k l =
      let u : ℕ = get_or S.queue h 0 in
      let low : u < n = k.low h (omega (arith, k.et)) in
      let e : hops S u ≡ r.level = k.ring h (omega arith) l in
      let b = serving-level k in
      let way : Reached out s r.level u = subst (λ (j : ℕ). Reached out s j u) e (known k u low (omega arith)).way in
      let m = met (out u) k (λ w a. (below-mem n (out u) (k.base.inside u low) w a, rw add-one (ring-next out s r.level u w way a))) in
      done m.serving l (λ w a. m.near w (subst (λ (x : ℕ). mem w (out x) ≡ true) (m.kept.places h (omega (arith, k.et))) a))

  -- ---- the next ring
  turn : {S : Board} {r : Ring} {h : ℕ} → Serving S r h → h ≡ r.end → h < S.tail
      → Serving S (record { end = S.tail; level = r.level + 1 }) h
  turn {S} {r} {h} k e l =
      record {
        base = k.base;
        queued = k.queued;
        len = k.len;
        he = omega arith;
        et = omega arith;
        de = omega (arith, k.de);
        low = k.low;
        ring = λ i a b. k.next i (omega arith) b;
        next = λ i a b. absurd (omega arith);
        start = k.start;
        form = λ x b.
            ⊎_elim (λ a. inl a)
            (λ y. inr (record { here = y.here; most = omega (arith, y.most); short = y.short; way = y.way; place = y.place }))
            (k.form x b);
      }

  -- ---- a turn of the loop: the ring, the part of the vertex at the queue's head, the walk over it
  module _ {S : Board} {r : Ring} {h : ℕ} (k : Serving S r h) (t : h < S.tail) {q : Ring} (e : q ≡ advanced r h S.tail) where
    Turned : Ring → Type 0
    Turned q = Serving S q h × (h < q.end)

    turned : Turned q
    unfolding Turned
    turned =
        subst Turned (sym e)
        (bool_cases (eqb h r.end) (Turned (advanced r h S.tail))
        (λ q. unfold advanced in rw q (turn k (eqb-true h r.end q) t, t))
        (λ q. unfold advanced in rw q (k, ⊎_elim (λ g. absurd (eqb-false h r.end q g)) (λ g. g) (eq-or-lt_of_le k.he))))

    pub serving-deeper : q.level + 1 < infinity
    unfolding Turned
    serving-deeper = serving-level turned.0

    pub serving-part : all_below (length S.depth) (out (get_or S.queue h 0)) ≡ true
    serving-part = rw k.len (k.base.inside (get_or S.queue h 0) (k.low h t))

    pub serving-more : {l : List ℕ} {R : Board} → l ≡ out (get_or S.queue h 0) → R ≡ relaxed_all (q.level + 1) l S → Serving R q (h + 1)
    unfolding Turned
    serving-more {l} {R} el er =
        subst (λ (B : Board). Serving B q (h + 1)) (sym (er ∙ ap (λ (t : List ℕ). relaxed_all (q.level + 1) t S) el))
        (serve turned.0 turned.1)

  -- ---- the end: nothing waits
  module _ {S : Board} {r : Ring} {h : ℕ} (k : Serving S r h) (over : S.tail ≤ h) where
    reached : (j x : ℕ) → Reached out s j x → (hops S x ≤ j) × (hops S x < infinity)
    reached zero x p = let e : hops S x ≡ 0 = ap (hops S) (ring-first out s x p) ∙ k.start in (omega arith, omega arith)
    reached (suc j) x p =
        let f = ring-from out s j x p in
        let i = reached j f.0 f.1 in
        let y = known k f.0 (ring-below out s n k.base.inside k.base.root j f.0 f.1) i.1 in
        let c : hops S x ≤ hops S f.0 + 1 = ⊎_elim (λ m. absurd (omega (arith, m.from, m.upto))) (λ g. g x f.2) y.place in
        (omega (arith, i.0), omega (arith, y.short, serving-tail k, k.base.few))

    -- a vertex has no depth and no ring has it, or its depth is the first ring that has it
    pub serving-settled : (x : ℕ) → x < n
        → ((get_or S.depth x (pos 0) ≡ unreachable) × ((i : ℕ) → Reached out s i x → ⊥))
        ⊎ ((j : ℕ) × (get_or S.depth x (pos 0) ≡ pos j) × FirstRing out s n x j)
    serving-settled x l =
        ⊎_elim
        (λ a. inl (a, λ i p. let e : hops S x ≡ infinity = ap mag a in omega (arith, (reached i x p).1)))
        (λ y. inr
        (hops S x, y.here, record { here = y.way; least = λ i p. (reached i x p).0; below = omega (arith, y.short, serving-tail k) }))
        (k.form x l)

    pub serving-end : S.depth ≡ depths n out s
    serving-end =
        sym
        (column-is (depth_of n out s) (pos 0) S.depth n k.len
        (λ x l. ⊎_elim (λ a. a.0 ∙ sym (depth-none out s n x a.1)) (λ a. a.1 ∙ sym (depth-found out s n x a.0 a.2))
        (serving-settled x l)))

  -- ---- the beginning: the root alone
  module _ (b : Base) (D : List ℤ) (Q : List ℕ) (fresh : D ≡ replicate n unreachable) (room : length Q ≡ n) where
    pub serving-queued : Queued (board D Q 0)
    serving-queued = rw fresh (record { filled = seen_none n; room = room ∙ sym (length-replicate n unreachable) })

    first : Board
    first = entered 0 s (board D Q 0)

    first-len : length D ≡ n
    first-len = rw fresh (length-replicate n unreachable)

    first-other : (x : ℕ) → x < n → get_or D x (pos 0) ≡ unreachable
    first-other x l = rw fresh (get_or-replicate n x unreachable (pos 0) l)

    first-here : get_or first.depth s (pos 0) ≡ pos 0
    unfolding first
    first-here = get_or-set_same D s (pos 0) (pos 0) (omega (arith, first-len, b.root))

    first-place : (i : ℕ) → i < 1 → get_or first.queue i 0 ≡ s
    unfolding first
    first-place i l =
        let z : i ≡ 0 = omega arith in ap (λ (j : ℕ). get_or (set Q 0 s) j 0) z ∙ get_or-set_same Q 0 s 0 (omega (arith, b.root))

    first_step : relaxed 0 s (board D Q 0) ≡ first
    unfolding first
    first_step = relaxed-new 0 s (board D Q 0) (far-mark (get_or D s (pos 0)) (first-other s b.root))

    first-known : Known first (record { end = 1; level = 0 }) 0 s
    unfolding first
    first-known =
        let e : hops first s ≡ 0 = ap mag first-here in
        record {
          here = first-here ∙ ap pos (sym e);
          most = omega arith;
          short = omega arith;
          way = rw e (ring-root out s);
          place = inl (record { place = 0; from = omega arith; upto = omega arith; is = first-place 0 (omega arith) });
        }

    first-serving : Serving first (record { end = 1; level = 0 }) 0
    unfolding first
    first-serving =
        record {
          base = b;
          queued = subst Queued first_step (queued-relaxed 0 s (board D Q 0) serving-queued (omega (arith, first-len, b.root))
              (omega arith));
          len = length-set D s (pos 0) ∙ first-len;
          he = omega arith;
          et = omega arith;
          de = omega arith;
          low = λ i l. rw (first-place i l) b.root;
          ring = λ i a l. rw (first-place i l) (ap mag first-here);
          next = λ i a l. absurd (omega arith);
          start = ap mag first-here;
          form = λ x l.
              elim (ℕ_discrete x s) as (λ _. (get_or first.depth x (pos 0) ≡ unreachable)
              ⊎ Known first (record { end = 1; level = 0 }) 0 x) [
                | yes q ↦ inr (subst (Known first (record { end = 1; level = 0 }) 0) (sym q) first-known)
                | no q ↦ inl (get_or-set_other D s x (pos 0) (pos 0) q ∙ first-other x l)
              ];
        }

    pub serving-begin : {S : Board} → S ≡ relaxed 0 s (board D Q 0) → Serving S (record { end = 1; level = 0 }) 0
    serving-begin {S} e = subst (λ (B : Board). Serving B (record { end = 1; level = 0 }) 0) (sym (e ∙ first_step)) first-serving
