-- A book of any form keeps the invariant of `Forest.antt`, and what the invariant says of each call's answer. Assumes nothing.
use mathlib.Core.Path.{◌≡◌, refl, sym, ap, ap₂, ◌∙◌}
use mathlib.Core.List.{List, [], ◌∷◌}
use mathlib.Core.Bool.{Bool, true, false}
use mathlib.Core.Logic.{◌⊎◌, inl, inr, ◌↔◌}
use Prim.Native.Nat.{ℕ, suc, ◌+◌, ◌-◌, ◌≤◌, ◌<◌}
use native.Mathlib.Omega.{arith}
use native.Mathlib.Decide.{dec_le, dec_lt, ℕ_discrete}
use lib.Dec.{eqb}
use lib.Pow.{pow_mono, pow_pos}
use borrow.Author.Tests.{eq-eqb, ne_eqb}
use Rattle.basis.specs.Limits.{most_vertices}
use Rattle.basis.specs.Refusal.{gives, refuses, plain, not_there, onward}
use Rattle.book.specs.Rules.{most_moves, stop, View, walk_end, heads, Step, already, merge}
use Rattle.book.specs.Rules.{Machine, walk_from, head_of, pair, heads_of, same_group}
use Rattle.book.specs.Rules.{group_size, tally, is_stop, group_count, largest, step_limit, above, merge_heads, link_heads, decide}
use Rattle.basis.proofs.Tests.{clash}
use Rattle.basis.specs.Scan.{bit}
use Rattle.basis.proofs.Scans.{bit_le}
use Rattle.basis.specs.Closure.{Linked, back, on}
use Rattle.basis.proofs.Closures.{linked-keeps}
use Rattle.book.specs.Series.{Slip, slip, Accepted}
use Rattle.book.proofs.Calls.{head_walk, heads-walks, heads-outside, same-is, size_is, count-is, limit_is}
use Rattle.book.proofs.Joins.{above-larger, above-smaller, mergeable-of, merge-above, merge-below, link-already, link-merges}
use Rattle.book.proofs.Tally.{tally-apart, tally-le}
use Rattle.book.proofs.Faithful.{Mergeable, Faithful}
use Rattle.book.proofs.Forest.{reach-walk, reach-head, Forest, forest-open, forest-already, forest-merged, Whose}

-- a book whose areas show w is well lent and keeps the invariant
pub record Sound (n : ℕ) (w : View) (js : List Slip) (m : ℕ) : Type 0 where
  pub fit : w.fit ≡ true
  pub count : w.count ≡ n
  pub within : n ≤ most_vertices
  pub forest : Forest n w.next w.size js m

-- ---- what the calls answer

module _ (n : ℕ) (w : View) (js : List Slip) (m : ℕ) (S : Sound n w js m) where
  in_area : (v : ℕ) → v < n → v < w.count
  in_area v l = omega (arith, S.count)

  pub head_in_lem : (v : ℕ) → v < n → (S.forest.head v < n) × (w.next (S.forest.head v) ≡ stop)
  head_in_lem v l = reach-head w.next n (S.forest.depth v) v (S.forest.head v) (S.forest.reach v l)

  pub size-group : (v : ℕ) → v < n → w.size (S.forest.head v) ≡ tally (λ x. eqb (S.forest.head x) (S.forest.head v)) n
  size-group v l = S.forest.sized (S.forest.head v) (head_in_lem v l).0 (head_in_lem v l).1

  pub size-pos : (v : ℕ) → v < n → w.size (S.forest.head v) ≡ 0 → ⊥
  size-pos v l e = omega (arith, S.forest.deep v l, pow_pos (S.forest.depth v))

  size-le : (v : ℕ) → v < n → w.size (S.forest.head v) ≤ w.count
  size-le v l = omega (arith, S.count, size-group v l, tally-le (λ x. eqb (S.forest.head x) (S.forest.head v)) n)

  depth_le : (v : ℕ) → v < n → S.forest.depth v ≤ most_moves
  depth_le v l = go (dec_le (S.forest.depth v) most_moves)
    where
      go : Dec (S.forest.depth v ≤ most_moves) → S.forest.depth v ≤ most_moves
      go (yes y) = y
      go (no d) = absurd (omega (
        arith,
        S.within,
        S.count,
        size-le v l,
        S.forest.deep v l,
        pow_mono {i = 17} {j = S.forest.depth v} (omega arith),
      ))

  pub walk_is : (v : ℕ) → v < n → walk_from w.next w.count v ≡ gives (walk_end (S.forest.head v) (S.forest.depth v))
  unfolding walk_from
  walk_is v l =
      let e : 0 + S.forest.depth v ≡ S.forest.depth v = omega arith in
      rw S.count (reach-walk w.next n (S.forest.depth v) most_moves 0 v (S.forest.head v) (S.forest.reach v l) (depth_le v l)
      ∙ ap (λ (k : ℕ). gives (walk_end (S.forest.head v) k)) e)

  pub head-answer : (v : ℕ) → v < n → head_of w v ≡ gives (walk_end (S.forest.head v) (S.forest.depth v))
  head-answer v l = head_walk w v S.fit (in_area v l) ∙ walk_is v l

  pub heads-answer : (u v : ℕ) → u < n → v < n → heads_of w u v ≡ gives (heads (S.forest.head u) (S.forest.head v))
  heads-answer u v k l = heads-walks w u v S.fit (in_area u k) (in_area v l) ∙ ap₂ pair (walk_is u k) (walk_is v l)

  pub same_answer : (u v : ℕ) → u < n → v < n → same_group w u v ≡ gives (eqb (S.forest.head u) (S.forest.head v))
  same_answer u v k l = sym (same-is w u v (S.forest.head u) (S.forest.head v) (sym (heads-answer u v k l)))

  pub size-answer : (v : ℕ) → v < n → group_size w v ≡ gives (w.size (S.forest.head v))
  size-answer v l =
      sym (size_is w v (S.forest.head v) (S.forest.depth v) (sym (head-answer v l)) (size-pos v l) (size-le v l))

  pub limit-answer : (v : ℕ) → v < n → step_limit w v ≡ gives (largest most_moves (w.size (S.forest.head v)))
  limit-answer v l = sym (limit_is w v (w.size (S.forest.head v)) (sym (size-answer v l)) _ refl)

  pub count-answer : group_count w ≡ gives (n - m)
  count-answer =
      let e : tally (λ v. is_stop (w.next v)) n ≡ n - m = omega (arith, S.forest.counted) in
      sym (count-is w true (sym S.fit) (n - m) refl (rw S.count (sym e)))

  pub linked-iff : (u v : ℕ) → u < n → v < n → (S.forest.head u ≡ S.forest.head v) ↔ Linked (Accepted js) u v
  linked-iff u v k l = (
    (λ e. on (S.forest.chained u k) (rw (← e) at (back (S.forest.chained v l)))),
    (λ c. linked-keeps S.forest.head S.forest.joined c),
  )

  -- a join that names no vertex of the book is refused
  pub join-outside : (u v : ℕ) → (n ≤ u) ⊎ (n ≤ v) → decide w u v ≡ refuses (plain not_there)
  unfolding decide
  join-outside u v o = ap (λ s. onward s (link_heads w)) (heads-outside w u v n S.fit S.count o)

-- ---- a join

above-true : (a b g h : ℕ) → above a b g h ≡ true → b ≤ a
above-true a b g h e =
    elim (dec_lt a b) [
      | yes l ↦ clash e (sym (above-smaller a b g h (omega arith) (λ q. omega arith)))
      | no l ↦ omega arith
    ]

above-false : (a b g h : ℕ) → above a b g h ≡ false → a ≤ b
above-false a b g h e = elim (dec_lt b a) [ yes l ↦ clash (sym (above-larger a b g h l)) e | no l ↦ omega arith ]

-- a join of two vertices of the book finds one group, or merges two
abbrev pub Joins : ℕ → View → List Slip → ℕ → (ℕ → ℕ) → ℕ → ℕ → Type 0
Joins n w js m head u v =
    ((decide w u v ≡ gives already) × (head u ≡ head v))
    ⊎ ((top under : ℕ) × (decide w u v ≡ gives (merge top under (w.size top + w.size under)))
    × Mergeable w top under (w.size top + w.size under)
    × Whose head u v top under × (w.size under ≤ w.size top))

module _ (n : ℕ) (w : View) (js : List Slip) (m : ℕ) (S : Sound n w js m) (u v : ℕ) (u-in : u < n) (v-in : v < n) where
  pub joins : Joins n w js m S.forest.head u v
  unfolding decide
  joins = same? (ℕ_discrete g h)
    where
      g : ℕ
      g = S.forest.head u

      h : ℕ
      h = S.forest.head v

      a : ℕ
      a = w.size (S.forest.head u)

      b : ℕ
      b = w.size (S.forest.head v)

      both : heads_of w u v ≡ gives (heads g h)
      both = heads-answer n w js m S u v u-in v-in

      za : a ≡ 0 → ⊥
      za = size-pos n w js m S u u-in

      zb : b ≡ 0 → ⊥
      zb = size-pos n w js m S v v-in

      hu : (g < n) × (w.next g ≡ stop)
      hu = head_in_lem n w js m S u u-in

      hv : (h < n) × (w.next h ≡ stop)
      hv = head_in_lem n w js m S v v-in

      fits : (g ≡ h → ⊥) → a + b ≤ w.count
      fits d =
          omega (
            arith,
            S.count,
            size-group n w js m S u u-in,
            size-group n w js m S v v-in,
            tally-apart (λ x. eqb (S.forest.head x) g) (λ x. eqb (S.forest.head x) h) n
                (λ x _. bits x (ℕ_discrete (S.forest.head x) g)),
          )
        where
          bits : (x : ℕ) → Dec (S.forest.head x ≡ g) → bit (eqb (S.forest.head x) g) + bit (eqb (S.forest.head x) h) ≤ 1
          bits x (yes q) =
              let r : S.forest.head x ≡ h → ⊥ = λ r. d (sym q ∙ r) in
              simp (eq-eqb _ _ q, ne_eqb _ _ r) (omega arith)
          bits x (no q) = simp (ne_eqb _ _ q) (omega (arith, bit_le (eqb (S.forest.head x) h)))

      merges : (g ≡ h → ⊥) → {s : Step} → merge_heads a b g h ≡ s → onward (heads_of w u v) (link_heads w) ≡ gives s
      merges d q =
          ap (λ s. onward s (link_heads w)) both ∙ link-merges w g h d
          (mergeable-of w.count a b (omega (arith, za)) (omega (arith, zb)) (fits d)) ∙ ap gives q

      above? : (g ≡ h → ⊥) → (t : Bool) → above a b g h ≡ t → Joins n w js m S.forest.head u v
      above? d true e = inr (
        g,
        h,
        merges d (merge-above a b g h e),
        record {
          fit = S.fit;
          top_in = omega (arith, S.count, hu.0);
          under-in = omega (arith, S.count, hv.0);
          apart = d;
          top_head = hu.1;
          under-head = hv.1;
          total-pos = omega (arith, za);
        },
        inl (refl, refl),
        above-true a b g h e,
      )
      above? d false e =
          let t : a + b ≡ b + a = omega arith in
          inr (
            h,
            g,
            merges d (merge-below a b g h e ∙ ap (merge h g) t),
            record {
              fit = S.fit;
              top_in = omega (arith, S.count, hv.0);
              under-in = omega (arith, S.count, hu.0);
              apart = λ q. d (sym q);
              top_head = hv.1;
              under-head = hu.1;
              total-pos = omega (arith, za);
            },
            inr (refl, refl),
            above-false a b g h e,
          )

      same? : Dec (g ≡ h) → Joins n w js m S.forest.head u v
      same? (yes q) = inl (ap (λ s. onward s (link_heads w)) both ∙ link-already w g h q, q)
      same? (no q) = above? q (above a b g h) refl

  pub sound-already : S.forest.head u ≡ S.forest.head v → Sound n w (slip u v ∷ js) m
  sound-already q =
      record { fit = S.fit; count = S.count; within = S.within; forest = forest-already n w.next w.size js m S.forest u v q }

module _ (M : Machine) (L : Faithful M) (n : ℕ) (a : M.Area) (js : List Slip) (m : ℕ) where
  pub sound-open : (M.view a).fit ≡ true → (M.view a).count ≡ n → Sound n (M.view (M.opened a)) [] 0
  sound-open f e = record {
    fit = L.opened-fit a f;
    count = L.opened-count a ∙ e;
    within = omega (arith, e, L.fit-within a f);
    forest = forest-open n _ _ (λ v l. L.opened-next a v (omega (arith, e))) (λ v l. L.opened-size a v (omega (arith, e)));
  }

  pub sound-merged : (S : Sound n (M.view a) js m) (u v : ℕ) → u < n → v < n → (top under : ℕ)
      → Mergeable (M.view a) top under ((M.view a).size top + (M.view a).size under)
      → Whose S.forest.head u v top under → (M.view a).size under ≤ (M.view a).size top
      → Sound n (M.view (M.merged top under ((M.view a).size top + (M.view a).size under) a)) (slip u v ∷ js) (suc m)
  sound-merged S u v u-in v-in top under k whose smaller =
      let t = (M.view a).size top + (M.view a).size under in
      record {
        fit = L.merged-fit a top under t ∙ S.fit;
        count = L.merged-count a top under t ∙ S.count;
        within = S.within;
        forest =
            forest-merged n (M.view a).next (M.view (M.merged top under t a)).next (M.view a).size
            (M.view (M.merged top under t a)).size js m S.forest u v top under
            u-in v-in (omega (arith, k.top_in, S.count)) (omega (arith, k.under-in, S.count)) k.top_head k.under-head k.apart
            whose smaller
            (L.merged-under a top under t k)
            (λ x d. L.merged-next a top under t k x d)
            (L.merged-top a top under t k)
            (λ x d e. L.merged-size a top under t k x d e);
      }
