-- A walk that is carried along while heads go under heads: it stays, or it is one move longer where its own head went under.
-- It holds on every content. Assumes nothing.
use mathlib.Core.Path.{◌≡◌, refl, sym, ap, ◌∙◌, subst}
use mathlib.Core.List.{List}
use Prim.Native.Nat.{ℕ, zero, suc, ◌+◌, ◌≤◌, ◌<◌}
use native.Mathlib.Omega.{arith}
use native.Mathlib.Decide.{dec_lt}
use lib.IntN.{ℤ}
use lib.ListN.{length}
use lib.Dec.{leb}
use borrow.Author.Tests.{le-leb, lt-leb}
use Rattle.basis.specs.Refusal.{gives, refuses, plain, unsound, check}
use Rattle.book.specs.Rules.{most_moves, Next, stop, to, WalkEnd, walk_end, walk, walk_from}
use Rattle.book.specs.One.{next_here, one, one_book}
use Rattle.book.specs.Steps.{one_more}
use Rattle.basis.proofs.Saids.{refused-given, given-one, check-on, check-off}
use Rattle.book.proofs.Walks.{walk-head, walk-move, walk-late, walk-out}
use Rattle.book.proofs.Forest.{Reach, reach-in, reach-walk, reach-other, reach-under}
use Rattle.book.proofs.Faithful.{Mergeable}
use Rattle.book.proofs.OneBook.{faithful-one}

module _ (next : ℕ → Next) (n : ℕ) where
  -- what a walk gives is reached
  abbrev Reached : ℕ → ℕ → ℕ → WalkEnd → Type 0
  Reached left moves at f = (k : ℕ) × (k ≤ left) × (f.moves ≡ moves + k) × Reach next n at f.head k

  reach_here : (left moves at : ℕ) (f : WalkEnd) → at < n → walk next n left moves at ≡ gives f → next at ≡ stop → Reached left moves at f
  reach_here left moves at f l e q =
      let i : walk_end at moves ≡ f = given-one (sym (walk-head next n left moves at q) ∙ e) in
      (0, omega arith, omega (arith, ap (λ (x : WalkEnd). x.moves) i), (l, ap (λ (x : WalkEnd). x.head) i, q))

  walk-reach : (left moves at : ℕ) (f : WalkEnd) → at < n → walk next n left moves at ≡ gives f → Reached left moves at f
  walk-reach zero moves at f l e = go (next at) refl
    where
      go : (x : Next) → next at ≡ x → Reached zero moves at f
      go stop q = reach_here zero moves at f l e q
      go (to p) q = refused-given (sym (walk-late next n moves at p q) ∙ e)
  walk-reach (suc left) moves at f l e = go (next at) refl (λ p k d. walk-reach left (moves + 1) p f k d)
    where
      go : (x : Next) → next at ≡ x → ((p : ℕ) → p < n → walk next n left (moves + 1) p ≡ gives f → Reached left (moves + 1) p f)
          → Reached (suc left) moves at f
      go stop q ih = reach_here (suc left) moves at f l e q
      go (to p) q ih = inside (dec_lt p n)
        where
          inside : Dec (p < n) → Reached (suc left) moves at f
          inside (yes y) =
              let r = ih p y (sym (walk-move next n left moves at p q y) ∙ e) in
              (suc r.0, omega (arith, r.1), omega (arith, r.2), (p, l, q, r.3))
          inside (no d) = refused-given (sym (walk-out next n (suc left) moves at p q (omega arith)) ∙ e)

  -- a head that is further than the moves allowed is not found
  reach-late : (k left m v h : ℕ) → Reach next n v h k → left < k → walk next n left m v ≡ refuses (plain unsound)
  reach-late zero left m v h r l = absurd (omega arith)
  reach-late (suc k) zero m v h r l = walk-late next n m v r.0 r.2
  reach-late (suc k) (suc left) m v h r l =
      walk-move next n left m v r.0 r.2 (reach-in next n k r.0 h r.3) ∙ reach-late k left (m + 1) r.0 h r.3 (omega arith)

-- ---- after the head `under` went under the head `top`
module _ (next next' : ℕ → Next) (n top under : ℕ) (top_in : top < n) (top_head : next top ≡ stop) (under-head : next under ≡ stop)
    (apart : top ≡ under → ⊥)
    (at : next' under ≡ to top) (off : (x : ℕ) → (x ≡ under → ⊥) → next' x ≡ next x) (v g k : ℕ) (v-in : v < n)
    (e : walk_from next n v ≡ gives (walk_end g k)) where
  walk-other : (g ≡ under → ⊥) → walk_from next' n v ≡ gives (walk_end g k)
  unfolding walk_from
  walk-other d =
      let r = walk-reach next n most_moves 0 v (walk_end g k) v-in e in
      reach-walk next' n r.0 most_moves 0 v g (reach-other next next' n top under top_in top_head under-head apart at off r.0 v g d
      r.3)
      r.1
      ∙ ap (λ (x : ℕ). gives (walk_end g x)) (sym r.2)

  walk-under : g ≡ under → walk_from next' n v ≡ check (leb (k + 1) most_moves) unsound (gives (walk_end top (k + 1)))
  unfolding walk_from
  walk-under q = go (dec_lt k most_moves)
    where
      on : Reach next' n v top (k + 1)
      on =
          let r = walk-reach next n most_moves 0 v (walk_end g k) v-in e in
          let i : suc r.0 ≡ k + 1 = omega (arith, r.2) in
          subst (λ (y : ℕ). Reach next' n v top y) i
          (reach-under next next' n top under top_in top_head under-head apart at off r.0 v
          (subst (λ (y : ℕ). Reach next n v y r.0) q r.3))

      go : Dec (k < most_moves) → walk next' n most_moves 0 v ≡ check (leb (k + 1) most_moves) unsound (gives (walk_end top (k + 1)))
      go (yes y) =
          let i : 0 + (k + 1) ≡ k + 1 = omega arith in
          reach-walk next' n (k + 1) most_moves 0 v top on (omega arith) ∙ ap (λ (x : ℕ). gives (walk_end top x)) i
          ∙ sym (check-on (leb (k + 1) most_moves) unsound _ (le-leb (k + 1) most_moves (omega arith)))
      go (no d) =
          reach-late next' n (k + 1) most_moves 0 v top on (omega arith)
          ∙ sym (check-off (leb (k + 1) most_moves) unsound _ (lt-leb (k + 1) most_moves (omega arith)))

-- ---- the same of one area
module _ (xs : List ℤ) (u g k : ℕ) (inside : u < length xs) (ended : gives (walk_end g k) ≡ walk_from (next_here xs) (length xs) u)
    (t d s : ℕ) (m : Mergeable (one xs) t d s) where
  abbrev after : List ℤ
  after = one_book.merged t d s xs

  pub carried-length : length after ≡ length xs
  unfolding one
  carried-length = faithful-one.merged-count xs t d s

  pub carried_other : (g ≡ d → ⊥) → gives (walk_end g k) ≡ walk_from (next_here after) (length after) u
  unfolding one
  carried_other q =
      sym (ap (λ (n : ℕ). walk_from (next_here after) n u) carried-length
      ∙ walk-other (next_here xs) (next_here after) (length xs) t d m.top_in m.top_head m.under-head m.apart
      (faithful-one.merged-under xs t d s m)
      (faithful-one.merged-next xs t d s m) u g k inside (sym ended) q)

  pub carried_under : g ≡ d → one_more k t ≡ walk_from (next_here after) (length after) u
  unfolding one
  carried_under q =
      sym (ap (λ (n : ℕ). walk_from (next_here after) n u) carried-length
      ∙ walk-under (next_here xs) (next_here after) (length xs) t d m.top_in m.top_head m.under-head m.apart
      (faithful-one.merged-under xs t d s m)
      (faithful-one.merged-next xs t d s m) u g k inside (sym ended) q)
