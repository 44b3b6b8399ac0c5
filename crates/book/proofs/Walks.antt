-- Laws of the walk, a move at a time. Assumes nothing.
use mathlib.Core.Path.{◌≡◌, refl, sym, ◌∙◌}
use mathlib.Core.Bool.{Bool, true}
use Prim.Native.Nat.{ℕ, zero, suc, ◌+◌, ◌≤◌, ◌<◌}
use lib.Dec.{ltb}
use borrow.Author.Tests.{ltb-true, lt-ltb, le-ltb}
use Rattle.basis.proofs.Tests.{clash}
use Rattle.basis.proofs.Saids.{refused-given, check-on, check-off, check-passed}
use Rattle.basis.specs.Refusal.{gives, refuses, plain, unsound, check}
use Rattle.book.specs.Rules.{most_moves, Next, stop, to, WalkEnd, walk_end, walk, walk_from, is_stop}

module _ (next : ℕ → Next) (n : ℕ) where
  pub walk-head : (left moves at : ℕ) → next at ≡ stop → walk next n left moves at ≡ gives (walk_end at moves)
  unfolding walk
  walk-head zero moves at e = simp e
  walk-head (suc left) moves at e = simp e

  step-check : (left moves at p : ℕ) → next at ≡ to p
      → walk next n (suc left) moves at ≡ check (ltb p n) unsound (walk next n left (moves + 1) p)
  unfolding walk
  step-check left moves at p e = simp e

  pub walk-move : (left moves at p : ℕ) → next at ≡ to p → p < n → walk next n (suc left) moves at ≡ walk next n left (moves + 1) p
  walk-move left moves at p e l = step-check left moves at p e ∙ check-on (ltb p n) unsound (walk next n left (moves + 1) p) (lt-ltb p n l)

  pub walk-late : (moves at p : ℕ) → next at ≡ to p → walk next n zero moves at ≡ refuses (plain unsound)
  unfolding walk
  walk-late moves at p e = simp e

  pub walk-out : (left moves at p : ℕ) → next at ≡ to p → n ≤ p → walk next n left moves at ≡ refuses (plain unsound)
  walk-out zero moves at p e l = walk-late moves at p e
  walk-out (suc left) moves at p e l =
      step-check left moves at p e ∙ check-off (ltb p n) unsound (walk next n left (moves + 1) p) (le-ltb p n l)

  head-here : (left moves at : ℕ) (f : WalkEnd) → at < n → walk next n left moves at ≡ gives f → next at ≡ stop
      → (f.head < n) × (next f.head ≡ stop)
  head-here left moves at f l e q = let i : at ≡ f.head = cc (walk-head left moves at q) in (rw i at l, rw i at q)

  -- where a walk ends there is a head, in the area
  pub walk-in : (left moves at : ℕ) (f : WalkEnd) → at < n → walk next n left moves at ≡ gives f → (f.head < n) × (next f.head ≡ stop)
  walk-in zero moves at f l e = go (next at) refl
    where
      go : (x : Next) → next at ≡ x → (f.head < n) × (next f.head ≡ stop)
      go stop q = head-here zero moves at f l e q
      go (to p) q = refused-given (sym (walk-late moves at p q) ∙ e)
  walk-in (suc left) moves at f l e = go (next at) refl (λ p k d. walk-in left (moves + 1) p f k d)
    where
      go : (x : Next) → next at ≡ x → ((p : ℕ) → p < n → walk next n left (moves + 1) p ≡ gives f → (f.head < n) × (next f.head ≡ stop))
          → (f.head < n) × (next f.head ≡ stop)
      go stop q ih = head-here (suc left) moves at f l e q
      go (to p) q ih =
          let t = check-passed (ltb p n) unsound (walk next n left (moves + 1) p) f (sym (step-check left moves at p q) ∙ e) in
          ih p (ltb-true p n t.0) t.1

  pub walk_from-in : (v : ℕ) (f : WalkEnd) → v < n → walk_from next n v ≡ gives f → (f.head < n) × (next f.head ≡ stop)
  unfolding walk_from
  walk_from-in v f l e = walk-in most_moves 0 v f l e

-- a vertex that is a head, by the test for it, or is none
pub stop-of : (x : Next) (t : Bool) → t ≡ is_stop x → t ≡ true → x ≡ stop
stop-of stop t e h = refl
stop-of (to p) t e h = clash h e
