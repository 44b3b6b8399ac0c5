-- Laws of the code's loop that walks. Assumes nothing.
use mathlib.Core.Path.{◌≡◌, refl, sym, ◌∙◌}
use mathlib.Core.Bool.{Bool, true}
use Prim.Native.Nat.{ℕ, zero, suc, ◌+◌, ◌-◌, ◌≤◌, ◌<◌}
use native.Mathlib.Omega.{arith}
use lib.Dec.{leb}
use borrow.Author.Tests.{leb-true}
use Rattle.basis.specs.Limits.{most_vertices}
use Rattle.basis.specs.Refusal.{Said, gives, refuses, plain, unsound}
use Rattle.basis.proofs.Tests.{held}
use Rattle.book.specs.Rules.{most_moves, Next, to, WalkEnd, walk_end, walk, walk_from, is_stop}
use Rattle.book.proofs.Walks.{walk-head, walk-move, walk-late, walk-out, stop-of}

-- ---- the code's loop: the rest of a walk where so many more turns of it may be made
abbrev pub rest : (ℕ → Next) → ℕ → ℕ → ℕ → ℕ → Said WalkEnd
rest next n zero moves at = refuses (plain unsound)
rest next n (suc left) moves at = walk next n left moves at

module _ (next : ℕ → Next) (n v at moves : ℕ) where
  -- the walk from v goes on from `at`
  abbrev Onto : Type 0
  Onto = walk_from next n v ≡ rest next n (17 - moves) moves at

  on-turn : Onto → moves < 17 → walk_from next n v ≡ walk next n (most_moves - moves) moves at
  on-turn e m = let z : 17 - moves ≡ suc (most_moves - moves) = omega arith in rw z at e

  pub loop-found : Onto → moves < 17 → (t : Bool) → t ≡ is_stop (next at) → t ≡ true → gives (walk_end at moves) ≡ walk_from next n v
  loop-found e m t q h = sym (on-turn e m ∙ walk-head next n (most_moves - moves) moves at (stop-of (next at) t q h))

  pub loop-late : Onto → most_moves < moves → walk_from next n v ≡ refuses (plain unsound)
  loop-late e m = let z : 17 - moves ≡ 0 = omega arith in rw z at e

  module _ (e : Onto) (m : moves < 17) (p : ℕ) (q : next at ≡ to p) where
    pub loop-out : n ≤ p → walk_from next n v ≡ refuses (plain unsound)
    loop-out l = on-turn e m ∙ walk-out next n (most_moves - moves) moves at p q l

    pub loop-moves : p < n → walk_from next n v ≡ rest next n (17 - (moves + 1)) (moves + 1) p
    loop-moves l = on-turn e m ∙ go (most_moves - moves) refl
      where
        go : (left : ℕ) → most_moves - moves ≡ left → walk next n left moves at ≡ rest next n (17 - (moves + 1)) (moves + 1) p
        go zero i = let z : 17 - (moves + 1) ≡ 0 = omega arith in rw z (walk-late next n moves at p q)
        go (suc left) i = let z : 17 - (moves + 1) ≡ suc left = omega arith in rw z (walk-move next n left moves at p q l)

-- an area of n places that is well lent
pub lent-within : (n : ℕ) (t : Bool) → t ≡ leb n most_vertices → t ≡ true → n ≤ most_vertices
lent-within n t e f = leb-true n most_vertices (held t _ e f)
