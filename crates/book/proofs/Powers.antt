-- Laws of the largest power of 2 in a size, and of the leading zeros that give it. Assumes nothing.
use mathlib.Core.Path.{◌≡◌, sym}
use mathlib.Core.Bool.{cond}
use Prim.Native.Nat.{ℕ, zero, suc, ◌+◌, ◌-◌, ◌^◌, ◌≤◌, ◌<◌}
use native.Mathlib.Omega.{arith}
use native.Mathlib.Decide.{dec_le, dec_lt}
use lib.Dec.{leb}
use lib.Pow.{pow_mono}
use lib.Count.{count_leading_zeros, leading_top}
use borrow.Author.Tests.{le-leb, lt-leb}
use Rattle.basis.specs.Limits.{most_vertices}
use Rattle.book.specs.Rules.{most_moves, largest}

-- where 2 to the j is at most s and the next power is above s, `largest` finds j from any start at or above it
pub largest-is : (k j s : ℕ) → j ≤ k → 2 ^ j ≤ s → s < 2 ^ suc j → largest k s ≡ j
unfolding largest
largest-is zero j s l h g = omega arith
largest-is (suc k) j s l h g = go (dec_lt k j) (λ m. largest-is k j s m h g)
  where
    go : Dec (k < j) → (j ≤ k → largest k s ≡ j) → cond (leb (2 ^ suc k) s) (suc k) (largest k s) ≡ j
    go (yes d) ih =
        let e : j ≡ suc k = omega arith in
        let t : 2 ^ suc k ≤ s = rw e at h in
        simp (le-leb _ _ t) (sym e)
    go (no d) ih =
        let m : suc j ≤ suc k = omega arith in
        let t : s < 2 ^ suc k = omega (arith, pow_mono m) in
        simp (lt-leb _ _ t) (ih (omega arith))

-- the place of the highest digit of a size
top_of : (s : ℕ) → 0 < s → s ≤ most_vertices → (j : ℕ) × (count_leading_zeros 64 s + suc j ≡ 64) × (2 ^ j ≤ s) × (s < 2 ^ suc j)
    × (largest most_moves s ≡ j)
top_of s p h =
    let t = leading_top 64 s p (omega arith) in
    (t.0, t.1, t.2, t.3, largest-is most_moves t.0 s (go t.0 t.2) t.2 t.3)
  where
    go : (j : ℕ) → 2 ^ j ≤ s → j ≤ most_moves
    go j l = elim (dec_le j most_moves) [ yes y ↦ y | no n ↦ absurd (omega (arith, pow_mono {i = 17} {j = j} (omega arith))) ]

-- the count of a size's leading zeros, as a machine word of 64 digits has them, gives the largest power
pub largest-leading : (s : ℕ) → 0 < s → s ≤ most_vertices → (count_leading_zeros 64 s ≤ 63)
    × (63 - count_leading_zeros 64 s ≡ largest most_moves s)
largest-leading s p h = let t = top_of s p h in (omega (arith, t.1), omega (arith, t.1, t.4))

-- it is the largest k with 2 to the k at most the size
pub largest-low : (s : ℕ) → 0 < s → s ≤ most_vertices → 2 ^ largest most_moves s ≤ s
largest-low s p h = let t = top_of s p h in rw t.4 t.2

pub largest-high : (s : ℕ) → 0 < s → s ≤ most_vertices → s < 2 ^ suc (largest most_moves s)
largest-high s p h = let t = top_of s p h in rw t.4 t.3

pub largest-most : (s k : ℕ) → 0 < s → s ≤ most_vertices → 2 ^ k ≤ s → k ≤ largest most_moves s
largest-most s k p h l =
    elim (dec_le k (largest most_moves s)) [
      | yes y ↦ y
      | no n ↦ absurd (omega (arith, largest-high s p h, pow_mono {i = suc (largest most_moves s)} {j = k} (omega arith)))
    ]
