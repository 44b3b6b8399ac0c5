-- Laws of the digits behind a point, and of their writer. Assumes nothing.
use Prim.Native.Nat.{ℕ, zero, suc, ◌+◌, ◌-◌, ◌/◌, ◌%◌, ◌^◌, ◌≤◌, ◌<◌}
use mathlib.Core.Path.{◌≡◌, refl, sym, ap, ap₂, ◌∙◌, subst}
use mathlib.Core.List.{List, [], ◌∷◌, ◌++◌, append-nil}
use native.Mathlib.Omega.{arith}
use native.Mathlib.Nat.{pow-suc, one-le-pow, mod-lt, div-lt_iff_lt-mul, mul_comm}
use borrow.Author.Tests.{ne_eqb}
use lib.ListN.{length, get_or}
use Rattle.text.specs.Weight.{million}
use Rattle.write.specs.Put.{Written, written, put_at}
use Rattle.write.specs.Number.{count_text}
use Rattle.write.specs.Millionths.{places_text, behind_text, millionths_text}
use Rattle.write.proofs.Puts.{put_then, put_as, putting-more, putting-end, putting-length}

-- ---- nothing is left, or one digit more
pub places-none : (k : ℕ) → places_text k 0 ≡ []
unfolding places_text
places-none zero = refl
places-none (suc k) = refl

pub places-more : (k r : ℕ) → 0 < r → places_text (suc k) r ≡ (48 + r / 10 ^ k) ∷ places_text k (r % 10 ^ k)
unfolding places_text
places-more k r h = rw (ne_eqb r 0 (omega arith), places_text)

pub ten-some : (k : ℕ) → 1 ≤ 10 ^ k
ten-some k = one-le-pow k 10 (omega arith)

-- the next digit is one
pub next-digit : (k r : ℕ) → r < 10 ^ suc k → r / 10 ^ k < 10
next-digit k r h =
    (div-lt_iff_lt-mul {k = 10 ^ k} {x = r} {y = 10} (ten-some k)).1 (subst (λ (x : ℕ). r < x) (pow-suc 10 k ∙ mul_comm (10 ^ k) 10) h)

-- ---- what the loop keeps: what is left is below the power of ten of so many places, and its digits make the whole
pub record Placed (w : Written) (o : List ℕ) (p left places : ℕ) : Type 0 where
  pub small : left < 10 ^ places
  pub rest : put_at o p (places_text places left) ≡ w

pub placed-start : (o : List ℕ) (at r : ℕ) → r < million → Placed (put_at o at (places_text 6 r)) o at r 6
placed-start o at r h = record { small = h; rest = refl }

pub placed-length : (o₀ : List ℕ) (at : ℕ) (text o : List ℕ) (p left places : ℕ) → Placed (put_at o₀ at text) o p left places
    → length o ≡ length o₀
placed-length o₀ at text o p left places s = putting-length o₀ at text o p (places_text places left) s.rest

-- the unit at each place
abbrev pub units : List ℕ
units = 100000 ∷ 10000 ∷ 1000 ∷ 100 ∷ 10 ∷ 1 ∷ []

unit-is : (k : ℕ) → k < 6 → (6 - k ≡ suc (6 - (k + 1))) × (get_or units k 0 ≡ 10 ^ (6 - (k + 1)))
unit-is zero h = (refl, refl)
unit-is (suc zero) h = (refl, refl)
unit-is (suc (suc zero)) h = (refl, refl)
unit-is (suc (suc (suc zero))) h = (refl, refl)
unit-is (suc (suc (suc (suc zero)))) h = (refl, refl)
unit-is (suc (suc (suc (suc (suc zero))))) h = (refl, refl)
unit-is (suc (suc (suc (suc (suc (suc k)))))) h = absurd (omega arith)

module _ (w : Written) (o : List ℕ) (p left i : ℕ) (s : Placed w o p left (6 - i)) where
  pub placed_end : left ≡ 0 → written o p ≡ w
  placed_end e = putting-end o p (places_text (6 - i) left) s.rest (ap (places_text (6 - i)) e ∙ places-none (6 - i))

  pub placed-out : 6 ≤ i → written o p ≡ w
  placed-out h = let q : 6 - i ≡ 0 = omega arith in placed_end (let l : left < 1 = rw q at s.small in omega arith)

  module _ (h : i < 6) where
    unit : ℕ
    unit = get_or units i 0

    small-there : left < 10 ^ suc (6 - (i + 1))
    small-there = rw (unit-is i h).0 at s.small

    pub placed-unit : 0 < get_or units i 0
    placed-unit = rw (unit-is i h).1 (ten-some (6 - (i + 1)))

    pub placed-digit : left / get_or units i 0 < 10
    placed-digit = rw (unit-is i h).1 (next-digit (6 - (i + 1)) left small-there)

    pub placed-more : (left ≡ 0 → ⊥) → (d : ℕ) → d ≡ 48 + left / get_or units i 0 → (o' : List ℕ) (p' : ℕ)
        → written o' p' ≡ put_at o p (d ∷ []) → Placed w o' p' (left % get_or units i 0) (6 - (i + 1))
    placed-more n d e o' p' put =
        let k : ℕ = 6 - (i + 1) in
        let u : get_or units i 0 ≡ 10 ^ k = (unit-is i h).1 in
        let q : put_at o p ((d ∷ []) ++ places_text k (left % 10 ^ k)) ≡ w =
        ap (put_at o p) (ap₂ (λ (x : ℕ) (l : List ℕ). x ∷ l) (e ∙ ap (λ (x : ℕ). 48 + left / x) u) refl
        ∙ sym (places-more k left (omega arith)) ∙ ap (λ (j : ℕ). places_text j left) (sym (unit-is i h).0)) ∙ s.rest in
        record {
          small = rw u (mod-lt left (ten-some k));
          rest = ap (λ (x : ℕ). put_at o' p' (places_text k (left % x))) u
              ∙ putting-more o p (d ∷ []) (places_text k (left % 10 ^ k)) q put;
        }

-- ---- the writer of millionths: a whole part, and behind it nothing, or a point and digits
pub behind-none : behind_text 0 ≡ []
unfolding behind_text
behind-none = refl

pub behind-some : (r : ℕ) → 0 < r → behind_text r ≡ 46 ∷ places_text 6 r
unfolding behind_text
behind-some r h = rw (ne_eqb r 0 (omega arith), behind_text)

module _ (z : ℕ) (o : List ℕ) (at : ℕ) {o₁ : List ℕ} {p₁ : ℕ} (whole : written o₁ p₁ ≡ put_at o at (count_text (z / million))) where
  pub millionths-whole : z % million ≡ 0 → written o₁ p₁ ≡ put_at o at (millionths_text z)
  unfolding millionths_text
  millionths-whole e =
      put_as o at (count_text (z / million)) whole (millionths_text z)
      (sym (ap (λ (r : ℕ). count_text (z / million) ++ behind_text r) e
      ∙ ap (λ (l : List ℕ). count_text (z / million) ++ l) behind-none ∙ append-nil (count_text (z / million))))

  pub millionths-rest : (z % million ≡ 0 → ⊥) → {o₂ o₃ : List ℕ} {p₂ p₃ : ℕ} → written o₂ p₂ ≡ put_at o₁ p₁ (46 ∷ [])
      → written o₃ p₃ ≡ put_at o₂ p₂ (places_text 6 (z % million)) → written o₃ p₃ ≡ put_at o at (millionths_text z)
  unfolding millionths_text
  millionths-rest d point digits =
      put_as o at (count_text (z / million) ++ (46 ∷ places_text 6 (z % million)))
      (put_then o at (count_text (z / million)) whole (46 ∷ places_text 6 (z % million))
      (put_then o₁ p₁ (46 ∷ []) point (places_text 6 (z % million)) digits)) (millionths_text z)
      (ap (λ (l : List ℕ). count_text (z / million) ++ l) (sym (behind-some (z % million) (omega arith))))
