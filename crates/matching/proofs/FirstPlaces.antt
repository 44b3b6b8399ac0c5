-- Laws of first places: of two lists side by side, and of places that fail a test. Assumes nothing.
use mathlib.Core.Path.{◌≡◌, refl, sym, ap, ap₂, ◌∙◌}
use mathlib.Core.Bool.{Bool, true, false, cond}
use mathlib.Core.List.{List, [], ◌∷◌}
use Prim.Native.Nat.{ℕ, zero, suc, ◌+◌, ◌-◌, ◌^◌, ◌≤◌, ◌<◌}
use native.Mathlib.Numerals.{add-one}
use native.Mathlib.Omega.{arith}
use lib.Dec.{leb}
use lib.IntN.{ℤ}
use lib.Signed.{mag}
use lib.ListN.{length}
use borrow.Author.Tests.{leb-true}
use mir.Syntax.{w64}
use mir.Val.{to_z, of_z, hbits}
use mir.Facts.{to_z-of_z}
use Rattle.basis.proofs.Tests.{held, and_first, and_second}
use Rattle.basis.specs.Scan.{or_else}
use Rattle.basis.proofs.Scans.{or-more}
use Rattle.basis.specs.Area.{column}
use Rattle.matching.specs.Cover.{failing_place}
use Rattle.matching.specs.Verdict.{first_place}
use Rattle.matching.specs.Calls.{room_in_three}

-- ---- the first of the places from i up to n that fails a test
module _ (p : ℕ → Bool) (n i : ℕ) where
  pub fails-nowhere : n ≤ i → failing_place p (n - i) i ≡ 0
  unfolding failing_place
  fails-nowhere h = let e : n - i ≡ 0 = omega arith in rw e

  pub fails-here : i < n → p i ≡ false → failing_place p (n - i) i ≡ i + 1
  unfolding failing_place
  fails-here l h = let e : n - i ≡ suc (n - (i + 1)) = omega arith in rw (e, h)

  pub fails-later : i < n → p i ≡ true → failing_place p (n - i) i ≡ failing_place p (n - (i + 1)) (i + 1)
  unfolding failing_place
  fails-later l h = let e : n - i ≡ suc (n - (i + 1)) = omega arith in rw (e, h)

-- the first of n places, from i on, one place more, and by two tests that agree
pub failing-more : (p : ℕ → Bool) (n i : ℕ) → failing_place p (suc n) i ≡ or_else (failing_place p n i) (cond (p (i + n)) 0 (i + n + 1))
unfolding failing_place
failing-more p zero i = let e : i + 0 ≡ i = omega arith in rw e
failing-more p (suc n) i = by (p i) (failing-more p n (i + 1))
  where
    by : (t : Bool) → failing_place p (suc n) (i + 1) ≡ or_else (failing_place p n (i + 1)) (cond (p (i + 1 + n)) 0 (i + 1 + n + 1))
        → cond t (failing_place p (suc n) (i + 1)) (i + 1)
        ≡ or_else (cond t (failing_place p n (i + 1)) (i + 1)) (cond (p (i + suc n)) 0 (i + suc n + 1))
    by true h = let e : i + 1 + n ≡ i + suc n = omega arith in rw e at h
    by false h = sym (or-more i _)

pub failing-same : (p q : ℕ → Bool) (n i : ℕ) → ((j : ℕ) → i ≤ j → j < i + n → p j ≡ q j) → failing_place p n i ≡ failing_place q n i
unfolding failing_place
failing-same p q zero i h = refl
failing-same p q (suc n) i h =
    ap₂ (λ (t : Bool) (k : ℕ). cond t k (i + 1)) (h i (omega arith) (omega arith))
    (failing-same p q n (i + 1) (λ j k l. h j (omega arith) (omega arith)))

pub failing-bound : (p : ℕ → Bool) (n i : ℕ) → failing_place p n i ≤ i + n
unfolding failing_place
failing-bound p zero i = omega arith
failing-bound p (suc n) i = by (p i) (failing-bound p n (i + 1))
  where
    by : (t : Bool) → failing_place p n (i + 1) ≤ i + 1 + n → cond t (failing_place p n (i + 1)) (i + 1) ≤ i + suc n
    by true h = omega arith
    by false h = omega arith

-- of two lists of one length the first place is one of theirs, or 0
pub first-bound : {A B : Type 0} (alike : A → B → Bool) (k : ℕ) (a : List A) (b : List B) → length a ≡ length b
    → first_place alike (k + 1) a b ≤ k + length b
unfolding first_place
first-bound alike k [] [] e = omega arith
first-bound alike k [] (y ∷ b) e = absurd (omega arith)
first-bound alike k (x ∷ a) [] e = absurd (omega arith)
first-bound alike k (x ∷ a) (y ∷ b) e = by (alike x y) (first-bound alike (k + 1) a b (omega arith))
  where
    by : (t : Bool) → first_place alike (k + 1 + 1) a b ≤ k + 1 + length b
        → cond t (first_place alike (k + 1 + 1) a b) (k + 1) ≤ k + suc (length b)
    by true h = omega arith
    by false h = omega arith

-- two columns side by side fail where their members do
pub first-column : {A B : Type 0} (alike : A → B → Bool) (f : ℕ → A) (g : ℕ → B) (n i : ℕ)
    → first_place alike (i + 1) (column f i n) (column g i n) ≡ failing_place (λ v. alike (f v) (g v)) n i
unfolding first_place failing_place column
first-column alike f g zero i = refl
first-column alike f g (suc n) i =
    ap (λ (k : ℕ). cond (alike (f i) (g i)) k (i + 1))
    (ap (λ (j : ℕ). first_place alike (i + 1 + 1) (column f j n) (column g j n)) (sym (add-one i)) ∙ first-column alike f g n (i + 1))

-- ---- three tests of room
module _ (n first second third : ℕ) where
  -- what the answer t of all tests says
  module _ {t : Bool} (e : t ≡ room_in_three n first second third) (f : t ≡ true) where
    pub room-first : n ≤ first
    room-first = leb-true n first (and_first (leb n first) _ (held t _ e f))

    pub room-second : n ≤ second
    room-second = leb-true n second (and_first (leb n second) (leb n third) (and_second (leb n first) _ (held t _ e f)))

    pub room-third : n ≤ third
    room-third = leb-true n third (and_second (leb n second) (leb n third) (and_second (leb n first) _ (held t _ e f)))

-- a signed number that went through the machine's bits
pub bits_back : (z : ℤ) → mag z < 2 ^ hbits w64 → to_z w64 (of_z w64 z) ≡ z
bits_back z h = to_z-of_z {w = w64} {z = z} (record { sfits = h })
