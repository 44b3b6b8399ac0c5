-- Laws of `every`, `each`, `mem` and `bit`: what they say at an index, and what a scanning loop needs at its start, at a turn, where it
-- breaks off and at its end. Assumes nothing.
use Prim.Native.Nat.{ℕ, zero, suc, ◌+◌, ◌≤◌, ◌<◌}
use mathlib.Core.Path.{◌≡◌, refl, sym, ap, ap₂, ◌∙◌}
use mathlib.Core.Logic.{◌⊎◌, inl, inr, ⊎_elim}
use mathlib.Core.Bool.{Bool, true, false, ◌&&◌, ◌||◌}
use mathlib.Core.List.{List, [], ◌∷◌, ◌++◌}
use native.Mathlib.Omega.{arith}
use native.Mathlib.Nat.{not-suc-le-zero, le_of_suc-le-suc, eq-or-lt_of_le}
use native.Mathlib.Numerals.{add-one}
use lib.ListN.{length, get_or}
use lib.Dec.{eqb, ltb}
use borrow.Author.Tests.{eq-eqb, ne_eqb, eqb-true, ltb-true, lt-ltb}
use Rattle.basis.specs.Scan.{every, each, all_below, mem, or_else, bit}
use Rattle.basis.proofs.Tests.{clash, false_of, same_test, and_first, and_second, and_both}
use Rattle.basis.proofs.Tests.{or-first, or-second, or_cases, or_assoc, and_assoc}

-- ---- every number below a bound
module _ (p : ℕ → Bool) where
  pub every-none : every 0 p ≡ true
  unfolding every
  every-none = refl

  pub every_more : (i : ℕ) → every i p ≡ true → p i ≡ true → every (i + 1) p ≡ true
  unfolding every
  every_more i a h = ap (λ (k : ℕ). every k p) (add-one i) ∙ and_both a h

  pub every-at : (n i : ℕ) → i < n → every n p ≡ true → p i ≡ true
  unfolding every
  every-at zero i l a = absurd (not-suc-le-zero l)
  every-at (suc n) i l a =
      ⊎_elim (λ e. ap p e ∙ and_second (every n p) (p n) a) (λ g. every-at n i g (and_first (every n p) (p n) a))
      (eq-or-lt_of_le (le_of_suc-le-suc l))

  pub every_of : (n : ℕ) → ((i : ℕ) → i < n → p i ≡ true) → every n p ≡ true
  unfolding every
  every_of zero h = refl
  every_of (suc n) h = and_both (every_of n (λ i l. h i (omega arith))) (h n (omega arith))

  pub every-fail : (n i : ℕ) → i < n → p i ≡ false → every n p ≡ false
  every-fail n i l h = false_of (every n p) (λ e. clash (every-at n i l e) h)

  -- the scan is over
  pub every-end : (n i : ℕ) → n ≤ i → i ≤ n → every i p ≡ true → true ≡ every n p
  every-end n i a b h = let e : i ≡ n = omega arith in sym (ap (λ (k : ℕ). every k p) (sym e) ∙ h)

-- ---- each member of a list
module _ {A : Type 0} (p : A → Bool) (z : A) where
  pub each_at : (l : List A) → each p l ≡ true → (i : ℕ) → i < length l → p (get_or l i z) ≡ true
  unfolding each
  each_at [] h i g = absurd (not-suc-le-zero g)
  each_at (x ∷ l) h zero g = and_first (p x) (each p l) h
  each_at (x ∷ l) h (suc i) g = each_at l (and_second (p x) (each p l) h) i (omega arith)

  pub each_of : (l : List A) → ((i : ℕ) → i < length l → p (get_or l i z) ≡ true) → each p l ≡ true
  unfolding each
  each_of [] h = refl
  each_of (x ∷ l) h = and_both (h 0 (omega arith)) (each_of l (λ i g. h (suc i) (omega arith)))

  pub each-fail : (l : List A) (i : ℕ) → i < length l → p (get_or l i z) ≡ false → each p l ≡ false
  each-fail l i g h = false_of (each p l) (λ e. clash (each_at l e i g) h)

  -- a loop over the list is a loop over its places
  pub each-every : (l : List A) → every (length l) (λ i. p (get_or l i z)) ≡ each p l
  each-every l =
      same_test (every (length l) (λ i. p (get_or l i z))) (each p l)
      (λ h. each_of l (λ i g. every-at (λ i. p (get_or l i z)) (length l) i g h))
      (λ h. every_of (λ i. p (get_or l i z)) (length l) (λ i g. each_at l h i g))

pub each_append : {A : Type 0} (p : A → Bool) (a b : List A) → each p (a ++ b) ≡ (each p a && each p b)
unfolding each
each_append p [] b = refl
each_append p (x ∷ a) b = ap (λ (t : Bool). p x && t) (each_append p a b) ∙ and_assoc (p x) (each p a) (each p b)

pub below_at : (n : ℕ) (l : List ℕ) → all_below n l ≡ true → (i : ℕ) → i < length l → get_or l i 0 < n
below_at n l h i g = ltb-true (get_or l i 0) n (each_at (λ x. ltb x n) 0 l h i g)

pub below_of : (n : ℕ) (l : List ℕ) → ((i : ℕ) → i < length l → get_or l i 0 < n) → all_below n l ≡ true
below_of n l h = each_of (λ x. ltb x n) 0 l (λ i g. lt-ltb (get_or l i 0) n (h i g))

pub below_up : (n m : ℕ) (l : List ℕ) → n ≤ m → all_below n l ≡ true → all_below m l ≡ true
below_up n m l g h = below_of m l (λ i k. let a = below_at n l h i k in omega arith)

-- member by member
module _ (n : ℕ) where
  pub below_none : all_below n [] ≡ true
  unfolding each
  below_none = refl

  pub below_more : (x : ℕ) (l : List ℕ) → x < n → all_below n l ≡ true → all_below n (x ∷ l) ≡ true
  unfolding each
  below_more x l h g = and_both (lt-ltb x n h) g

  pub below-first : (x : ℕ) (l : List ℕ) → all_below n (x ∷ l) ≡ true → x < n
  below-first x l h = below_at n (x ∷ l) h 0 (omega arith)

  pub below_rest : (x : ℕ) (l : List ℕ) → all_below n (x ∷ l) ≡ true → all_below n l ≡ true
  unfolding each
  below_rest x l h = and_second (ltb x n) (all_below n l) h

  pub below-append : (a b : List ℕ) → all_below n a ≡ true → all_below n b ≡ true → all_below n (a ++ b) ≡ true
  below-append a b h g = each_append (λ x. ltb x n) a b ∙ and_both h g

-- ---- membership
pub mem_index : (x : ℕ) (l : List ℕ) (i : ℕ) → i < length l → get_or l i 0 ≡ x → mem x l ≡ true
unfolding mem
mem_index x [] i g e = absurd (not-suc-le-zero g)
mem_index x (y ∷ l) zero g e = or-first (eqb x y) (mem x l) (eq-eqb x y (sym e))
mem_index x (y ∷ l) (suc i) g e = or-second (eqb x y) (mem x l) (mem_index x l i (omega arith) e)

pub mem-none : (x : ℕ) (l : List ℕ) → ((i : ℕ) → i < length l → get_or l i 0 ≡ x → ⊥) → mem x l ≡ false
unfolding mem
mem-none x [] h = refl
mem-none x (y ∷ l) h = rw (ne_eqb x y (λ e. h 0 (omega arith) (sym e))) (mem-none x l (λ i g e. h (suc i) (omega arith) e))

-- what holds of each member holds of a member
pub each-mem : (p : ℕ → Bool) (l : List ℕ) → each p l ≡ true → (x : ℕ) → mem x l ≡ true → p x ≡ true
unfolding each mem
each-mem p [] h x m = clash m refl
each-mem p (y ∷ l) h x m = by (eqb x y) refl m (each-mem p l (and_second (p y) (each p l) h) x)
  where
    by : (t : Bool) → eqb x y ≡ t → (t || mem x l) ≡ true → (mem x l ≡ true → p x ≡ true) → p x ≡ true
    by true e k f = ap p (eqb-true x y e) ∙ and_first (p y) (each p l) h
    by false e k f = f k

-- ---- members of a longer list and of two lists
pub mem-none-of : (x : ℕ) → mem x [] ≡ true → ⊥
unfolding mem
mem-none-of x m = clash m refl

pub mem-head : (x : ℕ) (l : List ℕ) → mem x (x ∷ l) ≡ true
unfolding mem
mem-head x l = or-first (eqb x x) (mem x l) (eq-eqb x x refl)

pub mem-tail : (x y : ℕ) (l : List ℕ) → mem x l ≡ true → mem x (y ∷ l) ≡ true
unfolding mem
mem-tail x y l m = or-second (eqb x y) (mem x l) m

pub mem-cases : (x y : ℕ) (l : List ℕ) → mem x (y ∷ l) ≡ true → (x ≡ y) ⊎ (mem x l ≡ true)
unfolding mem
mem-cases x y l m = ⊎_elim (λ e. inl (eqb-true x y e)) (λ t. inr t) (or_cases (eqb x y) (mem x l) m)

pub mem-append : (x : ℕ) (a b : List ℕ) → mem x (a ++ b) ≡ (mem x a || mem x b)
unfolding mem
mem-append x [] b = refl
mem-append x (y ∷ a) b = ap (λ (t : Bool). eqb x y || t) (mem-append x a b) ∙ or_assoc (eqb x y) (mem x a) (mem x b)

pub below-mem : (n : ℕ) (l : List ℕ) → all_below n l ≡ true → (x : ℕ) → mem x l ≡ true → x < n
below-mem n l h x m = ltb-true x n (each-mem (λ x. ltb x n) l h x m)

-- ---- a test as a number
pub bit_le : (b : Bool) → bit b ≤ 1
bit_le true = omega arith
bit_le false = omega arith

-- two tests that agree below n; a number at which one fails
pub every-same : (p q : ℕ → Bool) (n : ℕ) → ((v : ℕ) → v < n → p v ≡ q v) → every n p ≡ every n q
unfolding every
every-same p q zero e = refl
every-same p q (suc n) e = ap₂ ◌&&◌ (every-same p q n (λ v l. e v (omega arith))) (e n (omega arith))

pub every_some : (p : ℕ → Bool) (n : ℕ) → every n p ≡ false → (i : ℕ) × (i < n) × (p i ≡ false)
unfolding every
every_some p zero e = clash refl e
every_some p (suc n) e = by (every n p) refl e (every_some p n)
  where
    by : (t : Bool) → every n p ≡ t → (t && p n) ≡ false → (every n p ≡ false → (i : ℕ) × (i < n) × (p i ≡ false))
        → (i : ℕ) × (i < suc n) × (p i ≡ false)
    by true q f h = (n, omega arith, f)
    by false q f h = let r = h q in (r.0, omega (arith, r.1), r.2)

-- ---- a line or a fault that was found before, or another
pub or-more : (k l : ℕ) → or_else (k + 1) l ≡ k + 1
or-more k l = rw (add-one k)

pub or_kept : (k l : ℕ) → (k ≡ 0 → ⊥) → k ≡ or_else k l
or_kept zero l h = absurd (h refl)
or_kept (suc k) l h = refl

pub or-zero : (k : ℕ) → or_else k 0 ≡ k
or-zero zero = refl
or-zero (suc k) = refl
