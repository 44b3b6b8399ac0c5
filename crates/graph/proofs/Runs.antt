-- What std's tests of many answer, in the words of the definitions: `all`, two slices that are equal, and a slice that is sorted. Assumes
-- nothing.
use Prim.Native.Nat.{ℕ, zero, suc, ◌+◌, ◌-◌, ◌≤◌, ◌<◌}
use mathlib.Core.Path.{◌≡◌, refl, sym, ap, ◌∙◌}
use mathlib.Core.Bool.{Bool, true, false, ◌&&◌}
use mathlib.Core.List.{List, [], ◌∷◌}
use native.Mathlib.Omega.{arith}
use native.Mathlib.Nat.{not-suc-le-zero}
use native.Mathlib.Numerals.{add-one}
use lib.ListN.{length, get_or, take, drop, length-take, length-drop}
use lib.Seq.{get_or-take}
use lib.Dec.{leb, eqb}
use borrow.Author.Tests.{le-leb, lt-leb}
use Rattle.std.specs.Prelude.{nat_eq}
use Rattle.std.specs.Ordering.{MatchOrdering, nat_cmp, is_le}
use Rattle.std.specs.declared.cmp.Ordering.{Ordering}
use Rattle.std.specs.declared.cmp.Ordering.TheVariants.{Less, Equal, Greater}
use Rattle.std.specs.Cmp.{ranks}
use Rattle.std.specs.Cmp.Lexicographic.{pointwise}
use Rattle.std.specs.List.{list_all, range_with_len, IsAllAdjacentAnswer}
use Rattle.std.proofs.lemmas.List.{get_or-drop}
use Rattle.std.proofs.lemmas.List.FromFn.{length-range_with_len, get_or-range_with_len}
use Rattle.basis.specs.Order.{rising_by}
use Rattle.basis.specs.Scan.{every, each}
use Rattle.basis.proofs.Tests.{clash, same_test, and_first, and_second}
use Rattle.basis.proofs.Scans.{every-at, every_of, every-fail, every-same, each-every}
use Rattle.basis.proofs.Orders.{rising_by-of, rising_by-fail}
use Rattle.graph.specs.Sound.{never_fall}
use Rattle.graph.specs.Walk.{at_ends}

-- ---- `all`, over a list, over the first of a list, and over the numbers below n
module _ {A : Type 0} (p : A → Bool) where
  pub all-each : (l : List A) → list_all p l ≡ each p l
  unfolding each
  all-each [] = refl
  all-each (x ∷ l) = ap (λ (t : Bool). p x && t) (all-each l)

  pub all-first : (z : A) (l : List A) (m : ℕ) → m ≤ length l → list_all p (take m l) ≡ every m (λ i. p (get_or l i z))
  all-first z l m h =
      let long : length (take m l) ≡ m = let e = length-take m l in omega arith in
      all-each (take m l) ∙ sym (each-every p z (take m l)) ∙ ap (λ (k : ℕ). every k (λ i. p (get_or (take m l) i z))) long
      ∙ every-same (λ i. p (get_or (take m l) i z)) (λ i. p (get_or l i z)) m (λ i g. ap p (get_or-take m l i z g))

pub all-below : (p : ℕ → Bool) (n : ℕ) → list_all p (range_with_len 0 n) ≡ every n p
all-below p n =
    all-each p (range_with_len 0 n) ∙ sym (each-every p 0 (range_with_len 0 n))
    ∙ ap (λ (k : ℕ). every k (λ i. p (get_or (range_with_len 0 n) i 0))) (length-range_with_len 0 n)
    ∙ every-same (λ i. p (get_or (range_with_len 0 n) i 0)) p n (λ i g. ap p (get_or-range_with_len 0 n i 0 g ∙ omega arith))

-- ---- two slices that are equal: place by place
pairs-at : (a b : List ℕ) → pointwise nat_eq a b ≡ true → (i : ℕ) → i < length a → eqb (get_or a i 0) (get_or b i 0) ≡ true
pairs-at [] b h i g = absurd (not-suc-le-zero g)
pairs-at (x ∷ a) [] h i g = clash h refl
pairs-at (x ∷ a) (y ∷ b) h i g =
    elim i as (λ i. i < length (x ∷ a) → eqb (get_or (x ∷ a) i 0) (get_or (y ∷ b) i 0) ≡ true) [
      | zero ↦ λ g. and_first (eqb x y) (pointwise nat_eq a b) h
      | suc i ↦ λ g. pairs-at a b (and_second (eqb x y) (pointwise nat_eq a b) h) i (omega arith)
    ] g

pairs-of : (a b : List ℕ) → length a ≡ length b → ((i : ℕ) → i < length a → eqb (get_or a i 0) (get_or b i 0) ≡ true)
    → pointwise nat_eq a b ≡ true
pairs-of [] [] l h = refl
pairs-of [] (y ∷ b) l h = absurd (omega arith)
pairs-of (x ∷ a) [] l h = absurd (omega arith)
pairs-of (x ∷ a) (y ∷ b) l h = rw (h 0 (omega arith)) (pairs-of a b (omega arith) (λ i g. h (suc i) (omega arith)))

pub ends-equal : (n : ℕ) (off cursors : List ℕ) → n < length off → n ≤ length cursors
    → pointwise nat_eq (take n cursors) (take (n + 1 - 1) (drop 1 off)) ≡ at_ends n off cursors
ends-equal n off cursors a b =
    ap (λ (k : ℕ). pointwise nat_eq (take n cursors) (take k (drop 1 off))) (omega arith)
    ∙ same_test (pointwise nat_eq (take n cursors) (take n (drop 1 off))) (at_ends n off cursors)
    (λ h. every_of (λ w. eqb (get_or cursors w 0) (get_or off (w + 1) 0)) n
    (λ i g. rw (here i g, there i g) at
    (pairs-at (take n cursors) (take n (drop 1 off)) h i (let e = length-take n cursors in omega arith))))
    (λ h. pairs-of (take n cursors) (take n (drop 1 off)) (long ∙ sym back)
    (λ i g. let e = long in
    rw (here i (omega arith), there i (omega arith))
    (every-at (λ w. eqb (get_or cursors w 0) (get_or off (w + 1) 0)) n i (omega arith) h)))
  where
    long : length (take n cursors) ≡ n
    long = let e = length-take n cursors in omega arith

    back : length (take n (drop 1 off)) ≡ n
    back = let e = length-take n (drop 1 off) in let d = length-drop 1 off in omega arith

    here : (i : ℕ) → i < n → get_or (take n cursors) i 0 ≡ get_or cursors i 0
    here i g = get_or-take n cursors i 0 g

    there : (i : ℕ) → i < n → get_or (take n (drop 1 off)) i 0 ≡ get_or off (i + 1) 0
    there i g = get_or-take n (drop 1 off) i 0 g ∙ get_or-drop 1 off i 0 ∙ ap (λ (k : ℕ). get_or off k 0) (omega arith)

-- ---- a slice that is sorted
le_test : (x y : ℕ) (r : Ordering) → MatchOrdering r (x < y) (x ≡ y) (y < x) → is_le r ≡ leb x y
le_test x y Less h = sym (le-leb x y (omega arith))
le_test x y Equal h = sym (le-leb x y (omega arith))
le_test x y Greater h = sym (lt-leb x y h)

module _ (n : ℕ) (off : List ℕ) (l : n < length off) where
  at_place : (i : ℕ) → i < n → is_le (nat_cmp (get_or (take (n + 1) off) i 0) (get_or (take (n + 1) off) (i + 1) 0))
      ≡ leb (get_or off i 0) (get_or off (i + 1) 0)
  at_place i g =
      rw (get_or-take (n + 1) off i 0 (omega arith), get_or-take (n + 1) off (i + 1) 0 (omega arith))
      (le_test (get_or off i 0) (get_or off (i + 1) 0) (nat_cmp (get_or off i 0) (get_or off (i + 1) 0))
      (ranks (get_or off i 0) (get_or off (i + 1) 0)))

  pub falls-sorted : (r : Bool) → IsAllAdjacentAnswer (λ x y b. is_le (nat_cmp x y) ≡ b) (take (n + 1) off) r → r ≡ never_fall n off
  falls-sorted true h =
      sym (every_of (λ v. leb (get_or off v 0) (get_or off (v + 1) 0)) n
      (λ i g. sym (at_place i g) ∙ h i 0 (let e = length-take (n + 1) off in omega arith)))
  falls-sorted false h =
      let g : h.0 < n = let e = length-take (n + 1) off in omega (arith, h.1) in
      sym (every-fail (λ v. leb (get_or off v 0) (get_or off (v + 1) 0)) n h.0 g (sym (at_place h.0 g) ∙ h.2 0))

pub rises-sorted : {A : Type 0} (less : A → A → Bool) (z : A) (l : List A) (r : Bool) → IsAllAdjacentAnswer (λ x y b. b ≡ less x y) l r
    → r ≡ rising_by less l
rises-sorted less z l true h = sym (rising_by-of less z l (λ i g. rw (← add-one i) (sym (h i z (omega arith)))))
rises-sorted less z l false h = sym (rising_by-fail less z l h.0 (omega (arith, h.1)) (rw (← add-one h.0) (sym (h.2 z))))
