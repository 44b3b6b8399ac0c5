-- Laws of closeness: a product without its last digits, the distance as a window, and its powers of ten cancelled. Assumes nothing.
use mathlib.Core.Path.{◌≡◌, refl, sym, ap, ap₂, ◌∙◌, subst}
use mathlib.Core.Bool.{Bool, true, false, ◌&&◌}
use Prim.Native.Nat.{ℕ, zero, suc, ◌+◌, ◌-◌, ◌*◌, ◌/◌, ◌%◌, ◌^◌, ◌≤◌, ◌<◌, min}
use native.Mathlib.Nat.{mul-le-mul_right, le_of_mul-le-mul_right, pow-succ', one-le-pow, div-add-mod'}
use native.Mathlib.Nat.{mod-lt, lt_of_not-le, not-le_of_lt, le-mul_of_pos_right, min-eq_left, min-eq_right, mul-one, mul-pos}
use native.Mathlib.Nat.{pos_of_ne-zero}
use native.Mathlib.Numerals.{add-one}
use native.Mathlib.Omega.{arith}
use lib.Pow.{pow-add}
use lib.Dec.{leb, eqb, eqb-suc-zero}
use borrow.Author.Tests.{leb-true, leb-false, le-leb, lt-leb, eqb-true, eqb-false, ne_eqb}
use Rattle.basis.proofs.Tests.{bool_cases, and-off, and-swap}
use Rattle.text.specs.Decimal.{decimal}
use Rattle.text.specs.declared.decimal.Decimal.{Decimal}
use Rattle.matching.specs.Close.{distance, is_close}

-- ---- a product whose last j digits are dropped: rest and part are what is left of it, and `exact` says that they were zeros
pub record Dropped (n d rest part : ℕ) (exact : Bool) (j : ℕ) : Type 0 where
  pub dropped : ℕ
  pub whole : d * n ≡ (rest * n + part) * 10 ^ j + dropped
  pub small : dropped < 10 ^ j
  pub told : exact ≡ eqb dropped 0
  pub below : part < n

pub dropped-none : (n d : ℕ) → 0 < n → Dropped n d d 0 true 0
dropped-none n d h = record { dropped = 0; whole = omega arith; small = omega arith; told = refl; below = h }

pub digit-within : (n rest : ℕ) → rest % 10 * n ≤ 9 * n
digit-within n rest = let ten : 0 < 10 = omega arith in mul-le-mul_right n (let l = mod-lt rest ten in omega arith)

pub dropped-next : {n d rest part : ℕ} {exact : Bool} {j : ℕ} → Dropped n d rest part exact j
    → {e : Bool} → e ≡ (exact && eqb ((part + rest % 10 * n) % 10) 0)
    → Dropped n d (rest / 10) ((part + rest % 10 * n) / 10) e (j + 1)
dropped-next {n} {d} {rest} {part} {exact} {j} h {e} q =
    record {
      dropped = v * 10 ^ j + h.dropped;
      whole = rw (add-one, pow-succ' 10 j) (h.whole ∙ ap (λ (x : ℕ). x * 10 ^ j + h.dropped) left ∙ omega arith);
      small = rw (add-one, pow-succ' 10 j) (let m : v * 10 ^ j ≤ 9 * 10 ^ j = mul-le-mul_right (10 ^ j) (omega (arith, last)) in
          omega (arith, h.small));
      told = q ∙ told (eqb v 0) refl;
      below = omega (arith, digit-within n rest, h.below, div-add-mod' sum 10);
    }
  where
    ten : 0 < 10
    ten = omega arith

    sum : ℕ
    sum = part + rest % 10 * n

    v : ℕ
    v = sum % 10

    last : v < 10
    last = mod-lt sum ten

    left : rest * n + part ≡ (rest / 10 * n + sum / 10) * 10 + v
    left =
        let f : rest * n ≡ (rest / 10 * 10 + rest % 10) * n = ap (λ (x : ℕ). x * n) (sym (div-add-mod' rest 10)) in
        omega (arith, div-add-mod' sum 10)

    told : (t : Bool) → eqb v 0 ≡ t → (exact && t) ≡ eqb (v * 10 ^ j + h.dropped) 0
    told true t =
        let z : v * 10 ^ j + h.dropped ≡ h.dropped = rw (eqb-true v 0 t) (omega arith) in
        rw z (and-swap exact true ∙ h.told)
    told false t =
        let z : 0 < v * 10 ^ j = mul-pos (pos_of_ne-zero (eqb-false v 0 t)) (one-le-pow j 10 (omega arith)) in
        and-off exact false refl ∙ sym (ne_eqb (v * 10 ^ j + h.dropped) 0 (λ y. omega arith))

-- all of k digits
pub dropped-all : {n d rest part : ℕ} {exact : Bool} {j k : ℕ} → Dropped n d rest part exact j → j ≤ k → k ≤ j
    → Dropped n d rest part exact k
dropped-all {n} {d} {rest} {part} {exact} {j} {k} h l m = let e : j ≡ k = omega arith in subst (Dropped n d rest part exact) e h

-- what is left of it goes by the bounds of what the whole product was
pub left-within : (n rest high : ℕ) → 0 < n → rest ≤ high / n → rest * n ≤ high
left-within n rest high p l =
    let m : rest * n ≤ high / n * n = mul-le-mul_right n l in omega (arith, div-add-mod' high n)

-- what is left, x, against a bound, in place of the whole product
module _ {n d rest part : ℕ} {exact : Bool} {k : ℕ} (h : Dropped n d rest part exact k) (low high : ℕ) where
  abbrev Enclosed : Bool
  Enclosed = leb (low * 10 ^ k) (d * n) && leb (d * n) (high * 10 ^ k)

  above : {b : ℕ} → b < rest * n + part → b * 10 ^ k < d * n
  above {b} l =
      let m : suc b * 10 ^ k ≤ (rest * n + part) * 10 ^ k = mul-le-mul_right (10 ^ k) l in
      omega (arith, h.whole, h.small)

  under : {b : ℕ} → rest * n + part < b → d * n < b * 10 ^ k
  under {b} l =
      let m : suc (rest * n + part) * 10 ^ k ≤ b * 10 ^ k = mul-le-mul_right (10 ^ k) l in
      omega (arith, h.whole, h.small)

  from : {b : ℕ} → b ≤ rest * n + part → b * 10 ^ k ≤ d * n
  from {b} l =
      let m : b * 10 ^ k ≤ (rest * n + part) * 10 ^ k = mul-le-mul_right (10 ^ k) l in
      omega (arith, h.whole)

  pub enclosed-high : high < rest * n + part → false ≡ Enclosed
  enclosed-high l = sym (and-off (leb (low * 10 ^ k) (d * n)) _ (lt-leb (d * n) (high * 10 ^ k) (above l)))

  pub enclosed-over : 0 < n → high / n < rest → false ≡ Enclosed
  enclosed-over p l =
      let m : suc (high / n) * n ≤ rest * n = mul-le-mul_right n l in
      enclosed-high (omega (arith, div-add-mod' high n, mod-lt high p))

  pub enclosed-low : rest * n + part < low → false ≡ Enclosed
  enclosed-low l = rw (lt-leb (low * 10 ^ k) (d * n) (under l))

  module _ (l : low ≤ rest * n + part) where
    pub enclosed-inside : rest * n + part < high → true ≡ Enclosed
    enclosed-inside m = rw (le-leb (low * 10 ^ k) (d * n) (from l), le-leb (d * n) (high * 10 ^ k) (omega (arith, under m)))

    pub enclosed-edge : rest * n + part ≤ high → high ≤ rest * n + part → exact ≡ Enclosed
    enclosed-edge f g =
        let e : high ≡ rest * n + part = omega arith in
        rw (le-leb (low * 10 ^ k) (d * n) (from l))
        (h.told
        ∙ bool_cases (eqb h.dropped 0) (eqb h.dropped 0 ≡ leb (d * n) (high * 10 ^ k))
        (λ t. t ∙ sym (le-leb (d * n) (high * 10 ^ k) (rw e (omega (arith, h.whole, eqb-true h.dropped 0 t)))))
        (λ t. t ∙ sym (lt-leb (d * n) (high * 10 ^ k) (rw e (omega (arith, h.whole, eqb-false h.dropped 0 t))))))

-- ---- the distance as a window
same_test : {a b c d : ℕ} → (a ≤ b → c ≤ d) → (c ≤ d → a ≤ b) → leb a b ≡ leb c d
same_test {a} {b} {c} {d} f g = go (leb c d) refl
  where
    go : (t : Bool) → leb c d ≡ t → leb a b ≡ t
    go true e = le-leb a b (g (leb-true c d e))
    go false e = lt-leb a b (lt_of_not-le (λ h. not-le_of_lt (leb-false c d e) (f h)))

pub cancel : (x y c : ℕ) → 0 < c → leb (x * c) (y * c) ≡ leb x y
cancel x y c p = same_test (λ h. le_of_mul-le-mul_right h p) (λ h. mul-le-mul_right c h)

pub window : (x y : ℕ) → leb (10000 * distance x y) x ≡ (leb (9999 * x) (10000 * y) && leb (10000 * y) (10001 * x))
window x y = go (leb (9999 * x) (10000 * y)) (leb (10000 * y) (10001 * x)) refl refl
  where
    go : (p q : Bool) → leb (9999 * x) (10000 * y) ≡ p → leb (10000 * y) (10001 * x) ≡ q → leb (10000 * distance x y) x ≡ (p && q)
    go true true e f =
        le-leb (10000 * distance x y) x (omega (arith, leb-true (9999 * x) (10000 * y) e, leb-true (10000 * y) (10001 * x) f))
    go true false e f =
        lt-leb (10000 * distance x y) x (omega (arith, leb-true (9999 * x) (10000 * y) e, leb-false (10000 * y) (10001 * x) f))
    go false q e f = lt-leb (10000 * distance x y) x (omega (arith, leb-false (9999 * x) (10000 * y) e))

pub ten-pos : (k : ℕ) → 0 < 10 ^ k
ten-pos k = one-le-pow k 10 (omega arith)

-- ---- the powers cancelled: more are taken away than put on, or as many
pub close_down : (a b n u w : ℕ) → u ≤ w
    → is_close a b (decimal n u w) ≡ (leb (a * 9999 * 10 ^ (w - u)) (n * (b * 10000)) && leb (n * (b * 10000)) (a * 10001 * 10 ^ (w - u)))
unfolding is_close
close_down a b n u w h =
    let s : w - u + u ≡ w = omega arith in
    let e : 10 ^ w ≡ 10 ^ (w - u) * 10 ^ u = ap (λ (k : ℕ). 10 ^ k) (sym s) ∙ pow-add 10 (w - u) u in
    let lo : 9999 * (a * 10 ^ w) ≡ a * 9999 * 10 ^ (w - u) * 10 ^ u = rw e (omega arith) in
    let hi : 10001 * (a * 10 ^ w) ≡ a * 10001 * 10 ^ (w - u) * 10 ^ u = rw e (omega arith) in
    let md : 10000 * (b * (n * 10 ^ u)) ≡ n * (b * 10000) * 10 ^ u = omega arith in
    window (a * 10 ^ w) (b * (n * 10 ^ u))
    ∙ ap₂ ◌&&◌ (ap₂ leb lo md ∙ cancel _ _ (10 ^ u) (ten-pos u)) (ap₂ leb md hi ∙ cancel _ _ (10 ^ u) (ten-pos u))

-- the same where more are put on; past the cap c nothing changes
capped-low : (y x c m : ℕ) → y < c → 0 < m → leb y (x * m) ≡ leb y (min x c * m)
capped-low y x c m h p = go (leb x c) refl
  where
    go : (t : Bool) → leb x c ≡ t → leb y (x * m) ≡ leb y (min x c * m)
    go true e = rw (min-eq_left (leb-true x c e))
    go false e =
        let l : c ≤ x = omega (arith, leb-false x c e) in
        rw (min-eq_right l)
        (le-leb y (x * m) (omega (arith, le-mul_of_pos_right x p)) ∙ sym (le-leb y (c * m) (omega (arith, le-mul_of_pos_right c p))))

capped-high : (y x c m : ℕ) → y < c → 0 < m → leb (x * m) y ≡ leb (min x c * m) y
capped-high y x c m h p = go (leb x c) refl
  where
    go : (t : Bool) → leb x c ≡ t → leb (x * m) y ≡ leb (min x c * m) y
    go true e = rw (min-eq_left (leb-true x c e))
    go false e =
        let l : c ≤ x = omega (arith, leb-false x c e) in
        rw (min-eq_right l)
        (lt-leb (x * m) y (omega (arith, le-mul_of_pos_right x p)) ∙ sym (lt-leb (c * m) y (omega (arith, le-mul_of_pos_right c p))))

pub close_up : (a b n u w c : ℕ) → w ≤ u → 0 < b → a * 10001 < c
    → is_close a b (decimal n u w) ≡ (leb (a * 9999 * 10 ^ 0) (min (n * 10 ^ (u - w)) c * (b * 10000))
    && leb (min (n * 10 ^ (u - w)) c * (b * 10000)) (a * 10001 * 10 ^ 0))
unfolding is_close
close_up a b n u w c h p l =
    let s : u - w + w ≡ u = omega arith in
    let e : 10 ^ u ≡ 10 ^ (u - w) * 10 ^ w = ap (λ (k : ℕ). 10 ^ k) (sym s) ∙ pow-add 10 (u - w) w in
    let lo : 9999 * (a * 10 ^ w) ≡ a * 9999 * 10 ^ w = omega arith in
    let hi : 10001 * (a * 10 ^ w) ≡ a * 10001 * 10 ^ w = omega arith in
    let md : 10000 * (b * (n * 10 ^ u)) ≡ n * 10 ^ (u - w) * (b * 10000) * 10 ^ w = rw e (omega arith) in
    let q : 0 < b * 10000 = omega arith in
    window (a * 10 ^ w) (b * (n * 10 ^ u))
    ∙ ap₂ ◌&&◌
    (ap₂ leb lo md ∙ cancel _ _ (10 ^ w) (ten-pos w) ∙ capped-low (a * 9999) (n * 10 ^ (u - w)) c (b * 10000) (omega arith) q
    ∙ ap (λ (k : ℕ). leb k (min (n * 10 ^ (u - w)) c * (b * 10000))) (sym (mul-one (a * 9999))))
    (ap₂ leb md hi ∙ cancel _ _ (10 ^ w) (ten-pos w) ∙ capped-high (a * 10001) (n * 10 ^ (u - w)) c (b * 10000) l q
    ∙ ap (leb (min (n * 10 ^ (u - w)) c * (b * 10000))) (sym (mul-one (a * 10001))))

-- no fraction at all
pub close-none : (a n u w : ℕ) → is_close a 0 (decimal n u w) ≡ eqb a 0
unfolding is_close
close-none zero n u w = le-leb (10000 * distance (0 * 10 ^ w) (0 * (n * 10 ^ u))) (0 * 10 ^ w) (omega arith)
close-none (suc a) n u w =
    let p : 0 < suc a * 10 ^ w = mul-pos (omega arith) (ten-pos w) in
    lt-leb (10000 * distance (suc a * 10 ^ w) (0 * (n * 10 ^ u))) (suc a * 10 ^ w) (omega arith) ∙ sym (eqb-suc-zero a)

-- "r = 0 matches only zero"
pub zero-only : (b n u w : ℕ) → 0 < b → is_close 0 b (decimal n u w) ≡ eqb n 0
unfolding is_close
zero-only b zero u w p = le-leb (10000 * distance (0 * 10 ^ w) (b * (0 * 10 ^ u))) (0 * 10 ^ w) (omega arith)
zero-only b (suc n) u w p =
    let q : 0 < b * (suc n * 10 ^ u) = mul-pos p (mul-pos (omega arith) (ten-pos u)) in
    lt-leb (10000 * distance (0 * 10 ^ w) (b * (suc n * 10 ^ u))) (0 * 10 ^ w) (omega arith) ∙ sym (eqb-suc-zero n)

-- ---- the ways out of `close`: r is what `enclosed` answers
module _ (a b : ℕ) (s : Decimal) where
  pub close-zero : b ≡ 0 → eqb a 0 ≡ is_close a b s
  close-zero e = rw e (sym (close-none a s.digits s.up s.down))

  module _ (r : Bool) where
    pub close-lower : s.up ≤ s.down
        → r ≡ (leb (a * 9999 * 10 ^ (s.down - s.up)) (s.digits * (b * 10000))
        && leb (s.digits * (b * 10000)) (a * 10001 * 10 ^ (s.down - s.up)))
        → r ≡ is_close a b s
    close-lower h e = e ∙ sym (close_down a b s.digits s.up s.down h)

    pub close-higher : a < 2 ^ 32 → (b ≡ 0 → ⊥) → s.down < s.up → (m : ℕ) → m ≡ min (s.digits * 10 ^ (s.up - s.down)) (10 ^ 18)
        → r ≡ (leb (a * 9999 * 10 ^ 0) (m * (b * 10000)) && leb (m * (b * 10000)) (a * 10001 * 10 ^ 0)) → r ≡ is_close a b s
    close-higher f d h m q e =
        e ∙ ap (λ (x : ℕ). leb (a * 9999 * 10 ^ 0) (x * (b * 10000)) && leb (x * (b * 10000)) (a * 10001 * 10 ^ 0)) q
        ∙ sym (close_up a b s.digits s.up s.down (10 ^ 18) (omega arith) (pos_of_ne-zero d) (omega arith))
