-- Where a decimal breaks off: never past the end of its word, and at the end where it is good. Assumes nothing.
use Prim.Native.Nat.{ℕ, ◌+◌, ◌-◌, ◌*◌, ◌≤◌, ◌<◌}
use mathlib.Core.Path.{◌≡◌, refl, sym, ap, ◌∙◌}
use mathlib.Core.List.{List}
use mathlib.Core.Bool.{Bool, true, false, cond, ◌&&◌}
use native.Mathlib.Omega.{arith}
use borrow.Author.Tests.{le-leb, leb-true, le-ltb, ltb-true, ltb-false, ne_eqb, eqb-true, eqb-false}
use lib.Dec.{leb, ltb, eqb}
use lib.ListN.{length, get_or, drop, length-drop}
use Rattle.basis.proofs.Tests.{no-case, clash, bool_cases, and_first, and_second, held}
use Rattle.text.specs.Word.{Word, malformed, outside, value, well_formed, is_digit, run_len, run_val}
use Rattle.text.specs.Decimal.{Exponent, up, down, wrong, digit_limit, digit_of, past_point}
use Rattle.text.specs.Decimal.{whole_is_good, signed_power, power_at, scaled, parts_of, fraction_of, decimal_of}
use Rattle.text.specs.Stop.{is_sign, digits_stop, power_stop, parts_stop, fraction_stop, decimal_stop, power_word, scaled_by}
use Rattle.text.specs.Scan.{scanned}
use Rattle.text.specs.declared.decimal.Decimal.{Decimal}
use Rattle.std.specs.Prelude.{Ok, Err}
use Rattle.text.specs.declared.decimal.Power.{Power}
use Rattle.text.specs.declared.decimal.Power.TheVariants as P
use Rattle.text.proofs.Bytes.{nothing-past, within-is}
use Rattle.text.proofs.Runs.{len-le}
use Rattle.text.proofs.Decimals.{no_sign, whole-none, point-from, point-within}

-- ---- a place at which a byte stands
byte-in : (s : List ℕ) (at : ℕ) → 0 < get_or s at 0 → at < length s
byte-in s at h =
    bool_cases (ltb at (length s)) (at < length s) (λ e. ltb-true at (length s) e)
    (λ e. absurd (omega (arith, nothing-past s at (ltb-false at (length s) e))))

letter-in : (s : List ℕ) (at : ℕ) → eqb (get_or s at 0) 101 ≡ true → at < length s
letter-in s at e = byte-in s at (omega (arith, eqb-true (get_or s at 0) 101 e))

digit-in : (s : List ℕ) (at : ℕ) → is_digit (get_or s at 0) ≡ true → at < length s
digit-in s at e = let h = within-is 48 57 (get_or s at 0) e in byte-in s at (omega arith)

sign-in : (s : List ℕ) (at : ℕ) → is_sign (get_or s at 0) ≡ true → at < length s
unfolding is_sign
sign-in s at e =
    bool_cases (ltb at (length s)) (at < length s) (λ h. ltb-true at (length s) h)
    (λ h. clash e (ap is_sign (nothing-past s at (ltb-false at (length s) h))))

-- past a sign g
-- ---- never past the end
pub cond-le : (t : Bool) (a b n : ℕ) → (t ≡ true → a ≤ n) → (t ≡ false → b ≤ n) → cond t a b ≤ n
cond-le true a b n f g = f refl
cond-le false a b n f g = g refl

digits-stop-le : (s : List ℕ) (at : ℕ) → at ≤ length s → digits_stop s at ≤ length s
unfolding digits_stop
digits-stop-le s at h =
    cond-le (is_digit (get_or s at 0)) _ at (length s)
    (λ a. cond-le (is_digit (get_or s (at + 1) 0)) (at + 2) (at + 1) (length s) (λ b. omega (arith, digit-in s (at + 1) b))
    (λ _. omega (arith, digit-in s at a)))
    (λ _. h)

power-stop-le : (s : List ℕ) (at : ℕ) → at ≤ length s → power_stop s at ≤ length s
unfolding power_stop
power-stop-le s at h =
    cond-le (eqb (get_or s at 0) 101) _ at (length s)
    (λ a. cond-le (is_sign (get_or s (at + 1) 0)) (digits_stop s (at + 2)) (at + 1) (length s)
    (λ b. digits-stop-le s (at + 2) (omega (arith, sign-in s (at + 1) b))) (λ _. omega (arith, letter-in s at a)))
    (λ _. h)

parts-stop-le : (s : List ℕ) (w p f : ℕ) → w ≤ p → p + f ≤ length s → parts_stop s w p f ≤ length s
unfolding parts_stop
parts-stop-le s w p f h k =
    cond-le (eqb w 0) 0 _ (length s) (λ _. omega arith)
    (λ a. cond-le (whole_is_good s w) _ 1 (length s)
    (λ b. cond-le (ltb digit_limit p) digit_limit _ (length s) (λ c. omega (arith, ltb-true digit_limit p c))
    (λ c. cond-le (ltb (w + f) p) p _ (length s) (λ _. omega arith)
    (λ d. cond-le (ltb digit_limit (w + f)) (p + (digit_limit - w)) _ (length s) (λ e. omega (arith, ltb-true digit_limit (w + f) e))
    (λ _. power-stop-le s (p + f) k))))
    (λ b. one a))
  where
    one : eqb w 0 ≡ false → 1 ≤ length s
    one a = bool_cases (ltb 0 w) (1 ≤ length s) (λ e. omega (arith, ltb-true 0 w e))
        (λ e. absurd (eqb-false w 0 a (omega (arith, ltb-false 0 w e))))

pub stop_le : (s : List ℕ) → decimal_stop s ≤ length s
unfolding decimal_stop fraction_stop
stop_le s =
    let w : ℕ = run_len s in
    let p : ℕ = past_point s w in
    let h : p ≤ length s = point-within s w (len-le s) in
    parts-stop-le s w p (run_len (drop p s)) (point-from s w) (omega (arith, len-le (drop p s), length-drop p s))

-- ---- the end of a good decimal
module _ (s : List ℕ) (n f : ℕ) where
  good-sign : (g k : ℕ) → well_formed (scaled n f (signed_power g k)) ≡ true → is_sign g ≡ true
  good-sign g k h =
      bool_cases (is_sign g) (is_sign g ≡ true) (λ e. e) (λ e. clash h (ap (λ (x : Exponent). well_formed (scaled n f x)) (no_sign g k e)))

  digits-whole : (at : ℕ) → is_digit (get_or s at 0) ≡ true → is_digit (get_or s (at + 1) 0) ≡ true → digits_stop s at ≡ at + 2
  unfolding digits_stop
  digits-whole at a b = rw (a, b)

  power-stop-good : (at : ℕ) → well_formed (scaled n f (power_at s at)) ≡ true → power_stop s at ≡ length s
  unfolding power_at power_stop
  power-stop-good at =
      let x : ℕ = get_or s (at + 2) 0 in
      let y : ℕ = get_or s (at + 3) 0 in
      let three : at + 2 + 1 ≡ at + 3 = omega arith in
      bool_cases (eqb (length s) at) _
      (λ a. let q : length s ≡ at = eqb-true (length s) at a in
      let z : get_or s at 0 ≡ 0 = nothing-past s at (omega arith) in
      λ _. rw z (sym q))
      (λ a. bool_cases (eqb (length s) (at + 4) && (eqb (get_or s at 0) 101 && (is_digit x && is_digit y))) _
      (λ b. let l : length s ≡ at + 4 = eqb-true (length s) (at + 4)
      (and_first (eqb (length s) (at + 4)) (eqb (get_or s at 0) 101 && (is_digit x && is_digit y)) b) in
      let m = and_second (eqb (length s) (at + 4)) (eqb (get_or s at 0) 101 && (is_digit x && is_digit y)) b in
      let o = and_second (eqb (get_or s at 0) 101) (is_digit x && is_digit y) m in
      let d = digits-whole (at + 2) (and_first (is_digit x) (is_digit y) o)
      (ap (λ (k : ℕ). is_digit (get_or s k 0)) three ∙ and_second (is_digit x) (is_digit y) o) in
      rw (a, b)
      (λ h. rw (
        and_first (eqb (get_or s at 0) 101) (is_digit x && is_digit y) m,
        good-sign (get_or s (at + 1) 0) (digit_of x * 10 + digit_of y) h,
      ) (omega (arith, d))))
      (λ b. rw (a, b) (λ h. clash h refl)))

  -- the last ways out of the parts: where their power breaks off, and with it
  module _ (w p : ℕ) (z : w ≡ 0 → ⊥) (t : Bool) (h : t ≡ whole_is_good s w) (e : t ≡ true) (l : p ≤ digit_limit) (k : p ≤ w + f)
      (m : w + f ≤ digit_limit) where
    parts-scaled : scanned (scaled n f (power_at s (p + f))) (power_stop s (p + f)) ≡ scanned (parts_of s w p f n) (parts_stop s w p f)
    unfolding parts_of parts_stop
    parts-scaled =
        rw (
          ne_eqb w 0 z,
          held t (whole_is_good s w) h e,
          le-ltb digit_limit p l,
          le-ltb (w + f) p k,
          le-ltb digit_limit (w + f) m,
          le-leb p (w + f) k,
          le-leb (w + f) digit_limit m,
        )

    pub parts-wrong : (y : ℕ) → Err y ≡ power_word (power_at s (p + f)) (power_stop s (p + f))
        → scanned malformed y ≡ scanned (parts_of s w p f n) (parts_stop s w p f)
    parts-wrong y j = by (power_at s (p + f)) (power_stop s (p + f)) j ∙ parts-scaled
      where
        by : (x : Exponent) (stop : ℕ) → Err y ≡ power_word x stop → scanned malformed y ≡ scanned (scaled n f x) stop
        by (up u) stop j = no-case cc
        by (down u) stop j = no-case cc
        by wrong stop j = let q : y ≡ stop = cc in ap (scanned malformed) q

    pub parts-good : (y : Power) → Ok y ≡ power_word (power_at s (p + f)) (power_stop s (p + f)) → (r : Decimal) → r ≡ scaled_by n f y
        → scanned (value r) (length s) ≡ scanned (parts_of s w p f n) (parts_stop s w p f)
    parts-good y j r g = by (power_at s (p + f)) (power_stop s (p + f)) j (power-stop-good (p + f)) ∙ parts-scaled
      where
        by : (x : Exponent) (stop : ℕ) → Ok y ≡ power_word x stop → (well_formed (scaled n f x) ≡ true → stop ≡ length s)
            → scanned (value r) (length s) ≡ scanned (scaled n f x) stop
        by (up u) stop j q =
            let v : y ≡ P.Up u = cc in rw (g, v, q refl)
        by (down u) stop j q = let v : y ≡ P.Down u = cc in rw (g, v, q refl)
        by wrong stop j q = no-case cc

  parts-stop-good : (w p : ℕ) → well_formed (parts_of s w p f n) ≡ true → parts_stop s w p f ≡ length s
  unfolding parts_of parts_stop
  parts-stop-good w p =
      bool_cases (whole_is_good s w && (leb p (w + f) && leb (w + f) digit_limit)) _
      (λ a. let b = and_first (whole_is_good s w) (leb p (w + f) && leb (w + f) digit_limit) a in
      let c = and_second (whole_is_good s w) (leb p (w + f) && leb (w + f) digit_limit) a in
      let d : p ≤ w + f = leb-true p (w + f) (and_first (leb p (w + f)) (leb (w + f) digit_limit) c) in
      let e : w + f ≤ digit_limit = leb-true (w + f) digit_limit (and_second (leb p (w + f)) (leb (w + f) digit_limit) c) in
      let z : eqb w 0 ≡ false = ne_eqb w 0 (λ q. clash b (sym (whole-none s w (λ k. omega arith) (omega arith)))) in
      rw a
      (λ h. rw (z, b, le-ltb digit_limit p (omega arith), le-ltb (w + f) p d, le-ltb digit_limit (w + f) e) (power-stop-good (p + f) h)))
      (λ a. rw a (λ h. clash h refl))

pub stop-good : (s : List ℕ) → well_formed (decimal_of s) ≡ true → decimal_stop s ≡ length s
unfolding decimal_of fraction_of decimal_stop fraction_stop
stop-good s h =
    let p : ℕ = past_point s (run_len s) in
    parts-stop-good s (run_val (run_val 0 s) (drop p s)) (run_len (drop p s)) (run_len s) p h

-- ---- a decimal is never out of range
abbrev pub NeverOutside : Word Decimal → Type 0
NeverOutside malformed = Unit {0}
NeverOutside outside = ⊥
NeverOutside (value d) = Unit {0}

scaled-never-outside : (n f : ℕ) (e : Exponent) → NeverOutside (scaled n f e)
scaled-never-outside n f (up k) = tt
scaled-never-outside n f (down k) = tt
scaled-never-outside n f wrong = tt

parts-never-outside : (s : List ℕ) (w p f n : ℕ) → NeverOutside (parts_of s w p f n)
unfolding parts_of
parts-never-outside s w p f n =
    bool_cases (whole_is_good s w && (leb p (w + f) && leb (w + f) digit_limit)) _
    (λ e. rw e (scaled-never-outside n f (power_at s (p + f))))
    (λ e. rw e tt)

pub decimal-never-outside : (s : List ℕ) → NeverOutside (decimal_of s)
unfolding decimal_of fraction_of
decimal-never-outside s =
    parts-never-outside s (run_len s) (past_point s (run_len s)) (run_len (drop (past_point s (run_len s)) s))
    (run_val (run_val 0 s) (drop (past_point s (run_len s)) s))
