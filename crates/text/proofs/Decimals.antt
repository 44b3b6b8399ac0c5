-- Laws of the decimal of a coefficient claim: one for each way the code leaves, and that its number is never cut down. Assumes nothing.
use Prim.Native.Nat.{ℕ, suc, ◌+◌, ◌-◌, ◌*◌, ◌^◌, ◌≤◌, ◌<◌}
use mathlib.Core.Path.{◌≡◌, refl, sym, ap, ◌∙◌}
use mathlib.Core.List.{List, [], ◌∷◌}
use mathlib.Core.Bool.{Bool, true, false, cond, ◌&&◌, ◌||◌}
use mathlib.Core.Logic.{⊎_elim}
use native.Mathlib.Omega.{arith}
use native.Mathlib.Nat.{zero-add, one-mul, le_trans, mul-le-mul_right, mul_assoc, pow-succ', pow-le-pow_right, eq-or-lt_of_le}
use borrow.Author.Tests.{le-leb, lt-leb, leb-true, lt-ltb, le-ltb, eq-eqb, ne_eqb, eqb-true}
use lib.Dec.{leb, ltb, eqb}
use lib.ListN.{length, get_or, drop, length-drop, get_or-eq_default}
use lib.Pow.{pow-add}
use Rattle.basis.proofs.Tests.{no-case, clash, false_of, bool_cases, and_first, and_second, and-off, failed, held}
use Rattle.text.specs.Word.{malformed, within, is_digit, with_digit, run_len, run_val}
use Rattle.text.specs.Decimal.{digit_limit, digit_of, up, down, wrong, past_point}
use Rattle.text.specs.Decimal.{whole_is_good, signed_power, power_at, parts_of, fraction_of, decimal_of}
use Rattle.text.specs.Stop.{digit_at, two_digits}
use Rattle.text.specs.Stop.{is_sign, digits_stop, digits_power, power_stop, parts_stop, fraction_stop, decimal_stop, power_word}
use Rattle.text.specs.Scan.{has_at, scanned, cut_number, run_at, decimal_says}
use Rattle.text.specs.declared.count.Scan.{Scan}
use Rattle.text.specs.declared.decimal.Decimal.{Decimal}
use Rattle.std.specs.Prelude.{None, Some, Result, Ok, Err}
use Rattle.text.specs.declared.decimal.Power.{Power}
use Rattle.text.specs.declared.decimal.Power.TheVariants as P
use Rattle.text.proofs.Bytes.{within-yes, within-is, has-here, has-is}
use Rattle.text.proofs.Runs.{val-digit, val-stop, len-digit, len-stop, len-le, cap-run}

-- ---- a digit
pub digit-yes : (b : ℕ) → 48 ≤ b → b ≤ 57 → true ≡ is_digit b
digit-yes b h k = sym (within-yes h k)

pub worth-yes : (b : ℕ) → 48 ≤ b → b ≤ 57 → b - 48 ≡ digit_of b
unfolding digit_of
worth-yes b h k = rw (← digit-yes b h k)

pub digit-small : (b : ℕ) → digit_of b ≤ 9
unfolding digit_of
digit-small b = by (is_digit b) refl
  where
    by : (t : Bool) → is_digit b ≡ t → cond t (b - 48) 0 ≤ 9
    by true e = let h = within-is 48 57 b e in omega arith
    by false e = omega arith

-- ---- the point, the digits before it, the power after it
module _ (s : List ℕ) (at : ℕ) where
  pub point-yes : has_at s at 46 ≡ true → at + 1 ≡ past_point s at
  unfolding past_point
  point-yes e = rw (eq-eqb (get_or s at 0) 46 (has-is s at 46 e))

  pub point-no : (get_or s at 0 ≡ 46 → ⊥) → at ≡ past_point s at
  unfolding past_point
  point-no e = rw (ne_eqb (get_or s at 0) 46 e)

  pub no-point : has_at s at 46 ≡ false → at ≡ past_point s at
  no-point e = point-no (λ q. clash (has-here s at 45 q) e)

pub whole-one : (s : List ℕ) (w : ℕ) → w ≡ 1 → true ≡ whole_is_good s w
unfolding whole_is_good
whole-one s w e = rw (eq-eqb w 1 e)

module _ (s : List ℕ) (w : ℕ) (n : w ≡ 1 → ⊥) where
  pub whole-none : w < 2 → false ≡ whole_is_good s w
  unfolding whole_is_good
  whole-none h = rw (ne_eqb w 1 n, le-ltb 1 w (omega arith))

  pub whole-zero : 2 ≤ w → get_or s 0 0 ≤ 48 → false ≡ whole_is_good s w
  unfolding whole_is_good
  whole-zero h k = rw (ne_eqb w 1 n, le-ltb 48 (get_or s 0 0) k, and-off (ltb 1 w) false refl)

  pub whole-more : 2 ≤ w → 48 < get_or s 0 0 → true ≡ whole_is_good s w
  unfolding whole_is_good
  whole-more h k = rw (ne_eqb w 1 n, lt-ltb 1 w h, lt-ltb 48 (get_or s 0 0) k)

pub no_sign : (g k : ℕ) → is_sign g ≡ false → signed_power g k ≡ wrong
unfolding signed_power is_sign
no_sign g k e = by (eqb g 43) (eqb g 45) e
  where
    by : (t u : Bool) → (t || u) ≡ false → cond t (up k) (cond u (down k) wrong) ≡ wrong
    by true u h = clash refl h
    by false true h = clash refl h
    by false false h = refl

-- ---- a digit at a place, or none
module _ (s : List ℕ) (at : ℕ) where
  pub digit-none : is_digit (get_or s at 0) ≡ false → None ≡ digit_at s at
  unfolding digit_at
  digit-none e = rw e

  pub digit-past : length s ≤ at → None ≡ digit_at s at
  unfolding within
  digit-past h = digit-none (ap is_digit (get_or-eq_default s 0 h))

  pub digit-some : (b : ℕ) → b ≡ get_or s at 0 → 48 ≤ b → b ≤ 57 → Some (b - 48) ≡ digit_at s at
  unfolding digit_at
  digit-some b e h k =
      let d : true ≡ is_digit b = digit-yes b h k in
      rw (← e, ← d) (ap Some (worth-yes b h k))

  digit-is-none : None ≡ digit_at s at → is_digit (get_or s at 0) ≡ false
  unfolding digit_at
  digit-is-none = by (is_digit (get_or s at 0)) (digit_of (get_or s at 0))
    where
      by : (t : Bool) (d : ℕ) → None ≡ cond t (Some d) None → t ≡ false
      by true d e = no-case cc
      by false d e = refl

  digit-read : (x : ℕ) → Some x ≡ digit_at s at → (is_digit (get_or s at 0) ≡ true) × (x ≡ digit_of (get_or s at 0))
  unfolding digit_at
  digit-read x = by (is_digit (get_or s at 0)) (digit_of (get_or s at 0))
    where
      by : (t : Bool) (d : ℕ) → Some x ≡ cond t (Some d) None → (t ≡ true) × (x ≡ d)
      by true d e = (refl, cc)
      by false d e = no-case cc

  pub digit-most : (x : ℕ) → Some x ≡ digit_at s at → x ≤ 9
  digit-most x e = omega (arith, (digit-read x e).1, digit-small (get_or s at 0))

-- ---- two digits
module _ (s : List ℕ) (at : ℕ) where
  pub two-first : None ≡ digit_at s at → Err at ≡ two_digits s at
  unfolding two_digits digits_stop
  two-first e = rw (digit-is-none s at e, and-off (eqb (length s) (at + 2)) false refl)

  module _ (x : ℕ) (e : Some x ≡ digit_at s at) where
    pub two-second : None ≡ digit_at s (at + 1) → Err (at + 1) ≡ two_digits s at
    unfolding two_digits digits_stop
    two-second f = rw ((digit-read s at x e).0, digit-is-none s (at + 1) f, and-off (eqb (length s) (at + 2)) false refl)

    module _ (y : ℕ) (f : Some y ≡ digit_at s (at + 1)) where
      pub two-long : (length s ≡ at + 2 → ⊥) → Err (at + 2) ≡ two_digits s at
      unfolding two_digits digits_stop
      two-long n = rw ((digit-read s at x e).0, (digit-read s (at + 1) y f).0, ne_eqb (length s) (at + 2) n)

      pub two-whole : length s ≡ at + 2 → Ok (x * 10 + y) ≡ two_digits s at
      unfolding two_digits
      two-whole l =
          rw ((digit-read s at x e).0, (digit-read s (at + 1) y f).0, eq-eqb (length s) (at + 2) l)
          (rw ((digit-read s at x e).1, (digit-read s (at + 1) y f).1))

  -- with a power P for the sign g
  abbrev powered : (ℕ → Power) → Result ℕ ℕ → Result Power ℕ
  powered P (Err q) = Err q
  powered P (Ok k) = Ok (P k)

  two-power : (g : ℕ) (P : ℕ → Power) → ((k stop : ℕ) → power_word (signed_power g k) stop ≡ Ok (P k))
      → powered P (two_digits s at) ≡ power_word (digits_power s at g) (digits_stop s at)
  unfolding two_digits digits_power
  two-power g P h =
      bool_cases (eqb (length s) (at + 2) && (is_digit (get_or s at 0) && is_digit (get_or s (at + 1) 0))) _
      (λ e. rw e (sym (h (digit_of (get_or s at 0) * 10 + digit_of (get_or s (at + 1) 0)) (digits_stop s at)))) (λ e. rw e)

-- ---- the power: the letter b, the sign g and two digits, or nothing
either_way : {A : Type 0} (t : Bool) (a : A) → cond t a a ≡ a
either_way true a = refl
either_way false a = refl

module _ (s : List ℕ) (at : ℕ) where
  pub power-none : length s ≡ at → Ok (P.Up 0) ≡ power_word (power_at s at) (power_stop s at)
  unfolding power_at
  power-none e = rw (eq-eqb (length s) at e)

  module _ (n : length s ≡ at → ⊥) (b : ℕ) (B : b ≡ get_or s at 0) where
    pub power-letter : (b ≡ 101 → ⊥) → Err at ≡ power_word (power_at s at) (power_stop s at)
    unfolding power_at power_stop
    power-letter k = rw (ne_eqb (length s) at n, ← B, ne_eqb b 101 k, and-off (eqb (length s) (at + 4)) false refl)

    module _ (k : b ≡ 101) (g : ℕ) (G : g ≡ get_or s (at + 1) 0) (t : Bool) (T : t ≡ is_sign g) where
      pub power-sign : t ≡ false → Err (at + 1) ≡ power_word (power_at s at) (power_stop s at)
      unfolding power_at power_stop
      power-sign q =
          let w = failed t (is_sign g) T q in
          rw (
            ne_eqb (length s) at n,
            ← B,
            eq-eqb b 101 k,
            ← G,
            no_sign g (digit_of (get_or s (at + 2) 0) * 10 + digit_of (get_or s (at + 3) 0)) w,
            w,
            either_way,
          )

      pub power-signed : t ≡ true → (r : Result Power ℕ) → r ≡ power_word (digits_power s (at + 2) g) (digits_stop s (at + 2))
          → r ≡ power_word (power_at s at) (power_stop s at)
      unfolding power_at power_stop digits_power
      power-signed q r h =
          let three : at + 2 + 1 ≡ at + 3 = omega arith in
          let four : at + 2 + 2 ≡ at + 4 = omega arith in
          rw (ne_eqb (length s) at n, ← B, eq-eqb b 101 k, ← G, held t (is_sign g) T q, ← three, ← four) h

  -- the code's ways out
  module _ (n : length s ≡ at → ⊥) where
    pub power-other : has_at s at 101 ≡ false → Err at ≡ power_word (power_at s at) (power_stop s at)
    power-other e = power-letter n (get_or s at 0) refl (λ q. clash (has-here s at 100 q) e)

    module _ (h : has_at s at 101 ≡ true) where
      signed : (g : ℕ) → has_at s (at + 1) g ≡ true → is_sign g ≡ true → (P : ℕ → Power)
          → ((k stop : ℕ) → power_word (signed_power g k) stop ≡ Ok (P k))
          → powered s (at + 2) P (two_digits s (at + 2)) ≡ power_word (power_at s at) (power_stop s at)
      signed g e i P f =
          power-signed n (get_or s at 0) refl (has-is s at 101 h) g (sym (has-is s (at + 1) g e)) true (sym i) refl
          (powered s (at + 2) P (two_digits s (at + 2))) (two-power s (at + 2) g P f)

      pub power-up : has_at s (at + 1) 43 ≡ true → (r : Result ℕ ℕ) → r ≡ two_digits s (at + 2)
          → powered s (at + 2) (λ k. P.Up k) r ≡ power_word (power_at s at) (power_stop s at)
      unfolding is_sign signed_power
      power-up e r f = ap (powered s (at + 2) (λ k. P.Up k)) f ∙ signed 43 e refl (λ k. P.Up k) (λ k stop. refl)

      pub power-down : has_at s (at + 1) 45 ≡ true → (r : Result ℕ ℕ) → r ≡ two_digits s (at + 2)
          → powered s (at + 2) (λ k. P.Down k) r ≡ power_word (power_at s at) (power_stop s at)
      unfolding is_sign signed_power
      power-down e r f = ap (powered s (at + 2) (λ k. P.Down k)) f ∙ signed 45 e refl (λ k. P.Down k) (λ k stop. refl)

      pub power-unsigned : has_at s (at + 1) 43 ≡ false → has_at s (at + 1) 45 ≡ false
          → Err (at + 1) ≡ power_word (power_at s at) (power_stop s at)
      unfolding is_sign
      power-unsigned e f =
          let g : ℕ = get_or s (at + 1) 0 in
          let p : eqb g 43 ≡ false = ne_eqb g 43 (λ q. clash (has-here s (at + 1) 42 q) e) in
          let m : eqb g 45 ≡ false = ne_eqb g 45 (λ q. clash (has-here s (at + 1) 44 q) f) in
          power-sign n (get_or s at 0) refl (has-is s at 101 h) g refl false (rw (p, m) refl) refl

-- ---- the parts of a decimal
module _ (s : List ℕ) (w p f n : ℕ) where
  pub parts_none : w ≡ 0 → scanned malformed 0 ≡ scanned (parts_of s w p f n) (parts_stop s w p f)
  unfolding parts_of parts_stop
  parts_none e = rw (eq-eqb w 0 e, ← whole-none s w (λ q. omega arith) (omega arith))

  module _ (z : w ≡ 0 → ⊥) (t : Bool) (h : t ≡ whole_is_good s w) where
    pub parts_whole : t ≡ false → scanned malformed 1 ≡ scanned (parts_of s w p f n) (parts_stop s w p f)
    unfolding parts_of parts_stop
    parts_whole e = rw (ne_eqb w 0 z, failed t (whole_is_good s w) h e)

    module _ (e : t ≡ true) where
      pub parts-long : digit_limit < p → scanned malformed digit_limit ≡ scanned (parts_of s w p f n) (parts_stop s w p f)
      unfolding parts_of parts_stop
      parts-long l = rw (ne_eqb w 0 z, held t (whole_is_good s w) h e, lt-ltb digit_limit p l, too_long)
        where
          too_long : (leb p (w + f) && leb (w + f) digit_limit) ≡ false
          too_long =
              false_of (leb p (w + f) && leb (w + f) digit_limit)
              (λ q. let a : p ≤ w + f = leb-true p (w + f) (and_first (leb p (w + f)) (leb (w + f) digit_limit) q) in
              let b : w + f ≤ digit_limit = leb-true (w + f) digit_limit (and_second (leb p (w + f)) (leb (w + f) digit_limit) q) in
              omega arith)

      module _ (l : p ≤ digit_limit) where
        pub parts-point : w + f < p → scanned malformed p ≡ scanned (parts_of s w p f n) (parts_stop s w p f)
        unfolding parts_of parts_stop
        parts-point k = rw (ne_eqb w 0 z, held t (whole_is_good s w) h e, le-ltb digit_limit p l, lt-ltb (w + f) p k, lt-leb p (w + f) k)

        module _ (k : p ≤ w + f) where
          pub parts-limit : digit_limit < w + f → scanned malformed (p + (digit_limit - w))
              ≡ scanned (parts_of s w p f n) (parts_stop s w p f)
          unfolding parts_of parts_stop
          parts-limit m =
              rw (
                ne_eqb w 0 z,
                held t (whole_is_good s w) h e,
                le-ltb digit_limit p l,
                le-ltb (w + f) p k,
                lt-ltb digit_limit (w + f) m,
                le-leb p (w + f) k,
                lt-leb (w + f) digit_limit m,
              )

-- ---- digits so few are never cut down
pub run_small : (a : ℕ) (l : List ℕ) → suc (run_val a l) ≤ suc a * 10 ^ run_len l
run_small a [] = omega arith
run_small a (b ∷ l) = by (is_digit b) refl (λ k. run_small k l)
  where
    by : (t : Bool) → is_digit b ≡ t → ((k : ℕ) → suc (run_val k l) ≤ suc k * 10 ^ run_len l)
        → suc (run_val a (b ∷ l)) ≤ suc a * 10 ^ run_len (b ∷ l)
    by true e f =
        let h = within-is 48 57 b e in
        let m : suc (with_digit a b) ≤ suc a * 10 = omega arith in
        let q : run_len (b ∷ l) ≡ suc (run_len l) = omega (arith, len-digit b l e) in
        rw (val-digit a b l e, q) (rw pow-succ' (rw (← mul_assoc) (le_trans (f (with_digit a b)) (mul-le-mul_right (10 ^ run_len l) m))))
    by false e f = rw (val-stop a b l e, len-stop b l e) (omega arith)

few-digits : (s : List ℕ) (p : ℕ) → run_len s + run_len (drop p s) ≤ digit_limit → run_val (run_val 0 s) (drop p s) < 10 ^ digit_limit
few-digits s p h =
    let a : suc (run_val 0 s) ≤ 10 ^ run_len s = rw one-mul at (run_small 0 s) in
    let b : suc (run_val (run_val 0 s) (drop p s)) ≤ suc (run_val 0 s) * 10 ^ run_len (drop p s) = run_small (run_val 0 s) (drop p s) in
    let t : 10 ^ (run_len s + run_len (drop p s)) ≤ 10 ^ digit_limit = pow-le-pow_right (omega arith) h in
    le_trans b (le_trans (mul-le-mul_right (10 ^ run_len (drop p s)) a) (rw pow-add at t))

parts_cut : (s : List ℕ) (p : ℕ) → parts_of s (run_len s) p (run_len (drop p s)) (cut_number (run_val (run_val 0 s) (drop p s)))
    ≡ fraction_of s (run_len s) p
unfolding parts_of fraction_of
parts_cut s p =
    bool_cases (leb (run_len s + run_len (drop p s)) digit_limit) _
    (λ e. let h : run_val (run_val 0 s) (drop p s) < 10 ^ digit_limit = few-digits s p
    (leb-true (run_len s + run_len (drop p s)) digit_limit e) in
    let c : cut_number (run_val (run_val 0 s) (drop p s)) ≡ run_val (run_val 0 s) (drop p s) = omega arith in
    rw c)
    (λ e. rw (e, and-off (leb p (run_len s + run_len (drop p s))) false refl, and-off (whole_is_good s (run_len s)) false refl))

-- ---- a whole decimal
pub point-from : (s : List ℕ) (w : ℕ) → w ≤ past_point s w
unfolding past_point
point-from s w = by (eqb (get_or s w 0) 46)
  where
    by : (t : Bool) → w ≤ cond t (w + 1) w
    by true = omega arith
    by false = omega arith

pub point-within : (s : List ℕ) (w : ℕ) → w ≤ length s → past_point s w ≤ length s
unfolding past_point
point-within s w h = by (eqb (get_or s w 0) 46) refl
  where
    by : (t : Bool) → eqb (get_or s w 0) 46 ≡ t → cond t (w + 1) w ≤ length s
    by false e = h
    by true e =
        ⊎_elim (λ q. absurd (let z : get_or s w 0 ≡ 0 = get_or-eq_default s 0 (omega (arith, q)) in
        omega (arith, eqb-true (get_or s w 0) 46 e)))
        (λ q. omega (arith, q)) (eq-or-lt_of_le h)

module _ (s : List ℕ) (whole : Scan ℕ) (p : ℕ) (all : Scan ℕ) (a : whole ≡ run_at s 0 0) (b : p ≡ past_point s whole.next)
    (c : all ≡ run_at s p whole.value) where
  whole-next : whole.next ≡ run_len s
  unfolding run_at
  whole-next = ap (λ (r : Scan ℕ). r.next) a ∙ zero-add (run_len s)

  all-next : all.next ≡ p + run_len (drop p s)
  unfolding run_at
  all-next = ap (λ (r : Scan ℕ). r.next) c

  all-number : all.value ≡ cut_number (run_val (run_val 0 s) (drop p s))
  unfolding run_at
  all-number =
      ap (λ (r : Scan ℕ). r.value) c
      ∙ ap (λ (r : Scan ℕ). cut_number (run_val r.value (drop p s))) a
      ∙ cap-run (run_val 0 s) (drop p s)

  pub decimal-from : whole.next ≤ p
  decimal-from = omega (arith, b, point-from s whole.next)

  pub decimal-on : p ≤ all.next
  decimal-on = omega (arith, all-next)

  pub decimal-within : p + (all.next - p) ≤ length s
  decimal-within =
      let h : p ≤ length s = omega (arith, b, point-within s whole.next (omega (arith, whole-next, len-le s))) in
      omega (arith, all-next, len-le (drop p s), length-drop p s)

  pub decimal-is : (r : Result Decimal ℕ) → decimal_says (length s) r
      ≡ scanned (parts_of s whole.next p (all.next - p) all.value) (parts_stop s whole.next p (all.next - p))
      → decimal_says (length s) r ≡ scanned (decimal_of s) (decimal_stop s)
  unfolding decimal_of decimal_stop fraction_stop
  decimal-is r h =
      let f : all.next - p ≡ run_len (drop p s) = omega (arith, all-next) in
      let q : p ≡ past_point s (run_len s) = b ∙ ap (past_point s) whole-next in
      h
      ∙ (rw (whole-next, all-number, f, parts_cut s p))
      ∙ ap (λ (k : ℕ). scanned (fraction_of s (run_len s) k) (parts_stop s (run_len s) k (run_len (drop k s)))) q
