-- Where a decimal breaks off depends on the bytes up to that place alone: so no good decimal begins with them. Assumes nothing.
use Prim.Native.Nat.{ℕ, zero, suc, ◌+◌, ◌-◌, ◌≤◌, ◌<◌}
use mathlib.Core.Path.{◌≡◌, refl, sym, ap, ◌∙◌}
use mathlib.Core.List.{List, [], ◌∷◌, ◌++◌}
use mathlib.Core.Bool.{Bool, true, false}
use native.Mathlib.Omega.{arith}
use borrow.Author.Tests.{lt-ltb, le-ltb, ltb-true, ltb-false, eq-eqb, ne_eqb, eqb-true, eqb-false}
use lib.Dec.{ltb, eqb}
use lib.ListN.{length, get_or, take, drop, length-append, get_or-append}
use lib.Seq.{length-take-le, get_or-take, get_or-drop}
use Rattle.basis.proofs.Tests.{clash, false_of, bool_cases}
use Rattle.text.specs.Word.{well_formed, within, is_digit, run_len}
use Rattle.text.specs.Decimal.{digit_limit, past_point, whole_is_good, decimal_of}
use Rattle.text.specs.Stop.{is_sign, digits_stop, power_stop, parts_stop, fraction_stop, decimal_stop}
use Rattle.text.proofs.Runs.{len-digit, len-stop}
use Rattle.text.proofs.Decimals.{whole-one, whole-none, whole-zero, whole-more, point-from}
use Rattle.text.proofs.Stops.{stop-good}

-- two words have the same bytes up to the place k and at it
abbrev pub Same : ℕ → List ℕ → List ℕ → Type 0
Same k s r = (j : ℕ) → j ≤ k → get_or s j 0 ≡ get_or r j 0

same_drop : (p k : ℕ) (s r : List ℕ) → Same (p + k) s r → Same k (drop p s) (drop p r)
same_drop p k s r e j h = get_or-drop p s j 0 ∙ e (p + j) (omega arith) ∙ sym (get_or-drop p r j 0)

-- ---- a run of digits by its bytes
pub run-before : (l : List ℕ) (j : ℕ) → j < run_len l → is_digit (get_or l j 0) ≡ true
run-before [] j h = absurd (omega arith)
run-before (b ∷ l) j h = by (is_digit b) refl j h (run-before l)
  where
    by : (t : Bool) → is_digit b ≡ t → (j : ℕ) → j < run_len (b ∷ l) → ((i : ℕ) → i < run_len l → is_digit (get_or l i 0) ≡ true)
        → is_digit (get_or (b ∷ l) j 0) ≡ true
    by true e zero h f = e
    by true e (suc j) h f = f j (omega (arith, len-digit b l e))
    by false e j h f = absurd (omega (arith, len-stop b l e))

pub run-here : (l : List ℕ) → is_digit (get_or l (run_len l) 0) ≡ false
unfolding within
run-here [] = refl
run-here (b ∷ l) = by (is_digit b) refl (run-here l)
  where
    by : (t : Bool) → is_digit b ≡ t → is_digit (get_or l (run_len l) 0) ≡ false → is_digit (get_or (b ∷ l) (run_len (b ∷ l)) 0) ≡ false
    by true e f =
        let q : run_len (b ∷ l) ≡ suc (run_len l) = omega (arith, len-digit b l e) in ap (λ (k : ℕ). is_digit (get_or (b ∷ l) k 0)) q ∙ f
    by false e f = ap (λ (k : ℕ). is_digit (get_or (b ∷ l) k 0)) (len-stop b l e) ∙ e

-- n digits at the front of one word stand at the front of the other
run_more : (l m : List ℕ) (n : ℕ) → n ≤ run_len l → ((j : ℕ) → j < n → get_or l j 0 ≡ get_or m j 0) → n ≤ run_len m
run_more l m n h e =
    bool_cases (ltb (run_len m) n) (n ≤ run_len m)
    (λ t. let k : run_len m < n = ltb-true (run_len m) n t in
    clash (ap is_digit (sym (e (run_len m) k)) ∙ run-before l (run_len m) (omega arith)) (run-here m))
    (λ t. ltb-false (run_len m) n t)

-- and are all, if no digit follows
pub run_by : (l m : List ℕ) (n : ℕ) → n ≤ run_len l → ((j : ℕ) → j < n → get_or l j 0 ≡ get_or m j 0) → is_digit (get_or m n 0) ≡ false
    → run_len m ≡ n
run_by l m n h e d =
    let k : n ≤ run_len m = run_more l m n h e in
    bool_cases (ltb n (run_len m)) (run_len m ≡ n) (λ t. clash (run-before m n (ltb-true n (run_len m) t)) d)
    (λ t. omega (arith, ltb-false n (run_len m) t))

run-same : (l m : List ℕ) → Same (run_len l) l m → run_len m ≡ run_len l
run-same l m e = run_by l m (run_len l) (omega arith) (λ j k. e j (omega arith))
    (ap is_digit (sym (e (run_len l) (omega arith))) ∙ run-here l)

-- ---- the power
digits_from : (s : List ℕ) (at : ℕ) → at ≤ digits_stop s at
unfolding digits_stop
digits_from s at =
    bool_cases (is_digit (get_or s at 0)) _ (λ a. bool_cases (is_digit (get_or s (at + 1) 0)) _ (λ b. rw (a, b) (omega arith))
    (λ b. rw (a, b) (omega arith))) (λ a. rw a (omega arith))

power-from : (s : List ℕ) (at : ℕ) → at ≤ power_stop s at
unfolding power_stop
power-from s at =
    bool_cases (eqb (get_or s at 0) 101) _
    (λ a. bool_cases (is_sign (get_or s (at + 1) 0)) _ (λ b. rw (a, b) (omega (arith, digits_from s (at + 2))))
    (λ b. rw (a, b) (omega arith)))
    (λ a. rw a (omega arith))

module _ (s r : List ℕ) where
  digits-local : (at : ℕ) → Same (digits_stop s at) s r → digits_stop r at ≡ digits_stop s at
  unfolding digits_stop
  digits-local at =
      bool_cases (is_digit (get_or s at 0)) _
      (λ a. bool_cases (is_digit (get_or s (at + 1) 0)) _
      (λ b. rw (a, b) (λ e. rw (← e at (omega arith), ← e (at + 1) (omega arith), a, b)))
      (λ b. rw (a, b) (λ e. rw (← e at (omega arith), ← e (at + 1) (omega arith), a, b))))
      (λ a. rw a (λ e. rw (← e at (omega arith), a)))

  power-local : (at : ℕ) → Same (power_stop s at) s r → power_stop r at ≡ power_stop s at
  unfolding power_stop
  power-local at =
      bool_cases (eqb (get_or s at 0) 101) _
      (λ a. bool_cases (is_sign (get_or s (at + 1) 0)) _
      (λ b. rw (a, b) (λ e. rw (← e at (omega (arith, digits_from s (at + 2))), ← e (at + 1) (omega (arith, digits_from s (at + 2))), a, b)
      (digits-local (at + 2) e)))
      (λ b. rw (a, b) (λ e. rw (← e at (omega arith), ← e (at + 1) (omega arith), a, b))))
      (λ a. rw a (λ e. rw (← e at (omega arith), a)))

-- ---- the digits before the point
module _ (s : List ℕ) (w : ℕ) where
  -- a leading zero
  pub whole-two : (w ≡ 0 → ⊥) → whole_is_good s w ≡ false → 2 ≤ w
  whole-two z e =
      bool_cases (ltb 1 w) (2 ≤ w) (λ t. ltb-true 1 w t)
      (λ t. let q : w ≤ 1 = ltb-false 1 w t in bool_cases (eqb w 0) (2 ≤ w) (λ k. absurd (z (eqb-true w 0 k)))
      (λ k. clash (sym (whole-one s w (one (eqb-false w 0 k) q))) e))
    where
      one : (w ≡ 0 → ⊥) → w ≤ 1 → w ≡ 1
      one n h = bool_cases (ltb 0 w) (w ≡ 1) (λ t. omega (arith, ltb-true 0 w t)) (λ t. absurd (n (omega (arith, ltb-false 0 w t))))

  pub whole-low : 2 ≤ w → whole_is_good s w ≡ false → get_or s 0 0 ≤ 48
  whole-low h e =
      bool_cases (ltb 48 (get_or s 0 0)) (get_or s 0 0 ≤ 48)
      (λ t. clash (sym (whole-more s w (λ q. omega arith) h (ltb-true 48 (get_or s 0 0) t))) e) (λ t. ltb-false 48 (get_or s 0 0) t)

  pub whole-high : 2 ≤ w → whole_is_good s w ≡ true → 48 < get_or s 0 0
  whole-high h e =
      bool_cases (ltb 48 (get_or s 0 0)) (48 < get_or s 0 0) (λ t. ltb-true 48 (get_or s 0 0) t)
      (λ t. clash e (sym (whole-zero s w (λ q. omega arith) h (ltb-false 48 (get_or s 0 0) t))))

  pub whole-some : whole_is_good s w ≡ true → eqb w 0 ≡ false
  whole-some e = ne_eqb w 0 (λ q. clash e (sym (whole-none s w (λ k. omega arith) (omega arith))))

pub point-most : (s : List ℕ) (w : ℕ) → past_point s w ≤ w + 1
unfolding past_point
point-most s w = bool_cases (eqb (get_or s w 0) 46) _ (λ e. rw e (omega arith)) (λ e. rw e (omega arith))

-- ---- the stop of a word, by its parts
module _ (r : List ℕ) where
  stop-none : run_len r ≡ 0 → decimal_stop r ≡ 0
  unfolding decimal_stop fraction_stop parts_stop
  stop-none e = rw (eq-eqb (run_len r) 0 e)

  stop-zero : 2 ≤ run_len r → get_or r 0 0 ≤ 48 → decimal_stop r ≡ 1
  unfolding decimal_stop fraction_stop parts_stop
  stop-zero h k = rw (ne_eqb (run_len r) 0 (λ q. omega arith), ← whole-zero r (run_len r) (λ q. omega arith) h k)

  stop-long : whole_is_good r (run_len r) ≡ true → digit_limit < past_point r (run_len r) → decimal_stop r ≡ digit_limit
  unfolding decimal_stop fraction_stop parts_stop
  stop-long g h = rw (whole-some r (run_len r) g, g, lt-ltb digit_limit (past_point r (run_len r)) h)

  stop-by : (w p f : ℕ) → run_len r ≡ w → past_point r w ≡ p → run_len (drop p r) ≡ f → decimal_stop r ≡ parts_stop r w p f
  unfolding decimal_stop fraction_stop
  stop-by w p f a b c = rw (a, b, c)

-- ---- two words that are the same up to the stop of the first
module _ (s r : List ℕ) where
  abbrev w : ℕ
  w = run_len s

  abbrev p : ℕ
  p = past_point s w

  abbrev f : ℕ
  f = run_len (drop p s)

  point-same : Same w s r → past_point r w ≡ p
  unfolding past_point
  point-same e = rw (e w (omega arith))

  whole_same : Same w s r → whole_is_good r w ≡ whole_is_good s w
  unfolding whole_is_good
  whole_same e = rw (e 0 (omega arith))

  -- one digit too many before the point, or the point
  long_same : digit_limit < p → Same digit_limit s r → digit_limit < past_point r (run_len r)
  long_same h e =
      bool_cases (ltb digit_limit w) _
      (λ t. omega (arith, run_more s r (suc digit_limit) (ltb-true digit_limit w t) (λ j k. e j (omega arith)), point-from r (run_len r)))
      (λ t. let k : w ≤ digit_limit = ltb-false digit_limit w t in
      let same : Same w s r = λ j i. e j (omega arith) in
      omega (arith, h, point-same same, ap (past_point r) (run-same s r same)))

  whole_long : digit_limit < p → Same digit_limit s r → whole_is_good s w ≡ true → whole_is_good r (run_len r) ≡ true
  whole_long h e g =
      let l : 2 ≤ w = omega (arith, h, point-most s w) in
      let m : 2 ≤ run_len r = run_more s r 2 l (λ j k. e j (omega arith)) in
      sym (whole-more r (run_len r) (λ q. omega arith) m (omega (arith, e 0 (omega arith), whole-high s w l g)))

  -- past the point, both words have the same parts
  module _ (k : ℕ) (l : p ≤ k) (e : Same k s r) where
    same_whole : Same w s r
    same_whole j h = e j (omega (arith, point-from s w))

    same_parts : (n : ℕ) → run_len (drop p r) ≡ n → decimal_stop r ≡ parts_stop r w p n
    same_parts n q = stop-by r w p n (run-same s r same_whole) (point-same same_whole) q

    same-fraction : p + f ≤ k → run_len (drop p r) ≡ f
    same-fraction h = run-same (drop p s) (drop p r) (same_drop p f s r (λ j i. e j (omega arith)))

  module _ (b : whole_is_good s w ≡ true) (c : p ≤ digit_limit) where
    local-point : w + f < p → Same p s r → decimal_stop r ≡ p
    unfolding parts_stop
    local-point d e =
        same_parts p (omega arith) e f (same-fraction p (omega arith) e (omega (arith, point-most s w)))
        ∙ (rw (whole-some s w b, whole_same (same_whole p (omega arith) e), b, le-ltb digit_limit p c, lt-ltb (w + f) p d))

    module _ (d : p ≤ w + f) where
      local-limit : digit_limit < w + f → Same (p + (digit_limit - w)) s r → decimal_stop r ≡ p + (digit_limit - w)
      unfolding parts_stop
      local-limit h e =
          let n : ℕ = run_len (drop p r) in
          let m : digit_limit - w + 1 ≤ n = run_more (drop p s) (drop p r) (digit_limit - w + 1) (omega (arith, point-from s w))
          (λ j i. same_drop p (digit_limit - w) s r e j (omega arith)) in
          same_parts (p + (digit_limit - w)) (omega arith) e n refl
          ∙ (rw (
            whole-some s w b,
            whole_same (same_whole (p + (digit_limit - w)) (omega arith) e),
            b,
            le-ltb digit_limit p c,
            le-ltb (w + n) p (omega (arith, m, point-most s w)),
            lt-ltb digit_limit (w + n) (omega (arith, m, point-from s w)),
          ))

      local-power : w + f ≤ digit_limit → Same (power_stop s (p + f)) s r → decimal_stop r ≡ power_stop s (p + f)
      unfolding parts_stop
      local-power h e =
          let k : p + f ≤ power_stop s (p + f) = power-from s (p + f) in
          same_parts (power_stop s (p + f)) (omega arith) e f (same-fraction (power_stop s (p + f)) (omega arith) e k)
          ∙ (rw (
            whole-some s w b,
            whole_same (same_whole (power_stop s (p + f)) (omega arith) e),
            b,
            le-ltb digit_limit p c,
            le-ltb (w + f) p d,
            le-ltb digit_limit (w + f) h,
          ))
          ∙ power-local s r (p + f) e

  parts-local : Same (parts_stop s w p f) s r → decimal_stop r ≡ parts_stop s w p f
  unfolding parts_stop
  parts-local =
      bool_cases (eqb w 0) _
      (λ a. let z : w ≡ 0 = eqb-true w 0 a in rw a (λ e. stop-none r (run-same s r (λ j h. e j (omega arith)) ∙ z)))
      (λ a. bool_cases (whole_is_good s w) _
      (λ b. bool_cases (ltb digit_limit p) _
      (λ c. let h = ltb-true digit_limit p c in rw (a, b, c) (λ e. stop-long r (whole_long h e b) (long_same h e)))
      (λ c. let h = ltb-false digit_limit p c in
      bool_cases (ltb (w + f) p) _
      (λ d. rw (a, b, c, d) (λ e. local-point b h (ltb-true (w + f) p d) e))
      (λ d. let k = ltb-false (w + f) p d in
      bool_cases (ltb digit_limit (w + f)) _
      (λ g. rw (a, b, c, d, g) (λ e. local-limit b h k (ltb-true digit_limit (w + f) g) e))
      (λ g. rw (a, b, c, d, g) (λ e. local-power b h k (ltb-false digit_limit (w + f) g) e)))))
      (λ b. let h = whole-two s w (eqb-false w 0 a) b in
      rw (a, b) (λ e. stop-zero r (run_more s r 2 h (λ j i. e j (omega arith))) (omega (arith, e 0 (omega arith), whole-low s w h b)))))

  pub stop-local : Same (decimal_stop s) s r → decimal_stop r ≡ decimal_stop s
  unfolding decimal_stop fraction_stop
  stop-local = parts-local

-- no good decimal begins with the bytes up to the stop and the byte there
pub stop-first : (s t : List ℕ) → decimal_stop s < length s → well_formed (decimal_of (take (suc (decimal_stop s)) s ++ t)) ≡ false
stop-first s t h =
    let k : ℕ = decimal_stop s in
    let u : List ℕ = take (suc k) s in
    let l : length u ≡ suc k = length-take-le (suc k) s h in
    let e : Same k s (u ++ t) = λ j i. sym (get_or-append u t 0 j (omega arith) ∙ get_or-take (suc k) s j 0 (omega arith)) in
    false_of (well_formed (decimal_of (u ++ t))) (λ g. omega (arith, stop-good (u ++ t) g, stop-local s (u ++ t) e, length-append u t, l))
