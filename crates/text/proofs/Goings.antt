-- The bytes before the place where a decimal breaks off can go on to a good decimal. Assumes nothing.
use Prim.Native.Nat.{ℕ, ◌+◌, ◌-◌, ◌*◌, ◌≤◌, ◌<◌}
use mathlib.Core.Path.{◌≡◌, refl, sym, ap, ◌∙◌}
use mathlib.Core.List.{List, [], ◌∷◌, ◌++◌}
use mathlib.Core.Bool.{Bool, true, false, cond, ◌||◌}
use mathlib.Core.Logic.{⊎_elim}
use native.Mathlib.Omega.{arith}
use native.Mathlib.Nat.{eq-or-lt_of_le}
use borrow.Author.Tests.{le-leb, ltb-true, ltb-false, eq-eqb, ne_eqb, eqb-true, eqb-false}
use lib.Dec.{ltb, eqb}
use lib.ListN.{length, get_or, take, drop, length-append, get_or-append}
use lib.Seq.{length-take-le, get_or-take, get_or-drop, get_or-append-add}
use Rattle.basis.proofs.Tests.{clash, bool_cases}
use Rattle.text.specs.Word.{Word, well_formed, within, is_digit, run_len, run_val}
use Rattle.text.specs.Decimal.{up, down, wrong, digit_limit, digit_of, past_point, whole_is_good}
use Rattle.text.specs.Decimal.{signed_power, power_at, scaled, parts_of, fraction_of, decimal_of}
use Rattle.text.specs.Stop.{is_sign, digits_stop, power_stop, parts_stop, fraction_stop, decimal_stop}
use Rattle.text.proofs.Bytes.{within-is}
use Rattle.text.proofs.Decimals.{whole-more, point-no, point-from}
use Rattle.text.proofs.Stops.{stop_le}
use Rattle.text.proofs.Firsts.{run-before, run-here, run_by, whole-two, whole-low, whole-high, whole-some, point-most}

-- ---- a word that has good parts is good
sign-good : (n f g k : ℕ) → is_sign g ≡ true → well_formed (scaled n f (signed_power g k)) ≡ true
unfolding signed_power is_sign
sign-good n f g k e = by (eqb g 43) (eqb g 45) e
  where
    by : (t u : Bool) → (t || u) ≡ true → well_formed (scaled n f (cond t (up k) (cond u (down k) wrong))) ≡ true
    by true u h = refl
    by false true h = refl
    by false false h = clash h refl

module _ (u : List ℕ) (w p f : ℕ) (a : run_len u ≡ w) (b : past_point u w ≡ p) (c : run_len (drop p u) ≡ f)
    (g : whole_is_good u w ≡ true) (h : p ≤ w + f) (l : w + f ≤ digit_limit) where
  pub decimal-parts : decimal_of u ≡ scaled (run_val (run_val 0 u) (drop p u)) f (power_at u (p + f))
  unfolding decimal_of fraction_of parts_of
  decimal-parts = rw (a, b, c, g, le-leb p (w + f) h, le-leb (w + f) digit_limit l)

  good-plain : length u ≡ p + f → well_formed (decimal_of u) ≡ true
  unfolding power_at
  good-plain e = rw (decimal-parts, eq-eqb (length u) (p + f) e)

  good-power : length u ≡ p + f + 4 → get_or u (p + f) 0 ≡ 101 → is_sign (get_or u (p + f + 1) 0) ≡ true → is_digit (get_or u (p + f + 2) 0)
      ≡ true
      → is_digit (get_or u (p + f + 3) 0) ≡ true
      → well_formed (decimal_of u) ≡ true
  unfolding power_at
  good-power e i j m o =
      rw (
        decimal-parts,
        ne_eqb (length u) (p + f) (λ q. omega arith),
        eq-eqb (length u) (p + f + 4) e,
        eq-eqb (get_or u (p + f) 0) 101 i,
        m,
        o,
      )
      (sign-good (run_val (run_val 0 u) (drop p u)) f (get_or u (p + f + 1) 0)
      (digit_of (get_or u (p + f + 2) 0) * 10 + digit_of (get_or u (p + f + 3) 0)) j)

-- ---- what a good word goes on with
pub record Goes {A : Type 0} (word : List ℕ → Word A) (u : List ℕ) : Type 0 where
  pub rest : List ℕ
  pub good : well_formed (word (u ++ rest)) ≡ true

goes_none : Goes decimal_of []
unfolding within past_point whole_is_good power_at parts_of fraction_of decimal_of
goes_none = record { rest = 48 ∷ []; good = refl }

goes-zero : (s : List ℕ) → get_or s 0 0 ≡ 48 → Goes decimal_of (take 1 s)
unfolding within past_point whole_is_good power_at parts_of fraction_of decimal_of
goes-zero [] e = absurd (omega arith)
goes-zero (b ∷ s) e = rw e (record { rest = []; good = refl })

module _ (s : List ℕ) where
  -- w digits before the point; f after it, from p on
  abbrev w : ℕ
  w = run_len s

  abbrev p : ℕ
  p = past_point s w

  abbrev f : ℕ
  f = run_len (drop p s)

  -- ---- the bytes of s before k, and then those of t
  module _ (k : ℕ) (t : List ℕ) (i : k ≤ length s) where
    abbrev u : List ℕ
    u = take k s ++ t

    front : (j : ℕ) → j < k → get_or s j 0 ≡ get_or u j 0
    front j h = sym (get_or-append (take k s) t 0 j (omega (arith, length-take-le k s i)) ∙ get_or-take k s j 0 h)

    back : (j : ℕ) → get_or u (k + j) 0 ≡ get_or t j 0
    back j = ap (λ (n : ℕ). get_or u (n + j) 0) (sym (length-take-le k s i)) ∙ get_or-append-add (take k s) t j 0

    here : get_or u k 0 ≡ get_or t 0 0
    here = let q : k ≡ k + 0 = omega arith in ap (λ (n : ℕ). get_or u n 0) q ∙ back 0

    long : length u ≡ k + length t
    long = length-append (take k s) t ∙ ap (λ (n : ℕ). n + length t) (length-take-le k s i)

    -- the digits before the point and the point, if the place is past them
    module _ (g : whole_is_good s w ≡ true) (h : p ≤ k) (z : w ≡ k → get_or t 0 0 ≡ 0) where
      whole-on : 0 < k
      whole-on =
          bool_cases (ltb 0 w) (0 < k) (λ e. omega (arith, ltb-true 0 w e, point-from s w))
          (λ e. absurd (eqb-false w 0 (whole-some s w g) (omega (arith, ltb-false 0 w e))))

      digits-on : run_len u ≡ w
      unfolding within
      digits-on =
          run_by s u w (omega arith) (λ j e. front j (omega (arith, point-from s w)))
          (⊎_elim (λ e. ap is_digit (ap (λ (n : ℕ). get_or u n 0) e ∙ here ∙ z e)) (λ e. ap is_digit (sym (front w e)) ∙ run-here s)
          (eq-or-lt_of_le (omega (arith, point-from s w))))

      point-on : past_point u w ≡ p
      unfolding past_point
      point-on =
          ⊎_elim
          (λ e. let q : get_or u w 0 ≡ 0 = ap (λ (n : ℕ). get_or u n 0) e ∙ here ∙ z e in
          let m : p ≡ w = omega (arith, point-from s w) in rw q (sym m))
          (λ e. rw (← front w e)) (eq-or-lt_of_le (omega (arith, point-from s w)))

      good-on : whole_is_good u w ≡ true
      unfolding whole_is_good
      good-on = rw (← front 0 whole-on) g

      fraction-on : (n : ℕ) → n ≤ run_len (drop p s) → p + n ≤ k → is_digit (get_or u (p + n) 0) ≡ false → run_len (drop p u) ≡ n
      fraction-on n e m q =
          run_by (drop p s) (drop p u) n e (λ j o. get_or-drop p s j 0 ∙ front (p + j) (omega arith) ∙ sym (get_or-drop p u j 0))
          (ap is_digit (get_or-drop p u n 0) ∙ q)

    at_back : (n j : ℕ) → n ≡ k + j → get_or u n 0 ≡ get_or t j 0
    at_back n j e = ap (λ (m : ℕ). get_or u m 0) e ∙ back j

    -- all the digits, if the place is past them
    module _ (g : whole_is_good s w ≡ true) (d : p ≤ w + f) (l : w + f ≤ digit_limit) (h : p + f ≤ k) (z : p + f ≡ k → get_or t 0 0 ≡ 0)
      where
        on-past : w ≡ k → get_or t 0 0 ≡ 0
        on-past e = z (omega (arith, point-from s w))

        on-stop : is_digit (get_or u (p + f) 0) ≡ false
        unfolding within
        on-stop =
            ⊎_elim (λ e. ap is_digit (ap (λ (n : ℕ). get_or u n 0) e ∙ here ∙ z e))
            (λ e. ap is_digit (sym (front (p + f) e) ∙ sym (get_or-drop p s f 0)) ∙ run-here (drop p s)) (eq-or-lt_of_le h)

        on-fraction : run_len (drop p u) ≡ f
        on-fraction = fraction-on g (omega arith) on-past f (omega arith) h on-stop

        on-plain : length u ≡ p + f → well_formed (decimal_of u) ≡ true
        on-plain =
            good-plain u w p f (digits-on g (omega arith) on-past) (point-on g (omega arith) on-past) on-fraction
            (good-on g (omega arith) on-past) d l

        on-power : length u ≡ p + f + 4 → get_or u (p + f) 0 ≡ 101 → is_sign (get_or u (p + f + 1) 0) ≡ true
            → is_digit (get_or u (p + f + 2) 0) ≡ true → is_digit (get_or u (p + f + 3) 0) ≡ true
            → well_formed (decimal_of u) ≡ true
        on-power =
            good-power u w p f (digits-on g (omega arith) on-past) (point-on g (omega arith) on-past) on-fraction
            (good-on g (omega arith) on-past) d l

  module _ (g : whole_is_good s w ≡ true) where
    -- the digits before the point, as many as may be
    goes-long : digit_limit < p → digit_limit ≤ length s → Goes decimal_of (take digit_limit s)
    unfolding within
    goes-long h i =
        let v : List ℕ = take digit_limit s ++ [] in
        let m : digit_limit ≤ w = omega (arith, point-most s w) in
        let e : get_or v digit_limit 0 ≡ 0 = here digit_limit [] i in
        let a : run_len v ≡ digit_limit = run_by s v digit_limit m (λ j o. front digit_limit [] i j o) (ap is_digit e) in
        let b : past_point v digit_limit ≡ digit_limit = sym (point-no v digit_limit (λ o. omega arith)) in
        let c : run_len (drop digit_limit v) ≡ 0 = run_by [] (drop digit_limit v) 0 (omega arith) (λ j o. absurd (omega arith))
        (ap is_digit (get_or-drop digit_limit v 0 0 ∙ e)) in
        let n : whole_is_good v digit_limit ≡ true = sym
        (whole-more v digit_limit (λ o. omega arith) (omega arith)
        (omega (arith, front digit_limit [] i 0 (omega arith), whole-high s w (omega arith) g))) in
        record { rest = []; good = good-plain v digit_limit digit_limit 0 a b c n (omega arith) (omega arith) (long digit_limit [] i) }

    module _ (c : p ≤ digit_limit) where
      -- a point goes on with a digit
      goes-point : w + f < p → p ≤ length s → Goes decimal_of (take p s)
      unfolding within
      goes-point h i =
          let t : List ℕ = 48 ∷ [] in
          let v : List ℕ = take p s ++ t in
          let z : w ≡ p → get_or t 0 0 ≡ 0 = λ e. absurd (omega arith) in
          let n : run_len (drop p v) ≡ 1 = run_by t (drop p v) 1 (omega arith) (λ j o. sym (get_or-drop p v j 0 ∙ back p t i j))
          (ap is_digit (get_or-drop p v 1 0 ∙ back p t i 1)) in
          record {
            rest = t;
            good = good-plain v w p 1 (digits-on p t i g (omega arith) z) (point-on p t i g (omega arith) z) n
                (good-on p t i g (omega arith) z) (point-most s w) (omega arith) (long p t i);
          }

      module _ (d : p ≤ w + f) where
        -- the digits before and after the point, as many as may be
        goes-limit : digit_limit < w + f → p + (digit_limit - w) ≤ length s → Goes decimal_of (take (p + (digit_limit - w)) s)
        unfolding within
        goes-limit h i =
            let k : ℕ = p + (digit_limit - w) in
            let v : List ℕ = take k s ++ [] in
            let n : run_len (drop p v) ≡ digit_limit
            - w = fraction-on k [] i g (omega arith) (λ _. refl) (digit_limit - w) (omega arith) (omega arith)
            (ap is_digit (here k [] i)) in
            record {
              rest = [];
              good = good-plain v w p (digit_limit - w) (digits-on k [] i g (omega arith) (λ _. refl))
                  (point-on k [] i g (omega arith) (λ _. refl)) n (good-on k [] i g (omega arith) (λ _. refl))
                  (omega (arith, point-from s w)) (omega (arith, point-from s w)) (long k [] i ∙ omega arith);
            }

        -- a power goes on with what is left of `+00`, and no power with nothing
        goes-power : w + f ≤ digit_limit → power_stop s (p + f) ≤ length s → Goes decimal_of (take (power_stop s (p + f)) s)
        unfolding power_stop digits_stop is_sign within
        goes-power l =
            let q : ℕ = p + f in
            let two : q + 2 + 1 ≡ q + 3 = omega arith in
            bool_cases (eqb (get_or s q 0) 101) _
            (λ a. let A : get_or s q 0 ≡ 101 = eqb-true (get_or s q 0) 101 a in
            bool_cases (is_sign (get_or s (q + 1) 0)) _
            (λ b. bool_cases (is_digit (get_or s (q + 2) 0)) _
            (λ m. bool_cases (is_digit (get_or s (q + 2 + 1) 0)) _
            (λ o. rw (a, b, m, o)
            (λ i. let k : ℕ = q + 2 + 2 in
            record {
              rest = [];
              good = on-power k [] i g d l (omega arith) (λ _. refl) (long k [] i ∙ omega arith) (sym (front k [] i q (omega arith)) ∙ A)
                  (ap is_sign (sym (front k [] i (q + 1) (omega arith))) ∙ b) (ap is_digit (sym (front k [] i (q + 2) (omega arith))) ∙ m)
                  (ap is_digit (sym (front k [] i (q + 3) (omega arith))) ∙ ap (λ (n : ℕ). is_digit (get_or s n 0)) (sym two) ∙ o);
            }))
            (λ o. rw (a, b, m, o)
            (λ i. let k : ℕ = q + 2 + 1 in let t : List ℕ = 48 ∷ [] in
            record {
              rest = t;
              good = on-power k t i g d l (omega arith) (λ e. absurd (omega arith)) (long k t i ∙ omega arith)
                  (sym (front k t i q (omega arith)) ∙ A)
                  (ap is_sign (sym (front k t i (q + 1) (omega arith))) ∙ b) (ap is_digit (sym (front k t i (q + 2) (omega arith))) ∙ m)
                  (ap is_digit (at_back k t i (q + 3) 0 (omega arith)));
            })))
            (λ m. rw (a, b, m)
            (λ i. let k : ℕ = q + 2 in let t : List ℕ = 48 ∷ 48 ∷ [] in
            record {
              rest = t;
              good = on-power k t i g d l (omega arith) (λ e. absurd (omega arith)) (long k t i ∙ omega arith)
                  (sym (front k t i q (omega arith)) ∙ A)
                  (ap is_sign (sym (front k t i (q + 1) (omega arith))) ∙ b) (ap is_digit (at_back k t i (q + 2) 0 (omega arith)))
                  (ap is_digit (at_back k t i (q + 3) 1 (omega arith)));
            })))
            (λ b. rw (a, b)
            (λ i. let k : ℕ = q + 1 in let t : List ℕ = 43 ∷ 48 ∷ 48 ∷ [] in
            record {
              rest = t;
              good = on-power k t i g d l (omega arith) (λ e. absurd (omega arith)) (long k t i ∙ omega arith)
                  (sym (front k t i q (omega arith)) ∙ A)
                  (ap is_sign (at_back k t i (q + 1) 0 (omega arith))) (ap is_digit (at_back k t i (q + 2) 1 (omega arith)))
                  (ap is_digit (at_back k t i (q + 3) 2 (omega arith)));
            })))
            (λ a. rw a (λ i. record { rest = []; good = on-plain q [] i g d l (omega arith) (λ _. refl) (long q [] i ∙ omega arith) }))

  -- ---- by the parts of the word
  parts-goes : parts_stop s w p f ≤ length s → Goes decimal_of (take (parts_stop s w p f) s)
  unfolding parts_stop
  parts-goes =
      bool_cases (eqb w 0) _ (λ a. rw a (λ _. goes_none))
      (λ a. bool_cases (whole_is_good s w) _
      (λ b. bool_cases (ltb digit_limit p) _
      (λ c. rw (a, b, c) (goes-long b (ltb-true digit_limit p c)))
      (λ c. let h = ltb-false digit_limit p c in
      bool_cases (ltb (w + f) p) _
      (λ d. rw (a, b, c, d) (goes-point b h (ltb-true (w + f) p d)))
      (λ d. let k = ltb-false (w + f) p d in
      bool_cases (ltb digit_limit (w + f)) _
      (λ e. rw (a, b, c, d, e) (goes-limit b h k (ltb-true digit_limit (w + f) e)))
      (λ e. rw (a, b, c, d, e) (goes-power b h k (ltb-false digit_limit (w + f) e))))))
      (λ b. let h : 2 ≤ w = whole-two s w (eqb-false w 0 a) b in
      let z = within-is 48 57 (get_or s 0 0) (run-before s 0 (omega arith)) in
      rw (a, b) (λ _. goes-zero s (omega (arith, whole-low s w h b)))))

-- the bytes before the place where a decimal breaks off begin a good decimal
pub stop_goes : (s : List ℕ) → Goes decimal_of (take (decimal_stop s) s)
unfolding decimal_stop fraction_stop
stop_goes s = parts-goes s (stop_le s)
