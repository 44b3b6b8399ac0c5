-- Millionths that are written read back, as a weight and as a claim's decimal, and no shorter word says the same. Assumes nothing.
use Prim.Native.Nat.{ℕ, zero, suc, ◌+◌, ◌-◌, ◌*◌, ◌/◌, ◌%◌, ◌^◌, ◌≤◌, ◌<◌}
use mathlib.Core.Path.{◌≡◌, refl, sym, ap, ap₂, ◌∙◌, subst}
use mathlib.Core.Bool.{Bool, true, false, cond, ◌&&◌, ◌||◌}
use mathlib.Core.List.{List, [], ◌∷◌, ◌++◌, append-nil}
use native.Mathlib.Omega.{arith}
use native.Mathlib.Nat.{zero-add, add-zero, sub-zero, one-mul, mul_assoc, mul-lt-mul_of_pos_right, pow-suc}
use native.Mathlib.Nat.{mod-lt, mod-eq_of_lt, div-add-mod', mul-add-mod_self_right}
use borrow.Author.Tests.{lt-ltb, le-leb, leb-true, ne_eqb}
use lib.Dec.{ltb, leb, eqb}
use lib.ListN.{length, get_or, take, drop, length-append, take-append-drop}
use lib.Pow.{pow-add}
use lib.Seq.{take_at, drop_at}
use Rattle.basis.specs.Scan.{each, mem}
use Rattle.basis.proofs.Tests.{no-case, clash, false_of, and_first, and_second, and_both, or-first}
use Rattle.basis.proofs.Scans.{each-mem, each_append}
use Rattle.text.specs.Word.{Word, malformed, outside, value, within, is_digit, with_digit, run_val, count_of}
use Rattle.text.specs.Decimal.{decimal_of}
use Rattle.text.specs.declared.decimal.Decimal.{Decimal}
use Rattle.text.specs.Grammar.{WholePart, nought, number, FractionPart, no_point, point, no_power, Parts, GoodParts, number_of}
use Rattle.text.specs.Grammar.{whole_digits, fraction_digits, fraction_bytes, part_bytes, digits_of, leads_well, parts_say}
use Rattle.text.specs.Stop.{count_stop}
use Rattle.text.specs.Weight.{million, behind_whole, whole_then, millionths_of}
use Rattle.text.proofs.Bytes.{within-yes}
use Rattle.text.proofs.Runs.{val-digit, front-len, all_val}
use Rattle.text.proofs.Counts.{number-most, counts-one}
use Rattle.text.proofs.Grammars.{form-taken}
use Rattle.write.specs.Put.{written, put_at}
use Rattle.write.specs.Number.{count_text}
use Rattle.write.specs.Millionths.{places_text, behind_text, millionths_text}
use Rattle.write.proofs.Puts.{wrote-text}
use Rattle.write.proofs.Digits.{count_small}
use Rattle.write.proofs.Texts.{Spells, count-spells, count-digits, count_long}
use Rattle.write.proofs.Places.{places-none, places-more, ten-some, next-digit, behind-none, behind-some}
use Rattle.write.proofs.Back.{first_of, count-back}

-- ---- the digits behind the point: they are digits, k at most, and make the number
pub record Behind (k r : ℕ) (l : List ℕ) : Type 0 where
  pub all : each is_digit l ≡ true
  pub few : length l ≤ k
  pub val : (n : ℕ) → run_val n l * 10 ^ (k - length l) ≡ n * 10 ^ k + r

behind-empty : (k : ℕ) → Behind k 0 []
unfolding each
behind-empty k = record { all = refl; few = omega arith; val = λ n. let e : k - 0 ≡ k = omega arith in rw e (omega arith) }

behind_more : (k r : ℕ) (l : List ℕ) → r < 10 ^ suc k → Behind k (r % 10 ^ k) l → Behind (suc k) r ((48 + r / 10 ^ k) ∷ l)
unfolding each
behind_more k r l h b =
    let d = next-digit k r h in
    let e : is_digit (48 + r / 10 ^ k) ≡ true = within-yes (omega arith) (omega arith) in
    record {
      all = and_both e b.all;
      few = let f = b.few in omega arith;
      val = λ n.
          let q : suc k - suc (length l) ≡ k - length l = omega arith in
          let m : n * 10 + (48 + r / 10 ^ k - 48) ≡ n * 10 + r / 10 ^ k = omega arith in
          let v : run_val (n * 10 + r / 10 ^ k) l * 10 ^ (k - length l) ≡ (n * 10 + r / 10 ^ k) * 10 ^ k + r % 10 ^ k =
          b.val (n * 10 + r / 10 ^ k) in
          let t : r / 10 ^ k * 10 ^ k + r % 10 ^ k ≡ r = div-add-mod' r (10 ^ k) in
          let p : 10 ^ suc k ≡ 10 ^ k * 10 = pow-suc 10 k in
          ap₂ (λ (x y : ℕ). x * 10 ^ y) (val-digit n (48 + r / 10 ^ k) l e ∙ ap (λ (x : ℕ). run_val x l) m) q ∙ v
          ∙ sum n (10 ^ k) (r / 10 ^ k) (r % 10 ^ k) ∙ ap₂ (λ (x y : ℕ). n * x + y) (sym p) t;
    }
  where
    sum : (n u q s : ℕ) → (n * 10 + q) * u + s ≡ n * (u * 10) + (q * u + s)
    sum n u q s = omega arith

pub places_behind : (k r : ℕ) → r < 10 ^ k → Behind k r (places_text k r)
places_behind zero r h =
    let e : r ≡ 0 = omega arith in
    subst (λ (x : ℕ). Behind 0 x (places_text 0 x)) (sym e) (rw (places-none 0) (behind-empty 0))
places_behind (suc k) r h = by r h (λ s g. places_behind k s g)
  where
    by : (r : ℕ) → r < 10 ^ suc k → ((s : ℕ) → s < 10 ^ k → Behind k s (places_text k s)) → Behind (suc k) r (places_text (suc k) r)
    by zero h ih = rw (places-none (suc k)) (behind-empty (suc k))
    by (suc r) h ih =
        rw (places-more k (suc r) (omega arith))
        (behind_more k (suc r) (places_text k (suc r % 10 ^ k)) h (ih (suc r % 10 ^ k) (mod-lt (suc r) (ten-some k))))

-- something is left, so there is a digit
places-some : (k r : ℕ) → 0 < r → 0 < length (places_text (suc k) r)
places-some k r h = rw (places-more k r h) (omega arith)

rest-small : (z : ℕ) → z % million < 10 ^ 6
rest-small z = omega arith

-- ---- what is written reads back: "the shortest form that reads back to the same millionths"
behind-said : (n r : ℕ) → r < 10 ^ 6 → behind_whole n (behind_text r) ≡ value (n * million + r)
behind-said n zero h = rw behind-none (ap value (let e : n * million ≡ n * million + 0 = omega arith in e))
behind-said n (suc r) h =
    let b = places_behind 6 (suc r) h in
    let s = lt-ltb 0 (length (places_text 6 (suc r))) (places-some 5 (suc r) (omega arith)) in
    let f = le-leb (length (places_text 6 (suc r))) 6 b.few in
    let v : run_val 0 (places_text 6 (suc r)) * 10 ^ (6 - length (places_text 6 (suc r))) ≡ suc r = b.val 0 ∙ zero-add (suc r) in
    rw (behind-some (suc r) (omega arith), b.all, s, f) (ap (λ (x : ℕ). value (n * million + x)) v)

no_digit : (r : ℕ) → is_digit (get_or (behind_text r) 0 0) ≡ false
unfolding within
no_digit zero = rw behind-none
no_digit (suc r) = rw (behind-some (suc r) (omega arith))

rest-digits : (b : ℕ) (bs : List ℕ) (n : ℕ) → Spells n (b ∷ bs) → each is_digit bs ≡ true
unfolding each
rest-digits b bs n s = and_second (is_digit b) (each is_digit bs) s.all

-- cut behind its whole part
back_by : (z k : ℕ) → k ≡ length (count_text (z / million))
    → whole_then (count_of (take k (millionths_text z))) (drop k (millionths_text z)) ≡ value z
unfolding millionths_text
back_by z k e =
    let q : z / million * million + z % million ≡ z = omega arith in
    rw (
      take_at (count_text (z / million)) (behind_text (z % million)) k (sym e),
      drop_at (count_text (z / million)) (behind_text (z % million)) k (sym e),
      count-back (z / million),
    )
    (behind-said (z / million) (z % million) (rest-small z) ∙ ap value q)

-- where its whole part ends: the count breaks off there, and the digits do
stop-count : (n : ℕ) (r : List ℕ) → is_digit (get_or r 0 0) ≡ false → count_stop (count_text n ++ r) ≡ length (count_text n)
stop-count zero r h = rw (count_small 0 (omega arith))
stop-count (suc n) r h = by (count_text (suc n)) (count-spells (suc n))
  where
    by : (l : List ℕ) → Spells (suc n) l → count_stop (l ++ r) ≡ length l
    by [] s = absurd (omega (arith, s.some))
    by (b ∷ bs) s =
        let f : 49 ≤ b = s.lead (omega arith) in
        let w : within 49 57 b ≡ true = within-yes f (first_of b bs (suc n) s).1 in
        rw (ne_eqb b 48 (λ q. omega arith), w) (ap suc (front-len bs r (rest-digits b bs (suc n) s) h))

pub millionths-back : (z : ℕ) → millionths_of (millionths_text z) ≡ value z
unfolding millionths_of millionths_text
millionths-back z = back_by z _ (stop-count (z / million) (behind_text (z % million)) (no_digit (z % million)))

-- and so it does in the area, between the place where the writer began and the one that it answered
pub millionths-wrote : (z : ℕ) (o : List ℕ) (at : ℕ) {o' : List ℕ} {p : ℕ} → written o' p ≡ put_at o at (millionths_text z)
    → at + length (millionths_text z) ≤ length o → millionths_of (take (p - at) (drop at o')) ≡ value z
millionths-wrote z o at w room = rw (wrote-text o at (millionths_text z) w room) (millionths-back z)

-- ---- every byte is a digit or the point
abbrev pub is_digit_or_point : ℕ → Bool
is_digit_or_point b = is_digit b || eqb b 46

digits-or-point : (l : List ℕ) → each is_digit l ≡ true → each is_digit_or_point l ≡ true
unfolding each
digits-or-point [] h = refl
digits-or-point (b ∷ l) h =
    and_both (or-first (is_digit b) (eqb b 46) (and_first (is_digit b) (each is_digit l) h))
    (digits-or-point l (and_second (is_digit b) (each is_digit l) h))

behind-bytes : (r : ℕ) → r < 10 ^ 6 → each is_digit_or_point (behind_text r) ≡ true
unfolding each within
behind-bytes zero h = rw behind-none
behind-bytes (suc r) h =
    rw (behind-some (suc r) (omega arith)) (digits-or-point (places_text 6 (suc r)) (places_behind 6 (suc r) h).all)

pub millionths-bytes : (z : ℕ) → each is_digit_or_point (millionths_text z) ≡ true
unfolding millionths_text
millionths-bytes z =
    each_append is_digit_or_point (count_text (z / million)) (behind_text (z % million))
    ∙ and_both (digits-or-point (count_text (z / million)) (count-digits (z / million))) (behind-bytes (z % million) (rest-small z))

-- so another byte, as a space or an LF, does not stand in it
pub millionths-without : (z c : ℕ) → is_digit_or_point c ≡ false → mem c (millionths_text z) ≡ false
millionths-without z c h =
    false_of (mem c (millionths_text z)) (λ m. clash (each-mem is_digit_or_point (millionths_text z) (millionths-bytes z) c m) h)

-- ---- how long it is: a whole part of k digits, the point and six digits
behind-long : (r : ℕ) → r < 10 ^ 6 → length (behind_text r) ≤ 7
behind-long zero h = rw behind-none (omega arith)
behind-long (suc r) h = rw (behind-some (suc r) (omega arith)) (omega (arith, (places_behind 6 (suc r) h).few))

pub millionths-long : (k z : ℕ) → 1 ≤ k → z / million < 10 ^ k → length (millionths_text z) ≤ k + 7
unfolding millionths_text
millionths-long k z h g =
    omega (
      arith,
      length-append (count_text (z / million)) (behind_text (z % million)),
      count_long k (z / million) h g,
      behind-long (z % million) (rest-small z),
    )

-- a distance or a weight has at most 20 bytes
pub millionths-twenty : (z : ℕ) → z < 2 ^ 63 → length (millionths_text z) ≤ 20
millionths-twenty z h = millionths-long 13 z (omega arith) (omega arith)

-- ---- no shorter word says the same
too_large : (v u r : ℕ) → r ≡ v * u → r < u → 0 < r → ⊥
too_large zero u r e g h = omega arith
too_large (suc v) u r e g h = omega arith

spread : (a d b c : ℕ) → (a * d + b) * c ≡ a * (d * c) + b * c
spread a d b c = omega arith

scaled : (v d c : ℕ) → 1 ≤ d → 1 ≤ c → v * c % (d * c) ≡ v % d * c
scaled v d c hd hc =
    let p : v * c ≡ v / d * (d * c) + v % d * c = ap (λ (x : ℕ). x * c) (sym (div-add-mod' v d)) ∙ spread (v / d) d (v % d) c in
    ap (λ (x : ℕ). x % (d * c)) p ∙ mul-add-mod_self_right (v / d) (d * c) (v % d * c)
    ∙ mod-eq_of_lt (mul-lt-mul_of_pos_right (mod-lt v hd) hc)

-- a number of k places that m of them say has at most m digits
abbrev Short : ℕ → Type 0
Short k = (m v r : ℕ) → m ≤ k → r ≡ v * 10 ^ (k - m) → r < 10 ^ k → length (places_text k r) ≤ m

places-short : (k : ℕ) → Short k
places-short zero m v r h e g = let q : r ≡ 0 = omega arith in rw (q, places-none) (omega arith)
places-short (suc k) m v r h e g = by r m h e g (places-short k)
  where
    by : (r m : ℕ) → m ≤ suc k → r ≡ v * 10 ^ (suc k - m) → r < 10 ^ suc k → Short k → length (places_text (suc k) r) ≤ m
    by zero m h e g ih = rw (places-none (suc k)) (omega arith)
    by (suc r) zero h e g ih = absurd (too_large v (10 ^ suc k) (suc r) (e ∙ ap (λ (x : ℕ). v * 10 ^ x) (sub-zero (suc k))) g (omega arith))
    by (suc r) (suc m) h e g ih =
        let c : ℕ = 10 ^ (k - m) in
        let q : suc k - suc m ≡ k - m = omega arith in
        let j : m + (k - m) ≡ k = omega arith in
        let u : 10 ^ k ≡ 10 ^ m * c = ap (λ (x : ℕ). 10 ^ x) (sym j) ∙ pow-add 10 m (k - m) in
        let w : suc r % 10 ^ k ≡ v % 10 ^ m * c =
        ap₂ (λ (x y : ℕ). x % y) (e ∙ ap (λ (x : ℕ). v * 10 ^ x) q) u ∙ scaled v (10 ^ m) c (ten-some m) (ten-some (k - m)) in
        let i = ih m (v % 10 ^ m) (suc r % 10 ^ k) (omega arith) w (mod-lt (suc r) (ten-some k)) in
        rw (places-more k (suc r) (omega arith)) (omega arith)

-- n wholes and r behind them, in a word of a whole part that says n and the bytes b behind it
whole-rest : (n r : ℕ) → r < million → (n * million + r) / million ≡ n
whole-rest n r h = omega arith

behind-rest : (n r : ℕ) → r < million → (n * million + r) % million ≡ r
behind-rest n r h = omega arith

short-parts : (n r : ℕ) (a b : List ℕ) → r < million → count_of a ≡ value n → length (behind_text r) ≤ length b
    → length (millionths_text (n * million + r)) ≤ length a + length b
unfolding millionths_text
short-parts n r a b h e g =
    let l : count_text n ≡ a = counts-one (count_text n) a n (count-back n) e in
    rw (whole-rest n r h, behind-rest n r h, l) (omega (arith, length-append a (behind_text r)))

-- the digits bs behind a point say so many millionths, fewer than one whole has
fraction-small : (bs : List ℕ) → each is_digit bs ≡ true → length bs ≤ 6 → run_val 0 bs * 10 ^ (6 - length bs) < million
fraction-small bs d h =
    let m : run_val 0 bs < 10 ^ length bs = rw (all_val 0 bs d) (subst (λ (x : ℕ). number_of 0 bs < x) (one-mul (10 ^ length bs))
    (number-most 0 bs d)) in
    let q : length bs + (6 - length bs) ≡ 6 = omega arith in
    let p : 10 ^ length bs * 10 ^ (6 - length bs) ≡ 10 ^ 6 = sym (pow-add 10 (length bs) (6 - length bs)) ∙ ap (λ (x : ℕ). 10 ^ x) q in
    subst (λ (x : ℕ). run_val 0 bs * 10 ^ (6 - length bs) < x) p (mul-lt-mul_of_pos_right m (ten-some (6 - length bs)))

behind-short : (bs : List ℕ) → each is_digit bs ≡ true → length bs ≤ 6
    → length (behind_text (run_val 0 bs * 10 ^ (6 - length bs))) ≤ suc (length bs)
behind-short bs d h = by (run_val 0 bs * 10 ^ (6 - length bs)) refl
  where
    by : (r : ℕ) → run_val 0 bs * 10 ^ (6 - length bs) ≡ r → length (behind_text r) ≤ suc (length bs)
    by zero e = rw behind-none (omega arith)
    by (suc r) e =
        let g : suc r < 10 ^ 6 = subst (λ (x : ℕ). x < 10 ^ 6) e (fraction-small bs d h) in
        let i = places-short 6 (length bs) (run_val 0 bs) (suc r) h (sym e) g in
        rw (behind-some (suc r) (omega arith)) (omega arith)

-- a word cut in two that says z
short_cut : (a b : List ℕ) (z : ℕ) (x : Word ℕ) → count_of a ≡ x → whole_then x b ≡ value z
    → length (millionths_text z) ≤ length a + length b
short_cut a b z malformed e h = no-case cc
short_cut a b z outside e h = no-case cc
short_cut a [] z (value n) e h =
    let q : z ≡ n * million + 0 = let k : n * million ≡ z = cc in omega arith in
    rw q (short-parts n 0 a [] (omega arith) e (rw behind-none (omega arith)))
short_cut a (c ∷ bs) z (value n) e h = by (eqb c 46 && (each is_digit bs && (ltb 0 (length bs) && leb (length bs) 6))) refl h
  where
    by : (t : Bool) → (eqb c 46 && (each is_digit bs && (ltb 0 (length bs) && leb (length bs) 6))) ≡ t
        → cond t (value (n * million + run_val 0 bs * 10 ^ (6 - length bs))) malformed ≡ value z
        → length (millionths_text z) ≤ length a + suc (length bs)
    by false q h = no-case cc
    by true q h =
        let s = and_second (eqb c 46) (each is_digit bs && (ltb 0 (length bs) && leb (length bs) 6)) q in
        let d = and_first (each is_digit bs) (ltb 0 (length bs) && leb (length bs) 6) s in
        let f = leb-true (length bs) 6 (and_second (ltb 0 (length bs)) (leb (length bs) 6)
        (and_second (each is_digit bs) (ltb 0 (length bs) && leb (length bs) 6) s)) in
        let k : n * million + run_val 0 bs * 10 ^ (6 - length bs) ≡ z = cc in
        rw (← k) (short-parts n (run_val 0 bs * 10 ^ (6 - length bs)) a (c ∷ bs) (fraction-small bs d f) e (behind-short bs d f))

short-by : (w : List ℕ) (z k : ℕ) → whole_then (count_of (take k w)) (drop k w) ≡ value z → length (millionths_text z) ≤ length w
short-by w z k h =
    let e : length (take k w) + length (drop k w) ≡ length w =
    sym (length-append (take k w) (drop k w)) ∙ ap length (take-append-drop k w) in
    subst (λ (x : ℕ). length (millionths_text z) ≤ x) e (short_cut (take k w) (drop k w) z (count_of (take k w)) refl h)

-- "the shortest plain decimal"
pub millionths-shortest : (w : List ℕ) (z : ℕ) → millionths_of w ≡ value z → length (millionths_text z) ≤ length w
unfolding millionths_of
millionths-shortest w z h = short-by w z (count_stop w) h

-- ---- as a claim's decimal it says the same number
each_none : each is_digit [] ≡ true
unfolding each
each_none = refl

whole_of : (n : ℕ) → (w : WholePart) × (whole_digits w ≡ count_text n) × (leads_well w ≡ true)
whole_of zero = (nought, sym (count_small 0 (omega arith)), refl)
whole_of (suc n) = by (count_text (suc n)) (count-spells (suc n))
  where
    by : (l : List ℕ) → Spells (suc n) l → (w : WholePart) × (whole_digits w ≡ l) × (leads_well w ≡ true)
    by [] s = absurd (omega (arith, s.some))
    by (b ∷ bs) s = (number b bs, refl, within-yes (s.lead (omega arith)) (first_of b bs (suc n) s).1)

fraction-of : (r : ℕ) → (f : FractionPart) × (fraction_bytes f ≡ behind_text r) × (fraction_digits f ≡ places_text 6 r)
fraction-of zero = (no_point, sym behind-none, sym (places-none 6))
fraction-of (suc r) =
    let e = sym (places-more 5 (suc r) (omega arith)) in (
      point (48 + suc r / 10 ^ 5) (places_text 5 (suc r % 10 ^ 5)),
      ap (λ (l : List ℕ). 46 ∷ l) e ∙ sym (behind-some (suc r) (omega arith)),
      e,
    )

number_append : (n : ℕ) (a b : List ℕ) → number_of n (a ++ b) ≡ number_of (number_of n a) b
number_append n [] b = refl
number_append n (x ∷ a) b = number_append (with_digit n x) a b

-- its digits as one number, and how many of them stand behind the point
millionths-number : (z : ℕ) → number_of 0 (count_text (z / million) ++ places_text 6 (z % million)) * 10 ^ 6
    ≡ z * 10 ^ length (places_text 6 (z % million))
millionths-number z =
    let l : List ℕ = places_text 6 (z % million) in
    let b = places_behind 6 (z % million) (rest-small z) in
    let f = b.few in
    let q : 6 - length l + length l ≡ 6 = omega arith in
    let e : z / million * 10 ^ 6 + z % million ≡ z = omega arith in
    let m : number_of 0 (count_text (z / million)) ≡ z / million =
    sym (all_val 0 (count_text (z / million)) (count-digits (z / million))) ∙ (count-spells (z / million)).val in
    let n : number_of 0 (count_text (z / million) ++ l) ≡ run_val (z / million) l =
    number_append 0 (count_text (z / million)) l ∙ ap (λ (x : ℕ). number_of x l) m ∙ sym (all_val (z / million) l b.all) in
    ap₂ (λ (x y : ℕ). x * y) n (ap (λ (x : ℕ). 10 ^ x) (sym q) ∙ pow-add 10 (6 - length l) (length l))
    ∙ sym (mul_assoc (run_val (z / million) l) (10 ^ (6 - length l)) (10 ^ length l))
    ∙ ap (λ (x : ℕ). x * 10 ^ length l) (b.val (z / million) ∙ e)

-- z millionths of at most 17 digits: written in "the coefficients' decimal form"
pub millionths-claimed : (z : ℕ) → z < 10 ^ 17
    → (d : Decimal) × (decimal_of (millionths_text z) ≡ value d) × (d.up ≡ 0) × (d.digits * 10 ^ 6 ≡ z * 10 ^ d.down)
unfolding millionths_text
millionths-claimed z h =
    let w = whole_of (z / million) in
    let f = fraction-of (z % million) in
    let p : Parts = record { whole = w.0; fraction = f.0; power = no_power } in
    let digits : digits_of p ≡ count_text (z / million) ++ places_text 6 (z % million) = ap₂ (λ (x y : List ℕ). x ++ y) w.1 f.2 in
    let bytes : part_bytes p ≡ millionths_text z =
    ap₂ (λ (x y : List ℕ). x ++ y) w.1 (append-nil (fraction_bytes f.0) ∙ f.1) in
    let good : GoodParts p = record {
      leading = w.2;
      wholes = rw w.1 (count-digits (z / million));
      fractions = rw f.2 (places_behind 6 (z % million) (rest-small z)).all;
      powers = each_none;
      few = rw digits (omega (
        arith,
        length-append (count_text (z / million)) (places_text 6 (z % million)),
        count_long 11 (z / million) (omega arith) (omega arith),
        (places_behind 6 (z % million) (rest-small z)).few,
      ));
    } in
    let down : length (fraction_digits f.0) + 0 ≡ length (places_text 6 (z % million)) = add-zero (length (fraction_digits f.0))
    ∙ ap length f.2 in (
      parts_say p,
      ap decimal_of (sym bytes) ∙ form-taken p good,
      refl,
      ap (λ (l : List ℕ). number_of 0 l * 10 ^ 6) digits ∙ millionths-number z ∙ ap (λ (x : ℕ). z * 10 ^ x) (sym down),
    )
