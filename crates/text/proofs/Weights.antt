-- A weight: the bytes of its whole part and what stands behind them; where it breaks off; and its grammar is what is taken, with the same
-- millionths. Assumes nothing.
use Prim.Native.Nat.{ℕ, suc, ◌+◌, ◌*◌, ◌^◌, ◌≤◌, ◌<◌, min}
use mathlib.Core.Path.{◌≡◌, refl, sym, ap, ◌∙◌}
use mathlib.Core.Logic.{◌↔◌, ◌⊎◌, inl, inr, ⊎_elim}
use mathlib.Core.List.{List, [], ◌∷◌, ◌++◌, append_assoc, append-nil}
use mathlib.Core.Bool.{Bool, true, false, cond, ◌&&◌}
use native.Mathlib.Omega.{arith}
use native.Mathlib.Nat.{add-zero, eq-or-lt_of_le}
use borrow.Author.Tests.{le-leb, lt-leb, leb-true, lt-ltb, ltb-true, ltb-false, ne_eqb, eqb-true, eqb-false}
use lib.Dec.{leb, ltb, eqb}
use lib.ListN.{length, get_or, take, drop, length-append, length-drop, take-append-drop}
use lib.Seq.{length-take-le, get_or-drop, take-append-add, take-append-le, drop-append-add, take_all, take-take}
use Rattle.basis.specs.Limits.{most_weight}
use Rattle.basis.specs.Scan.{each, mem}
use Rattle.basis.proofs.Tests.{clash, no-case, false_of, bool_cases, and_first, and_second, and_both, and-off, or_cases}
use Rattle.basis.proofs.Scans.{each_append, each-mem, mem-append}
use Rattle.text.specs.Word.{Word, malformed, outside, value, well_formed, within, is_digit, run_len, run_val, zero_of, count_of}
use Rattle.text.specs.Grammar.{WholePart, nought, number, FractionPart, no_point, point}
use Rattle.text.specs.Grammar.{whole_digits, fraction_digits, fraction_bytes, leads_well, number_of}
use Rattle.text.specs.Stop.{count_stop}
use Rattle.text.specs.Weight.{most_places, million, with_fraction, behind_whole, whole_then, millionths_of, carried, weight_of}
use Rattle.text.specs.Weight.{behind_stop, weight_stop, WeightForm, IsWeight}
use Rattle.text.specs.Column.{Formed, file_end}
use Rattle.text.specs.Bytes.{lf}
use Rattle.text.specs.Weighed.{weight_form}
use Rattle.text.proofs.Bytes.{within-is, first-digit}
use Rattle.text.proofs.Runs.{front-len, all_val, len-le}
use Rattle.text.proofs.Stops.{cond-le}
use Rattle.text.proofs.Firsts.{run-here}
use Rattle.text.proofs.Goings.{Goes}
use Rattle.text.proofs.Grammars.{digits-front}
use Rattle.text.proofs.Counts.{Leads, count-form}
use Rattle.text.proofs.Words.{count-stray}
use Rattle.text.proofs.Idents.{count-short, run-breaks}
use Rattle.text.proofs.Breaks.{RightStop}

-- ---- the whole part
-- a good count, with a byte behind it that is no digit, or nothing
count-whole : (u q : List ℕ) → well_formed (count_of u) ≡ true → is_digit (get_or q 0 0) ≡ false → count_stop (u ++ q) ≡ length u
count-whole [] q h d = clash h refl
count-whole (b ∷ bs) q h d = by (eqb b 48) (within 49 57 b) h
  where
    zero-by : (bs : List ℕ) → well_formed (zero_of bs) ≡ true → 1 ≡ length (b ∷ bs)
    zero-by [] h = refl
    zero-by (x ∷ xs) h = clash h refl

    by : (t u : Bool) → well_formed (cond t (zero_of bs) (cond (u && each is_digit bs) (value (run_val 0 (b ∷ bs))) malformed)) ≡ true
        → cond t 1 (cond u (suc (run_len (bs ++ q))) 0) ≡ length (b ∷ bs)
    by true u h = zero-by bs h
    by false true h =
        bool_cases (each is_digit bs) _ (λ e. ap suc (front-len bs q e d)) (λ e. clash h (rw e))
    by false false h = clash h refl

whole-cut : (u q : List ℕ) (k : ℕ) → k ≡ length u → whole_then (count_of (take k (u ++ q))) (drop k (u ++ q)) ≡ whole_then (count_of u) q
whole-cut u q k e =
    rw (
      e,
      take-append-le (length u) u q (omega arith) ∙ take_all (length u) u (omega arith),
      ap (λ (n : ℕ). drop n (u ++ q)) (sym (add-zero (length u))) ∙ drop-append-add u q 0,
    )

-- what stands behind a count n, if no digit follows it
whole-taken : (u q : List ℕ) (n : ℕ) → count_of u ≡ value n → is_digit (get_or q 0 0) ≡ false → millionths_of (u ++ q) ≡ behind_whole n q
unfolding millionths_of
whole-taken u q n h d = whole-cut u q (count_stop (u ++ q)) (count-whole u q (ap well_formed h) d) ∙ rw h

-- ---- the bytes up to where the whole part breaks off, and those behind it
-- a count's bytes, and behind them the byte at which it broke off, or the end
count-keeps : (w q : List ℕ) → get_or q 0 0 ≡ get_or (drop (count_stop w) w) 0 0 → count_stop (take (count_stop w) w ++ q) ≡ count_stop w
unfolding within
count-keeps [] [] e = refl
count-keeps [] (x ∷ q) e = rw e
count-keeps (b ∷ bs) q e = by (eqb b 48) (within 49 57 b) refl refl e
  where
    same : (q : List ℕ) → get_or q 0 0 ≡ b → eqb b 48 ≡ false → within 49 57 b ≡ false → count_stop q ≡ 0
    same [] e f g = refl
    same (x ∷ q) e f g = rw (e, f, g)

    by : (t u : Bool) → eqb b 48 ≡ t → within 49 57 b ≡ u
        → get_or q 0 0 ≡ get_or (drop (cond t 1 (cond u (suc (run_len bs)) 0)) (b ∷ bs)) 0 0
        → count_stop (take (cond t 1 (cond u (suc (run_len bs)) 0)) (b ∷ bs) ++ q) ≡ cond t 1 (cond u (suc (run_len bs)) 0)
    by true u f g e = rw f
    by false true f g e =
        let d : is_digit (get_or q 0 0) ≡ false = ap is_digit (e ∙ get_or-drop (run_len bs) bs 0 0)
        ∙ ap (λ (k : ℕ). is_digit (get_or bs k 0)) (add-zero (run_len bs)) ∙ run-here bs in
        rw (f, g) (ap suc (front-len (take (run_len bs) bs) q (digits-front bs) d ∙ length-take-le (run_len bs) bs (len-le bs)))
    by false false f g e = same q e f g

-- where there is one, they say a count
pub count-said : (w : List ℕ) → eqb (count_stop w) 0 ≡ false → (n : ℕ) × (count_of (take (count_stop w) w) ≡ value n)
count-said [] z = clash refl z
count-said (b ∷ bs) z = by (eqb b 48) (within 49 57 b) refl refl z
  where
    by : (t u : Bool) → eqb b 48 ≡ t → within 49 57 b ≡ u → eqb (cond t 1 (cond u (suc (run_len bs)) 0)) 0 ≡ false
        → (n : ℕ) × (count_of (take (cond t 1 (cond u (suc (run_len bs)) 0)) (b ∷ bs)) ≡ value n)
    by true u f g z = (0, rw f)
    by false true f g z = (run_val 0 (b ∷ take (run_len bs) bs), rw (f, g, digits-front bs))
    by false false f g z = clash refl z

-- a weight by its whole part, if that is what the bytes say
carried-well : (x : Word ℕ) → well_formed (carried x) ≡ well_formed x
carried-well malformed = refl
carried-well outside = refl
carried-well (value n) = refl

then-well : (x : Word ℕ) (q : List ℕ) → well_formed (whole_then x q) ≡ true → well_formed x ≡ true
then-well malformed q h = h
then-well outside q h = refl
then-well (value n) q h = refl

-- ---- what stands behind the whole part
abbrev pub places_are : List ℕ → Bool
places_are bs = each is_digit bs && (ltb 0 (length bs) && leb (length bs) most_places)

pub point-well : (n b : ℕ) (bs : List ℕ) → well_formed (behind_whole n (b ∷ bs)) ≡ (eqb b 46 && places_are bs)
point-well n b bs = bool_cases (eqb b 46 && places_are bs) _ (λ e. rw e) (λ e. rw e)

pub lt_of : (m n : ℕ) → m ≤ n → (m ≡ n → ⊥) → m < n
lt_of m n h k = ⊎_elim (λ e. absurd (k e)) (λ i. i) (eq-or-lt_of_le h)

each_fewer : (p : ℕ → Bool) (m n : ℕ) (l : List ℕ) → m ≤ n → each p (take n l) ≡ true → each p (take m l) ≡ true
each_fewer p m n l h e =
    let q : take m (take n l) ≡ take m l = take-take m n l h in
    and_first (each p (take m l)) (each p (drop m (take n l)))
    (sym (each_append p (take m l) (drop m (take n l))) ∙ ap (λ (k : List ℕ). each p (k ++ drop m (take n l))) (sym q)
    ∙ ap (each p) (take-append-drop m (take n l)) ∙ e)

-- one to six digits
pub places-good : (bs : List ℕ) → each is_digit bs ≡ true → 0 < length bs → length bs ≤ most_places → places_are bs ≡ true
places-good bs h k l = and_both h (and_both (lt-ltb 0 (length bs) k) (le-leb (length bs) most_places l))

-- the first six digits behind the point, with one more where there is none
places-go : (bs : List ℕ) → (t : List ℕ) × (places_are (take (min (run_len bs) most_places) bs ++ t) ≡ true)
unfolding each within
places-go bs =
    let m : ℕ = min (run_len bs) most_places in
    let l : length (take m bs) ≡ m = length-take-le m bs (omega (arith, len-le bs)) in
    let d : each is_digit (take m bs) ≡ true = each_fewer is_digit m (run_len bs) bs (omega arith) (digits-front bs) in
    bool_cases (eqb m 0) _
    (λ e. let z : m ≡ 0 = eqb-true m 0 e in (
      48 ∷ [],
      places-good (take m bs ++ 48 ∷ []) (each_append is_digit (take m bs) (48 ∷ []) ∙ and_both d refl)
          (omega (arith, length-append (take m bs) (48 ∷ []))) (omega (arith, length-append (take m bs) (48 ∷ []))),
    ))
    (λ e. let z = eqb-false m 0 e in
    let k : 0 < length (take m bs) = lt_of 0 (length (take m bs)) (omega arith) (λ q. z (omega arith)) in
    ([], rw (append-nil (take m bs)) (places-good (take m bs) d k (omega arith))))

-- the digits behind the point up to one too many, or up to a byte that is none
places-break : (bs t : List ℕ) → min (run_len bs) most_places < length bs
    → places_are (take (suc (min (run_len bs) most_places)) bs ++ t) ≡ false
places-break bs t h =
    bool_cases (ltb (run_len bs) most_places) _
    (λ e. let k : min (run_len bs) most_places ≡ run_len bs = omega (arith, ltb-true (run_len bs) most_places e) in
    rw k (rw (run-breaks bs t (omega arith))))
    (λ e. let k : min (run_len bs) most_places ≡ most_places = omega (arith, ltb-false (run_len bs) most_places e) in
    let u : List ℕ = take (suc most_places) bs in
    let l : most_places < length (u ++ t) = omega (arith, length-take-le (suc most_places) bs (omega arith), length-append u t) in
    rw k (and-off (each is_digit (u ++ t)) _ (and-off (ltb 0 (length (u ++ t))) _ (lt-leb (length (u ++ t)) most_places l))))

-- nothing goes on to `0`
none-goes : Goes weight_of []
unfolding weight_of millionths_of
none-goes = record { rest = 48 ∷ []; good = refl }

-- ---- where a weight breaks off
module _ (w : List ℕ) where
  abbrev c : ℕ
  c = count_stop w

  abbrev front : List ℕ
  front = take c w

  abbrev rest : List ℕ
  rest = drop c w

  -- the bytes up to k places behind the whole part
  behind-take : (k : ℕ) → take (c + k) w ≡ front ++ take k rest
  behind-take k =
      let l : length front ≡ c = length-take-le c w (count-short w) in
      ap (take (c + k)) (sym (take-append-drop c w)) ∙ ap (λ (n : ℕ). take (n + k) (front ++ rest)) (sym l)
      ∙ take-append-add front rest k

  weight-short : weight_stop w ≤ length w
  unfolding weight_stop
  weight-short =
      cond-le (eqb c 0) 0 (c + behind_stop rest) (length w) (λ _. omega arith)
      (λ _. omega (arith, by rest, length-drop c w, count-short w))
    where
      by : (l : List ℕ) → behind_stop l ≤ length l
      by [] = omega arith
      by (b ∷ bs) =
          cond-le (eqb b 46) (suc (min (run_len bs) most_places)) 0 (suc (length bs)) (λ _. omega (arith, len-le bs)) (λ _. omega arith)

  -- a word with that whole part, and something behind it that begins with no digit
  front-taken : eqb c 0 ≡ false → (q : List ℕ) → is_digit (get_or q 0 0) ≡ false
      → (n : ℕ) × (well_formed (weight_of (front ++ q)) ≡ well_formed (behind_whole n q))
  unfolding weight_of
  front-taken z q d =
      let s = count-said w z in
      (s.0, carried-well (millionths_of (front ++ q)) ∙ ap well_formed (whole-taken front q s.0 s.1 d))

  -- k bytes behind it can go on to q
  behind-goes : (k : ℕ) (q t : List ℕ) → take k rest ++ t ≡ q → eqb c 0 ≡ false → is_digit (get_or q 0 0) ≡ false
      → ((n : ℕ) → well_formed (behind_whole n q) ≡ true) → Goes weight_of (take (c + k) w)
  behind-goes k q t e z d h =
      let f = front-taken z q d in
      let g : take (c + k) w ++ t ≡ front ++ q = ap (λ (l : List ℕ). l ++ t) (behind-take k) ∙ append_assoc front (take k rest) t
      ∙ ap (λ (l : List ℕ). front ++ l) e in
      record { rest = t; good = ap (λ (l : List ℕ). well_formed (weight_of l)) g ∙ f.1 ∙ h f.0 }

  weight-goes : Goes weight_of (take (weight_stop w) w)
  unfolding weight_stop within
  weight-goes = by (eqb c 0) refl rest refl
    where
      by : (t : Bool) → eqb c 0 ≡ t → (l : List ℕ) → rest ≡ l → Goes weight_of (take (cond t 0 (c + behind_stop l)) w)
      by true z l e = none-goes
      by false z [] e = behind-goes 0 [] [] refl z refl (λ n. refl)
      by false z (b ∷ bs) e = go (eqb b 46) refl
        where
          go : (t : Bool) → eqb b 46 ≡ t → Goes weight_of (take (c + cond t (suc (min (run_len bs) most_places)) 0) w)
          go true f =
              let m : ℕ = min (run_len bs) most_places in
              let g = places-go bs in
              behind-goes (suc m) (46 ∷ (take m bs ++ g.0)) g.0
              (ap (λ (l : List ℕ). take (suc m) l ++ g.0) e ∙ ap (λ (x : ℕ). x ∷ (take m bs ++ g.0)) (eqb-true b 46 f)) z refl
              (λ n. point-well n 46 (take m bs ++ g.0) ∙ g.1)
          go false f = behind-goes 0 [] [] refl z refl (λ n. refl)

  -- ---- with the byte there none can go on
  -- no whole part
  none-breaks : (b : ℕ) (bs t : List ℕ) → w ≡ b ∷ bs → eqb c 0 ≡ true → well_formed (weight_of (b ∷ t)) ≡ false
  unfolding weight_of millionths_of
  none-breaks b bs t e z = by (eqb b 48) (within 49 57 b) refl refl (sym (ap count_stop e) ∙ eqb-true c 0 z)
    where
      by : (p q : Bool) → eqb b 48 ≡ p → within 49 57 b ≡ q → cond p 1 (cond q (suc (run_len bs)) 0) ≡ 0
          → well_formed (weight_of (b ∷ t)) ≡ false
      by true q f g h = absurd (omega (arith, h))
      by false true f g h = absurd (omega (arith, h))
      by false false f g h = rw (f, g)

  -- the byte behind the whole part, which is no point
  whole-breaks : (b : ℕ) (bs t : List ℕ) → rest ≡ b ∷ bs → eqb b 46 ≡ false → well_formed (weight_of (front ++ b ∷ t)) ≡ false
  unfolding weight_of millionths_of
  whole-breaks b bs t e f =
      let k : count_stop (front ++ b ∷ t) ≡ length front = count-keeps w (b ∷ t) (ap (λ (l : List ℕ). get_or l 0 0) (sym e))
      ∙ sym (length-take-le c w (count-short w)) in
      carried-well (millionths_of (front ++ b ∷ t)) ∙ ap well_formed (whole-cut front (b ∷ t) (count_stop (front ++ b ∷ t)) k)
      ∙ by (count_of front)
    where
      by : (x : Word ℕ) → well_formed (whole_then x (b ∷ t)) ≡ false
      by malformed = refl
      by outside = refl
      by (value n) = point-well n b t ∙ rw f

  weight-breaks : (t : List ℕ) → weight_stop w < length w → well_formed (weight_of (take (suc (weight_stop w)) w ++ t)) ≡ false
  unfolding weight_stop within
  weight-breaks t = by (eqb c 0) refl rest refl
    where
      first : (l : List ℕ) → w ≡ l → eqb c 0 ≡ true → 0 < length l → well_formed (weight_of (take 1 l ++ t)) ≡ false
      first [] e z h = absurd (omega arith)
      first (b ∷ bs) e z h = none-breaks b bs t e z

      -- the bytes up to the one at k places behind the whole part, and that one
      on : (k : ℕ) (q : List ℕ) → take (suc k) rest ≡ q → well_formed (weight_of (front ++ (q ++ t))) ≡ false
          → well_formed (weight_of (take (suc (c + k)) w ++ t)) ≡ false
      on k q e h =
          let j : suc (c + k) ≡ c + suc k = omega arith in
          ap (λ (n : ℕ). well_formed (weight_of (take n w ++ t))) j
          ∙ ap (λ (l : List ℕ). well_formed (weight_of (l ++ t))) (behind-take (suc k))
          ∙ ap (λ (l : List ℕ). well_formed (weight_of l)) (append_assoc front (take (suc k) rest) t)
          ∙ ap (λ (l : List ℕ). well_formed (weight_of (front ++ (l ++ t)))) e ∙ h

      by : (p : Bool) → eqb c 0 ≡ p → (l : List ℕ) → rest ≡ l → cond p 0 (c + behind_stop l) < length w
          → well_formed (weight_of (take (suc (cond p 0 (c + behind_stop l))) w ++ t)) ≡ false
      by true z l e h = first w refl z h
      by false z [] e h = absurd (omega (arith, length-drop c w, ap length e))
      by false z (b ∷ bs) e h = go (eqb b 46) refl h
        where
          go : (p : Bool) → eqb b 46 ≡ p → c + cond p (suc (min (run_len bs) most_places)) 0 < length w
              → well_formed (weight_of (take (suc (c + cond p (suc (min (run_len bs) most_places)) 0)) w ++ t)) ≡ false
          go true f h =
              let m : ℕ = min (run_len bs) most_places in
              let q : List ℕ = 46 ∷ (take (suc m) bs ++ t) in
              let g = front-taken z q refl in
              on (suc m) (46 ∷ take (suc m) bs) (ap (take (suc (suc m))) e ∙ ap (λ (x : ℕ). x ∷ take (suc m) bs) (eqb-true b 46 f))
              (g.1 ∙ point-well g.0 46 (take (suc m) bs ++ t) ∙ places-break bs t (omega (arith, h, length-drop c w, ap length e)))
          go false f h = on 0 (b ∷ []) (ap (take 1) e) (whole-breaks b bs t e f)

-- ---- bytes of no weight
weight-stray : (x : ℕ) → is_digit x ≡ false → eqb x 46 ≡ false → (w : List ℕ) → mem x w ≡ true → well_formed (weight_of w) ≡ false
unfolding weight_of millionths_of mem
weight-stray x d p w h =
    carried-well (whole_then (count_of (front w)) (rest w))
    ∙ ⊎_elim (λ k. rw (count-stray x d (front w) k)) (λ k. by (count_of (front w)) (rest w) k)
    (or_cases (mem x (front w)) (mem x (rest w))
    (sym (mem-append x (front w) (rest w)) ∙ ap (mem x) (take-append-drop (count_stop w) w) ∙ h))
  where
    by : (v : Word ℕ) (l : List ℕ) → mem x l ≡ true → well_formed (whole_then v l) ≡ false
    by malformed l k = refl
    by outside l k = refl
    by (value n) [] k = clash k refl
    by (value n) (b ∷ bs) k =
        point-well n b bs
        ∙ ⊎_elim (λ e. rw (ap (λ (y : ℕ). eqb y 46) (sym (eqb-true x b e)) ∙ p))
        (λ m. and-off (eqb b 46) (places_are bs) (rw (false_of (each is_digit bs) (λ a. clash (each-mem is_digit bs a x m) d))))
        (or_cases (eqb x b) (mem x bs) k)

pub weight-right : RightStop weight_form
unfolding within
weight-right =
    record {
      short = weight-short;
      goes = weight-goes;
      breaks = weight-breaks;
      unbroken = weight-stray lf refl refl;
      unended = weight-stray file_end refl refl;
    }

-- ---- the grammar: the parts of a weight are taken with their millionths
whole_says : (p : WholePart) → leads_well p ≡ true → each is_digit (whole_digits p) ≡ true
    → count_of (whole_digits p) ≡ value (number_of 0 (whole_digits p))
unfolding each
whole_says nought h k = refl
whole_says (number b bs) h k =
    let z : eqb b 48 ≡ false = ne_eqb b 48 (λ q. omega (arith, within-is 49 57 b h)) in
    rw (z, h, and_second (is_digit b) (each is_digit bs) k) (ap value (all_val 0 (b ∷ bs) k))

fraction-says : (n : ℕ) (f : FractionPart) → each is_digit (fraction_digits f) ≡ true → length (fraction_digits f) ≤ most_places
    → behind_whole n (fraction_bytes f) ≡ value (with_fraction n (number_of 0 (fraction_digits f)) (length (fraction_digits f)))
fraction-says n no_point h k = ap value (let q : n * million ≡ n * million + 0 * 10 ^ 6 = omega arith in q)
fraction-says n (point b bs) h k =
    rw (places-good (b ∷ bs) h (omega arith) k) (ap (λ (f : ℕ). value (with_fraction n f (length (b ∷ bs)))) (all_val 0 (b ∷ bs) h))

fraction-first : (f : FractionPart) → is_digit (get_or (fraction_bytes f) 0 0) ≡ false
unfolding within
fraction-first no_point = refl
fraction-first (point b bs) = refl

-- and what is taken has such parts
record WholeSays (u : List ℕ) (n : ℕ) : Type 0 where
  part : WholePart
  is : u ≡ whole_digits part
  leading : leads_well part ≡ true
  digits : each is_digit (whole_digits part) ≡ true
  val : n ≡ number_of 0 (whole_digits part)

whole_part : (u : List ℕ) (n : ℕ) → count_of u ≡ value n → WholeSays u n
unfolding each within
whole_part u n e = by (count-form u n e)
  where
    by : ((u ≡ 48 ∷ []) × (n ≡ 0)) ⊎ Leads n u → WholeSays u n
    by (inl z) = record { part = nought; is = z.0; leading = refl; digits = refl; val = z.1 }
    by (inr x) =
        record {
          part = number x.first x.more;
          is = x.is;
          leading = x.lead;
          digits = and_both (first-digit x.first x.lead) x.digits;
          val = sym x.val;
        }

record FractionSays (n : ℕ) (l : List ℕ) (m : ℕ) : Type 0 where
  part : FractionPart
  is : l ≡ fraction_bytes part
  digits : each is_digit (fraction_digits part) ≡ true
  few : length (fraction_digits part) ≤ most_places
  val : m ≡ with_fraction n (number_of 0 (fraction_digits part)) (length (fraction_digits part))

fraction-part : (n : ℕ) (l : List ℕ) (m : ℕ) → behind_whole n l ≡ value m → FractionSays n l m
unfolding each
fraction-part n [] m e =
    let q : n * million ≡ m = cc in
    record { part = no_point; is = refl; digits = refl; few = omega arith; val = omega (arith, q) }
fraction-part n (b ∷ bs) m e = by (eqb b 46 && places_are bs) refl e
  where
    some : (bs : List ℕ) → eqb b 46 ≡ true → places_are bs ≡ true → with_fraction n (run_val 0 bs) (length bs) ≡ m
        → FractionSays n (b ∷ bs) m
    some [] f h q = clash h refl
    some (d ∷ ds) f h q =
        let a = and_first (each is_digit (d ∷ ds)) (ltb 0 (length (d ∷ ds)) && leb (length (d ∷ ds)) most_places) h in
        let k = and_second (each is_digit (d ∷ ds)) (ltb 0 (length (d ∷ ds)) && leb (length (d ∷ ds)) most_places) h in
        record {
          part = point d ds;
          is = ap (λ (x : ℕ). x ∷ d ∷ ds) (eqb-true b 46 f);
          digits = a;
          few = leb-true (length (d ∷ ds)) most_places (and_second (ltb 0 (length (d ∷ ds))) (leb (length (d ∷ ds)) most_places) k);
          val = sym q ∙ ap (λ (f : ℕ). with_fraction n f (length (d ∷ ds))) (all_val 0 (d ∷ ds) a);
        }

    by : (t : Bool) → (eqb b 46 && places_are bs) ≡ t → cond t (value (with_fraction n (run_val 0 bs) (length bs))) malformed ≡ value m
        → FractionSays n (b ∷ bs) m
    by true h e = some bs (and_first (eqb b 46) (places_are bs) h) (and_second (eqb b 46) (places_are bs) h) (cc)
    by false h e = no-case cc

form_of : (s : List ℕ) (n : ℕ) → millionths_of s ≡ value n → WeightForm s n
unfolding millionths_of
form_of s n e = by (count_of (front s)) refl e
  where
    by : (x : Word ℕ) → count_of (front s) ≡ x → whole_then x (rest s) ≡ value n → WeightForm s n
    by malformed f e = no-case cc
    by outside f e = no-case cc
    by (value m) f e =
        let x = whole_part (front s) m f in
        let y = fraction-part m (rest s) n e in
        record {
          whole = x.part;
          fraction = y.part;
          bytes = sym (take-append-drop (count_stop s) s) ∙ ap (λ (l : List ℕ). l ++ rest s) x.is
              ∙ ap (λ (l : List ℕ). whole_digits x.part ++ l) y.is;
          leading = x.leading;
          wholes = x.digits;
          fractions = y.digits;
          few = y.few;
          says = y.val
              ∙ ap (λ (k : ℕ). with_fraction k (number_of 0 (fraction_digits y.part)) (length (fraction_digits y.part))) x.val;
        }

-- "`0` or digits without a leading zero, optionally `.` and one to six digits": a word says n millionths exactly where it has that form
pub weight-grammar : (s : List ℕ) (n : ℕ) → (millionths_of s ≡ value n) ↔ WeightForm s n
weight-grammar s n = (
  form_of s n,
  λ x. ap millionths_of x.bytes
      ∙ whole-taken (whole_digits x.whole) (fraction_bytes x.fraction) (number_of 0 (whole_digits x.whole))
      (whole_says x.whole x.leading x.wholes) (fraction-first x.fraction)
      ∙ fraction-says (number_of 0 (whole_digits x.whole)) x.fraction x.fractions x.few ∙ ap value (sym x.says),
)

-- so a word says one number of millionths
pub weight-one : (s : List ℕ) (m n : ℕ) → WeightForm s m → WeightForm s n → m ≡ n
weight-one s m n x y = let e : value m ≡ value n = sym ((weight-grammar s m).1 x) ∙ (weight-grammar s n).1 y in cc

-- a good weight is carried as itself, or as the least above 100000 where it is larger
pub weight-carried : (s : List ℕ) (n : ℕ) → WeightForm s n → weight_of s ≡ value (min n (most_weight + 1))
unfolding weight_of
weight-carried s n x = ap carried ((weight-grammar s n).1 x)

-- and never out of range
never-outside : (w : List ℕ) → millionths_of w ≡ outside → ⊥
unfolding millionths_of
never-outside w = by (count_of (front w)) (rest w)
  where
    said : (t : Bool) (n : ℕ) → cond t (value n) malformed ≡ outside → ⊥
    said true n e = no-case cc
    said false n e = no-case cc

    by : (x : Word ℕ) (l : List ℕ) → whole_then x l ≡ outside → ⊥
    by malformed l e = no-case cc
    by outside l e = no-case cc
    by (value n) [] e = no-case cc
    by (value n) (b ∷ bs) e = said (eqb b 46 && places_are bs) (with_fraction n (run_val 0 bs) (length bs)) e

pub weight-formed : (w : List ℕ) → Formed weight_of w ↔ IsWeight w
unfolding weight_of
weight-formed w = (λ h. by (millionths_of w) refl h, λ x. ap well_formed (weight-carried w x.0 x.1))
  where
    by : (x : Word ℕ) → millionths_of w ≡ x → well_formed (carried x) ≡ true → IsWeight w
    by malformed e h = clash h refl
    by outside e h = absurd (never-outside w e)
    by (value k) e h = (k, form_of w k e)
