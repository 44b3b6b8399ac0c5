-- The decimal's grammar is what the scanner takes, with the same value; everything else is malformed; a word has one set of parts, and
-- how large its numbers can be. Assumes nothing.
use Prim.Native.Nat.{ℕ, suc, ◌+◌, ◌*◌, ◌^◌, ◌≤◌, ◌<◌}
use mathlib.Core.Path.{◌≡◌, refl, sym, ap, ◌∙◌}
use mathlib.Core.Logic.{◌↔◌}
use mathlib.Core.Bool.{Bool, true, false, cond, ◌&&◌}
use mathlib.Core.List.{List, [], ◌∷◌, ◌++◌, append_assoc}
use native.Mathlib.Omega.{arith}
use native.Mathlib.Nat.{add-zero, one-mul, le_trans, pow-le-pow_right}
use native.Mathlib.Numerals.{add-one}
use borrow.Author.Tests.{leb-true, ltb-true, ltb-false, ne_eqb, eqb-true, eqb-false}
use lib.Dec.{leb, ltb, eqb}
use lib.ListN.{length, get_or, take, drop, length-append, length-drop, take-append-drop}
use lib.Seq.{length-take-le, get_or-take, get_or-drop, get_or-append-add, drop-cons, drop-drop, drop-append-add}
use Rattle.basis.specs.Scan.{each}
use Rattle.basis.proofs.Tests.{clash, no-case, bool_cases, eqb-by, and_first, and_second, and_both}
use Rattle.basis.proofs.Scans.{each_of, each_append}
use Rattle.text.specs.Word.{Word, malformed, outside, value, within, is_digit, with_digit, run_len, run_val}
use Rattle.text.specs.Decimal.{Exponent, up, down, wrong, digit_limit, decimal, digit_of, past_point}
use Rattle.text.specs.Decimal.{whole_is_good, signed_power, power_at, scaled, parts_of, fraction_of, decimal_of}
use Rattle.text.specs.Grammar.{WholePart, nought, number, FractionPart, no_point, point, PowerPart, no_power, plus}
use Rattle.text.specs.Grammar.{minus, Parts, whole_digits, fraction_digits, fraction_bytes, power_digits, power_bytes, SmallDecimal}
use Rattle.text.specs.Grammar.{part_bytes, digits_of, leads_well, GoodParts, number_of, up_by, down_by, parts_say, DecimalForm}
use Rattle.text.specs.declared.decimal.Decimal.{Decimal}
use Rattle.text.proofs.Bytes.{within-yes, within-is, nothing-past}
use Rattle.text.proofs.Runs.{front-len, front-val, len-le}
use Rattle.text.proofs.Decimals.{worth-yes, whole-one, whole-more, point-within}
use Rattle.text.proofs.Stops.{NeverOutside, decimal-never-outside}
use Rattle.text.proofs.Firsts.{run-before, run-here, whole-high, whole-some}
use Rattle.text.proofs.Goings.{decimal-parts}
use Rattle.text.proofs.Counts.{number-most}

-- ---- what stands after the digits of a part begins with no digit
abbrev Ends : List ℕ → Type 0
Ends r = is_digit (get_or r 0 0) ≡ false

power-ends : (t : PowerPart) → Ends (power_bytes t)
unfolding within
power-ends no_power = refl
power-ends (plus x y) = refl
power-ends (minus x y) = refl

rest-ends : (f : FractionPart) (t : PowerPart) → Ends (fraction_bytes f ++ power_bytes t)
unfolding within
rest-ends no_point t = power-ends t
rest-ends (point b bs) t = refl

-- ---- a list in two parts, by its bytes
seam : (a r : List ℕ) → get_or (a ++ r) (length a) 0 ≡ get_or r 0 0
seam a r = ap (λ (k : ℕ). get_or (a ++ r) k 0) (sym (add-zero (length a))) ∙ get_or-append-add a r 0 0

-- a power is read off what stands behind
behind : (u t : List ℕ) → power_at (u ++ t) (length u) ≡ power_at t 0
unfolding power_at
behind u t =
    rw (
      length-append u t,
      eqb-by (length u + length t) (length u) (length t) 0 (λ e. omega arith) (λ e. omega arith),
      eqb-by (length u + length t) (length u + 4) (length t) 4 (λ e. omega arith) (λ e. omega arith),
      seam u t,
      get_or-append-add u t 1 0,
      get_or-append-add u t 2 0,
      get_or-append-add u t 3 0,
    )

number_append : (n : ℕ) (a b : List ℕ) → number_of n (a ++ b) ≡ number_of (number_of n a) b
number_append n [] b = refl
number_append n (x ∷ a) b = number_append (with_digit n x) a b

two_digits : (x y : ℕ) → is_digit x ≡ true → is_digit y ≡ true → digit_of x * 10 + digit_of y ≡ number_of 0 (x ∷ y ∷ [])
two_digits x y h k =
    let a = within-is 48 57 x h in
    let b = within-is 48 57 y k in
    omega (arith, worth-yes x a.0 a.1, worth-yes y b.0 b.1)

-- ---- the scanner takes what has the form
abbrev exponent_of : PowerPart → Exponent
exponent_of no_power = up 0
exponent_of (plus x y) = up (number_of 0 (x ∷ y ∷ []))
exponent_of (minus x y) = down (number_of 0 (x ∷ y ∷ []))

power-taken : (t : PowerPart) → each is_digit (power_digits t) ≡ true → power_at (power_bytes t) 0 ≡ exponent_of t
unfolding each power_at signed_power
power-taken no_power h = refl
power-taken (plus x y) h =
    let a = and_first (is_digit x) (is_digit y && true) h in
    let b = and_first (is_digit y) true (and_second (is_digit x) (is_digit y && true) h) in
    rw (a, b) (ap up (two_digits x y a b))
power-taken (minus x y) h =
    let a = and_first (is_digit x) (is_digit y && true) h in
    let b = and_first (is_digit y) true (and_second (is_digit x) (is_digit y && true) h) in
    rw (a, b) (ap down (two_digits x y a b))

scaled-taken : (n f : ℕ) (t : PowerPart) → scaled n f (exponent_of t) ≡ value (decimal n (up_by t) (f + down_by t))
scaled-taken n f no_power = rw add-zero
scaled-taken n f (plus x y) = rw add-zero
scaled-taken n f (minus x y) = refl

whole-taken : (w : WholePart) (r : List ℕ) → leads_well w ≡ true → whole_is_good (whole_digits w ++ r) (length (whole_digits w)) ≡ true
whole-taken nought r h = sym (whole-one (48 ∷ r) 1 refl)
whole-taken (number b []) r h = sym (whole-one (b ∷ r) 1 refl)
whole-taken (number b (c ∷ bs)) r h =
    let k = within-is 49 57 b h in
    sym (whole-more (b ∷ c ∷ (bs ++ r)) (length (b ∷ c ∷ bs)) (λ q. omega arith) (omega arith) (omega arith))

-- how many bytes the point takes
abbrev pointed : FractionPart → ℕ
pointed no_point = 0
pointed (point b bs) = 1

pointed-few : (f : FractionPart) → pointed f ≤ length (fraction_digits f)
pointed-few no_point = omega arith
pointed-few (point b bs) = omega arith

pointed-length : (f : FractionPart) → length (fraction_bytes f) ≡ pointed f + length (fraction_digits f)
pointed-length no_point = refl
pointed-length (point b bs) = omega arith

point-taken : (a : List ℕ) (f : FractionPart) (t : PowerPart)
    → past_point (a ++ (fraction_bytes f ++ power_bytes t)) (length a) ≡ length a + pointed f
unfolding past_point
point-taken a no_point no_power = rw (seam a [], add-zero)
point-taken a no_point (plus x y) = rw (seam a (101 ∷ 43 ∷ x ∷ y ∷ []), add-zero)
point-taken a no_point (minus x y) = rw (seam a (101 ∷ 45 ∷ x ∷ y ∷ []), add-zero)
point-taken a (point b bs) t = rw (seam a (46 ∷ b ∷ (bs ++ power_bytes t)))

fraction-taken : (a : List ℕ) (f : FractionPart) (t : PowerPart)
    → drop (length a + pointed f) (a ++ (fraction_bytes f ++ power_bytes t)) ≡ fraction_digits f ++ power_bytes t
fraction-taken a f t = drop-append-add a (fraction_bytes f ++ power_bytes t) (pointed f) ∙ by f
  where
    by : (f : FractionPart) → drop (pointed f) (fraction_bytes f ++ power_bytes t) ≡ fraction_digits f ++ power_bytes t
    by no_point = refl
    by (point b bs) = refl

-- what has the form, the scanner takes with the same value
pub form-taken : (p : Parts) → GoodParts p → decimal_of (part_bytes p) ≡ value (parts_say p)
form-taken p g =
    let w : List ℕ = whole_digits p.whole in
    let f : List ℕ = fraction_digits p.fraction in
    let t : List ℕ = power_bytes p.power in
    let s : List ℕ = part_bytes p in
    let k : ℕ = length w + pointed p.fraction in
    let u : List ℕ = w ++ fraction_bytes p.fraction in
    let d : drop k s ≡ f ++ t = fraction-taken w p.fraction p.power in
    let v : run_val 0 s ≡ number_of 0 w = front-val 0 w (fraction_bytes p.fraction ++ t) g.wholes (rest-ends p.fraction p.power) in
    let n : run_val (run_val 0 s) (drop k s) ≡ number_of 0 (w ++ f) =
    ap (run_val (run_val 0 s)) d ∙ front-val (run_val 0 s) f t g.fractions (power-ends p.power) ∙ ap (λ (m : ℕ). number_of m f) v
    ∙ sym (number_append 0 w f) in
    let e : k + length f ≡ length u = omega (arith, length-append w (fraction_bytes p.fraction), pointed-length p.fraction) in
    let x : power_at s (k + length f) ≡ exponent_of p.power =
    ap (power_at s) e ∙ ap (λ (l : List ℕ). power_at l (length u)) (sym (append_assoc w (fraction_bytes p.fraction) t)) ∙ behind u t
    ∙ power-taken p.power g.powers in
    decimal-parts s (length w) k (length f)
    (front-len w (fraction_bytes p.fraction ++ t) g.wholes (rest-ends p.fraction p.power))
    (point-taken w p.fraction p.power)
    (ap run_len d ∙ front-len f t g.fractions (power-ends p.power))
    (whole-taken p.whole (fraction_bytes p.fraction ++ t) g.leading)
    (omega (arith, pointed-few p.fraction))
    (omega (arith, g.few, length-append w f))
    ∙ ap (λ (y : Exponent). scaled (run_val (run_val 0 s) (drop k s)) (length f) y) x
    ∙ ap (λ (m : ℕ). scaled m (length f) (exponent_of p.power)) n
    ∙ scaled-taken (number_of 0 (w ++ f)) (length f) p.power

-- ---- what the scanner takes has the form
pub digits-front : (l : List ℕ) → each is_digit (take (run_len l) l) ≡ true
digits-front l =
    let k = length-take-le (run_len l) l (len-le l) in
    each_of is_digit 0 (take (run_len l) l)
    (λ i h. ap is_digit (get_or-take (run_len l) l i 0 (omega arith)) ∙ run-before l i (omega arith))

here-ends : (l : List ℕ) → Ends (drop (run_len l) l)
here-ends l = ap is_digit (get_or-drop (run_len l) l 0 0 ∙ ap (λ (k : ℕ). get_or l k 0) (add-zero (run_len l))) ∙ run-here l

pub front-number : (n : ℕ) (l : List ℕ) → run_val n l ≡ number_of n (take (run_len l) l)
front-number n l =
    ap (run_val n) (sym (take-append-drop (run_len l) l))
    ∙ front-val n (take (run_len l) l) (drop (run_len l) l) (digits-front l) (here-ends l)

-- the whole part of some digits
record WholeOf (l : List ℕ) : Type 0 where
  part : WholePart
  is : whole_digits part ≡ l
  leads : leads_well part ≡ true

whole_of : (l : List ℕ) → each is_digit l ≡ true → (length l ≡ 0 → ⊥) → (2 ≤ length l → 48 < get_or l 0 0) → WholeOf l
unfolding each
whole_of [] h n k = absurd (n refl)
whole_of (b ∷ []) h n k =
    let q = within-is 48 57 b (and_first (is_digit b) true h) in
    bool_cases (ltb 48 b) (WholeOf (b ∷ []))
    (λ e. let m : 48 < b = ltb-true 48 b e in record { part = number b []; is = refl; leads = within-yes (omega arith) (omega arith) })
    (λ e. let m : b ≤ 48 = ltb-false 48 b e in
    let o : 48 ≡ b = omega arith in
    record { part = nought; is = ap (λ (x : ℕ). x ∷ []) o; leads = refl })
whole_of (b ∷ c ∷ l) h n k =
    let q = within-is 48 57 b (and_first (is_digit b) (each is_digit (c ∷ l)) h) in
    let m : 48 < b = k (omega arith) in
    record { part = number b (c ∷ l); is = refl; leads = within-yes (omega arith) (omega arith) }

-- the fraction part of what stands from the digits at the front on
record FractionOf (s : List ℕ) : Type 0 where
  part : FractionPart
  cut : drop (run_len s) s ≡ fraction_bytes part ++ drop (past_point s (run_len s) + run_len (drop (past_point s (run_len s)) s)) s
  is : fraction_digits part ≡ take (run_len (drop (past_point s (run_len s)) s)) (drop (past_point s (run_len s)) s)

-- some digits after the point
record PointOf (l : List ℕ) : Type 0 where
  part : FractionPart
  bytes : fraction_bytes part ≡ 46 ∷ l
  is : fraction_digits part ≡ l

point-of : (l : List ℕ) → 1 ≤ length l → PointOf l
point-of [] h = absurd (omega arith)
point-of (b ∷ l) h = record { part = point b l; bytes = refl; is = refl }

-- the digits at the front from a place on, and what stands behind them
split_at : (s : List ℕ) (p : ℕ) → drop p s ≡ take (run_len (drop p s)) (drop p s) ++ drop (p + run_len (drop p s)) s
split_at s p =
    sym (take-append-drop (run_len (drop p s)) (drop p s))
    ∙ ap (λ (l : List ℕ). take (run_len (drop p s)) (drop p s) ++ l) (drop-drop (run_len (drop p s)) p s)

fraction-of : (s : List ℕ) → past_point s (run_len s) ≤ run_len s + run_len (drop (past_point s (run_len s)) s) → FractionOf s
unfolding past_point each
fraction-of s =
    bool_cases (eqb (get_or s (run_len s) 0) 46) _
    (λ e. rw e
    (λ h. let w : ℕ = run_len s in
    let b : get_or s w 0 ≡ 46 = eqb-true (get_or s w 0) 46 e in
    let i : w < length s = bool_cases (ltb w (length s)) (w < length s) (λ t. ltb-true w (length s) t)
    (λ t. absurd (omega (arith, b, nothing-past s w (ltb-false w (length s) t)))) in
    let c : drop w s ≡ 46 ∷ drop (w + 1) s = (rw add-one (drop-cons s w 0 i)) ∙ ap (λ (x : ℕ). x ∷ drop (w + 1) s) b in
    let l : List ℕ = take (run_len (drop (w + 1) s)) (drop (w + 1) s) in
    let x = point-of l (omega (arith, length-take-le (run_len (drop (w + 1) s)) (drop (w + 1) s) (len-le (drop (w + 1) s)))) in
    record {
      part = x.part;
      cut = rw e (c ∙ ap (λ (r : List ℕ). 46 ∷ r) (split_at s (w + 1))
          ∙ ap (λ (r : List ℕ). r ++ drop (w + 1 + run_len (drop (w + 1) s)) s) (sym x.bytes));
      is = rw e x.is;
    }))
    (λ e. rw e
    (λ h. let w : ℕ = run_len s in
    let z : run_len (drop w s) ≡ 0 = front-len [] (drop w s) refl (here-ends s) in
    record { part = no_point; cut = rw (e, z, add-zero); is = rw (e, z) }))

-- the power part of what stands behind all digits, of a number n with f digits after the point
record PowerOf (n f : ℕ) (l : List ℕ) (d : Decimal) : Type 0 where
  part : PowerPart
  is : power_bytes part ≡ l
  digits : each is_digit (power_digits part) ≡ true
  says : d ≡ decimal n (up_by part) (f + down_by part)

module _ (n f : ℕ) (d : Decimal) where
  power-four : (a b x y : ℕ) → (t u : Bool) → eqb b 43 ≡ t → eqb b 45 ≡ u → a ≡ 101 → is_digit x ≡ true → is_digit y ≡ true
      → scaled n f (cond t (up (digit_of x * 10 + digit_of y)) (cond u (down (digit_of x * 10 + digit_of y)) wrong)) ≡ value d
      → PowerOf n f (a ∷ b ∷ x ∷ y ∷ []) d
  unfolding each
  power-four a b x y true u p q e h k g =
      let c : b ≡ 43 = eqb-true b 43 p in
      let z : decimal n (digit_of x * 10 + digit_of y) f ≡ d = cc in
      record {
        part = plus x y;
        is = rw (e, c);
        digits = rw (h, k);
        says = sym z ∙ ap (λ (m : ℕ). decimal n m f) (two_digits x y h k) ∙ ap (decimal n (number_of 0 (x ∷ y ∷ []))) (sym (add-zero f));
      }
  power-four a b x y false true p q e h k g =
      let c : b ≡ 45 = eqb-true b 45 q in
      let z : decimal n 0 (f + (digit_of x * 10 + digit_of y)) ≡ d = cc in
      record {
        part = minus x y;
        is = rw (e, c);
        digits = rw (h, k);
        says = sym z ∙ ap (λ (m : ℕ). decimal n 0 (f + m)) (two_digits x y h k);
      }
  power-four a b x y false false p q e h k g = no-case cc

  power-of : (l : List ℕ) → scaled n f (power_at l 0) ≡ value d → PowerOf n f l d
  unfolding power_at signed_power each
  power-of [] g =
      let z : decimal n 0 f ≡ d = cc in
      record { part = no_power; is = refl; digits = refl; says = sym z ∙ ap (decimal n 0) (sym (add-zero f)) }
  power-of (a ∷ []) g = no-case cc
  power-of (a ∷ b ∷ []) g = no-case cc
  power-of (a ∷ b ∷ x ∷ []) g = no-case cc
  power-of (a ∷ b ∷ x ∷ y ∷ []) g =
      let t : Bool = eqb a 101 && (is_digit x && is_digit y) in
      let r = scaled-some t (cond (eqb b 43) (up (digit_of x * 10 + digit_of y))
      (cond (eqb b 45) (down (digit_of x * 10 + digit_of y)) wrong))
      g in
      let h = and_second (eqb a 101) (is_digit x && is_digit y) r.0 in
      power-four a b x y (eqb b 43) (eqb b 45) refl refl (eqb-true a 101 (and_first (eqb a 101) (is_digit x && is_digit y) r.0))
      (and_first (is_digit x) (is_digit y) h) (and_second (is_digit x) (is_digit y) h) r.1
    where
      scaled-some : (t : Bool) (e : Exponent) → scaled n f (cond t e wrong) ≡ value d → (t ≡ true) × (scaled n f e ≡ value d)
      scaled-some true e k = (refl, k)
      scaled-some false e k = no-case cc
  power-of (a ∷ b ∷ x ∷ y ∷ z ∷ l) g =
      no-case (let h = rw (
        ne_eqb (length (a ∷ b ∷ x ∷ y ∷ z ∷ l)) 0 (λ q. omega arith),
        ne_eqb (length (a ∷ b ∷ x ∷ y ∷ z ∷ l)) 4 (λ q. omega arith),
      ) at g in cc)

-- ---- the parts of a word that the scanner takes
module _ (s : List ℕ) (d : Decimal) where
  -- w digits before the point; f after it, from p on; all of them make n
  abbrev w : ℕ
  w = run_len s

  abbrev p : ℕ
  p = past_point s w

  abbrev f : ℕ
  f = run_len (drop p s)

  abbrev n : ℕ
  n = run_val (run_val 0 s) (drop p s)

  module _ (g : whole_is_good s w ≡ true) (h : p ≤ w + f) (i : w + f ≤ digit_limit) (e : scaled n f (power_at s (p + f)) ≡ value d) where
    whole_part : WholeOf (take w s)
    whole_part =
        let m = length-take-le w s (len-le s) in
        whole_of (take w s) (digits-front s) (λ q. eqb-false w 0 (whole-some s w g) (omega arith))
        (λ q. omega (arith, get_or-take w s 0 0 (omega arith), whole-high s w (omega arith) g))

    power-part : PowerOf n f (drop (p + f) s) d
    power-part =
        let k : p + f ≤ length s = omega (arith, point-within s w (len-le s), len-le (drop p s), length-drop p s) in
        let u : List ℕ = take (p + f) s in
        let r : List ℕ = drop (p + f) s in
        let q : power_at s (p + f) ≡ power_at r 0 =
        ap (λ (l : List ℕ). power_at l (p + f)) (sym (take-append-drop (p + f) s))
        ∙ ap (power_at (u ++ r)) (sym (length-take-le (p + f) s k))
        ∙ behind u r in
        power-of n f d r (ap (scaled n f) (sym q) ∙ e)

    form-by : DecimalForm s d
    form-by =
        let x = whole_part in
        let y = fraction-of s h in
        let z = power-part in
        let a : List ℕ = whole_digits x.part in
        let b : List ℕ = fraction_digits y.part in
        let l : length b ≡ f = ap length y.is ∙ length-take-le f (drop p s) (len-le (drop p s)) in
        let m : length a ≡ w = ap length x.is ∙ length-take-le w s (len-le s) in
        let v : n ≡ number_of 0 (a ++ b) =
        front-number (run_val 0 s) (drop p s) ∙ ap (λ (k : ℕ). number_of k (take f (drop p s))) (front-number 0 s)
        ∙ ap (λ (c : List ℕ). number_of (number_of 0 c) (take f (drop p s))) (sym x.is) ∙ ap (number_of (number_of 0 a)) (sym y.is)
        ∙ sym (number_append 0 a b) in
        record {
          parts = record { whole = x.part; fraction = y.part; power = z.part };
          good = record {
            leading = x.leads;
            wholes = ap (each is_digit) x.is ∙ digits-front s;
            fractions = ap (each is_digit) y.is ∙ digits-front (drop p s);
            powers = z.digits;
            few = omega (arith, length-append a b);
          };
          bytes =
              sym (take-append-drop w s) ∙ ap (λ (c : List ℕ). c ++ drop w s) (sym x.is)
              ∙ ap (λ (c : List ℕ). a ++ c) (y.cut ∙ ap (λ (c : List ℕ). fraction_bytes y.part ++ c) (sym z.is));
          says =
              z.says ∙ ap (λ (k : ℕ). decimal k (up_by z.part) (f + down_by z.part)) v
              ∙ ap (λ (k : ℕ). decimal (number_of 0 (a ++ b)) (up_by z.part) (k + down_by z.part)) (sym l);
        }

passed : (t : Bool) (x : Word Decimal) (d : Decimal) → cond t x malformed ≡ value d → (t ≡ true) × (x ≡ value d)
passed true x d e = (refl, e)
passed false x d e = no-case cc

-- what the scanner takes has the form, and says the same
pub form_of : (s : List ℕ) (d : Decimal) → decimal_of s ≡ value d → DecimalForm s d
unfolding decimal_of fraction_of parts_of
form_of s d e =
    let a = passed (whole_is_good s (w s d) && (leb (p s d) (w s d + f s d) && leb (w s d + f s d) digit_limit))
    (scaled (n s d) (f s d) (power_at s (p s d + f s d))) d e in
    let b = and_second (whole_is_good s (w s d)) (leb (p s d) (w s d + f s d) && leb (w s d + f s d) digit_limit) a.0 in
    form-by s d
    (and_first (whole_is_good s (w s d)) (leb (p s d) (w s d + f s d) && leb (w s d + f s d) digit_limit) a.0)
    (leb-true (p s d) (w s d + f s d) (and_first (leb (p s d) (w s d + f s d)) (leb (w s d + f s d) digit_limit) b))
    (leb-true (w s d + f s d) digit_limit (and_second (leb (p s d) (w s d + f s d)) (leb (w s d + f s d) digit_limit) b))
    a.1

-- the scanner's rule is the grammar: a word is taken with a value exactly where it has the form of a decimal that says that value
pub decimal-grammar : (s : List ℕ) (d : Decimal) → (decimal_of s ≡ value d) ↔ DecimalForm s d
decimal-grammar s d = (form_of s d, λ x. ap decimal_of x.bytes ∙ form-taken x.parts x.good ∙ ap value (sym x.says))

-- a word without that form is malformed, never out of range
pub decimal-else : (s : List ℕ) → ((d : Decimal) → DecimalForm s d → ⊥) → decimal_of s ≡ malformed
decimal-else s h = by (decimal_of s) refl (decimal-never-outside s)
  where
    by : (x : Word Decimal) → decimal_of s ≡ x → NeverOutside x → decimal_of s ≡ malformed
    by malformed e i = e
    by outside e i = absurd i
    by (value d) e i = absurd (h d (form_of s d e))

-- ---- the parts of a word are one
digits-one : (a b r t : List ℕ) → each is_digit a ≡ true → each is_digit b ≡ true → Ends r → Ends t → a ++ r ≡ b ++ t → (a ≡ b) × (r ≡ t)
unfolding each
digits-one [] [] r t h k i j e = (refl, e)
digits-one [] (y ∷ b) r t h k i j e =
    clash (and_first (is_digit y) (each is_digit b) k) (ap (λ (l : List ℕ). is_digit (get_or l 0 0)) (sym e) ∙ i)
digits-one (x ∷ a) [] r t h k i j e = clash (and_first (is_digit x) (each is_digit a) h)
    (ap (λ (l : List ℕ). is_digit (get_or l 0 0)) e ∙ j)
digits-one (x ∷ a) (y ∷ b) r t h k i j e =
    let p : x ≡ y = cc in
    let q : a ++ r ≡ b ++ t = cc in
    let o = digits-one a b r t (and_second (is_digit x) (each is_digit a) h) (and_second (is_digit y) (each is_digit b) k) i j q in
    (cc, o.1)

whole-one-of : (w v : WholePart) → leads_well w ≡ true → leads_well v ≡ true → whole_digits w ≡ whole_digits v → w ≡ v
unfolding within
whole-one-of nought nought h k e = refl
whole-one-of nought (number b bs) h k e = let q : 48 ≡ b = cc in clash k (ap (within 49 57) (sym q))
whole-one-of (number b bs) nought h k e = let q : b ≡ 48 = cc in clash h (ap (within 49 57) q)
whole-one-of (number b bs) (number c cs) h k e = cc

power-one : (t u : PowerPart) → power_bytes t ≡ power_bytes u → t ≡ u
power-one no_power no_power e = refl
power-one no_power (plus x y) e = no-case cc
power-one no_power (minus x y) e = no-case cc
power-one (plus a b) no_power e = no-case cc
power-one (plus a b) (plus x y) e = cc
power-one (plus a b) (minus x y) e = absurd (let q : ◌≡◌ {A = ℕ} 43 45 = cc in omega arith)
power-one (minus a b) no_power e = no-case cc
power-one (minus a b) (plus x y) e = absurd (let q : ◌≡◌ {A = ℕ} 45 43 = cc in omega arith)
power-one (minus a b) (minus x y) e = cc

no-point : (t : PowerPart) (l : List ℕ) → power_bytes t ≡ 46 ∷ l → ⊥
no-point no_power l e = no-case cc
no-point (plus x y) l e = let q : ◌≡◌ {A = ℕ} 101 46 = cc in omega arith
no-point (minus x y) l e = let q : ◌≡◌ {A = ℕ} 101 46 = cc in omega arith

rest-one : (f g : FractionPart) (t u : PowerPart) → each is_digit (fraction_digits f) ≡ true → each is_digit (fraction_digits g) ≡ true
    → fraction_bytes f ++ power_bytes t ≡ fraction_bytes g ++ power_bytes u → (f ≡ g) × (t ≡ u)
rest-one no_point no_point t u h k e = (refl, power-one t u e)
rest-one no_point (point c cs) t u h k e = absurd (no-point t (c ∷ (cs ++ power_bytes u)) e)
rest-one (point b bs) no_point t u h k e = absurd (no-point u (b ∷ (bs ++ power_bytes t)) (sym e))
rest-one (point b bs) (point c cs) t u h k e =
    let q : (b ∷ bs) ++ power_bytes t ≡ (c ∷ cs) ++ power_bytes u = cc in
    let o = digits-one (b ∷ bs) (c ∷ cs) (power_bytes t) (power_bytes u) h k (power-ends t) (power-ends u) q in
    let x : b ≡ c = cc in
    let y : bs ≡ cs = cc in
    (cc, power-one t u o.1)

-- two good sets of parts with the same bytes are the same parts
pub parts-one : (p q : Parts) → GoodParts p → GoodParts q → part_bytes p ≡ part_bytes q → p ≡ q
parts-one p q g h e =
    let a =
    digits-one (whole_digits p.whole) (whole_digits q.whole) (fraction_bytes p.fraction ++ power_bytes p.power)
    (fraction_bytes q.fraction ++ power_bytes q.power)
    g.wholes h.wholes (rest-ends p.fraction p.power) (rest-ends q.fraction q.power) e in
    let w : p.whole ≡ q.whole = whole-one-of p.whole q.whole g.leading h.leading a.0 in
    let r = rest-one p.fraction q.fraction p.power q.power g.fractions h.fractions a.1 in
    let f : p.fraction ≡ q.fraction = r.0 in
    let t : p.power ≡ q.power = r.1 in
    λ i. record { whole = w i; fraction = f i; power = t i }

-- so a word has the form of a decimal in one way, and says one decimal
pub form-one : (s : List ℕ) (d e : Decimal) (x : DecimalForm s d) (y : DecimalForm s e) → (x.parts ≡ y.parts) × (d ≡ e)
form-one s d e x y =
    let q : x.parts ≡ y.parts = parts-one x.parts y.parts x.good y.good (sym x.bytes ∙ y.bytes) in
    (q, x.says ∙ ap parts_say q ∙ sym y.says)

-- ---- no decimal is larger than the grammar lets it be
power_small : (t : PowerPart) → each is_digit (power_digits t) ≡ true → (up_by t < 100) × (down_by t < 100)
power_small no_power h = (omega arith, omega arith)
power_small (plus x y) h = (number-most 0 (x ∷ y ∷ []) h, omega arith)
power_small (minus x y) h = (omega arith, number-most 0 (x ∷ y ∷ []) h)

whole-digit : (w : WholePart) → 1 ≤ length (whole_digits w)
whole-digit nought = omega arith
whole-digit (number b bs) = omega arith

pub form_small : (s : List ℕ) (d : Decimal) → DecimalForm s d → SmallDecimal d
form_small s d x =
    let p = x.parts in
    let g = x.good in
    let t = power_small p.power g.powers in
    let e : each is_digit (digits_of p) ≡ true = each_append is_digit (whole_digits p.whole) (fraction_digits p.fraction)
    ∙ and_both g.wholes g.fractions in
    let m : suc (number_of 0 (digits_of p)) ≤ 10 ^ length (digits_of p) = rw one-mul at (number-most 0 (digits_of p) e) in
    rw x.says
    (record {
      mantissa = le_trans m (pow-le-pow_right (omega arith) g.few);
      raised = t.0;
      lowered = omega (arith, t.1, g.few, whole-digit p.whole, length-append (whole_digits p.whole) (fraction_digits p.fraction));
    })
