-- The texts of numbers: of what bytes they are, what number their digits make, how long they are. Assumes nothing.
use Prim.Native.Nat.{ℕ, zero, suc, ◌+◌, ◌-◌, ◌*◌, ◌/◌, ◌%◌, ◌^◌, ◌≤◌, ◌<◌}
use mathlib.Core.Path.{◌≡◌, refl, sym, ap, ◌∙◌}
use mathlib.Core.Bool.{Bool, true, false, ◌||◌}
use mathlib.Core.List.{List, [], ◌∷◌, ◌++◌}
use native.Mathlib.Omega.{arith}
use borrow.Author.Tests.{ltb-true, ltb-false}
use lib.Dec.{ltb, eqb}
use lib.IntN.{ℤ, pos, negsuc}
use lib.ListN.{length, get_or, length-append}
use mir.Syntax.{w64}
use mir.Val.{SFits}
use Rattle.basis.specs.Scan.{each, mem}
use Rattle.basis.proofs.Tests.{clash, false_of, bool_cases, and_first, and_second, and_both, or-first}
use Rattle.basis.proofs.Scans.{each-mem, each_append}
use Rattle.text.specs.Word.{within, is_digit, with_digit, run_val}
use Rattle.text.proofs.Bytes.{within-yes}
use Rattle.text.proofs.Runs.{val-digit}
use Rattle.write.specs.Number.{count_text, signed_text}
use Rattle.write.proofs.Digits.{count_small, count-more, count-all}

-- ---- digits with one more behind them
digit-yes : (d : ℕ) → d < 10 → is_digit (48 + d) ≡ true
digit-yes d h = within-yes (omega arith) (omega arith)

val-snoc : (n : ℕ) (l : List ℕ) (b : ℕ) → each is_digit l ≡ true → is_digit b ≡ true → run_val n (l ++ (b ∷ []))
    ≡ with_digit (run_val n l) b
unfolding each
val-snoc n [] b h g = val-digit n b [] g
val-snoc n (c ∷ l) b h g =
    let d : is_digit c ≡ true = and_first (is_digit c) (each is_digit l) h in
    val-digit n c (l ++ (b ∷ [])) d ∙ val-snoc (with_digit n c) l b (and_second (is_digit c) (each is_digit l) h) g
    ∙ ap (λ m. with_digit m b) (sym (val-digit n c l d))

-- ---- the text of n: digits, the first of them 1 to 9 unless n is 0, that make n
pub record Spells (n : ℕ) (l : List ℕ) : Type 0 where
  pub some : 1 ≤ length l
  pub all : each is_digit l ≡ true
  pub lead : 1 ≤ n → 49 ≤ get_or l 0 0
  pub val : run_val 0 l ≡ n

spells-small : (n : ℕ) → n < 10 → Spells n ((48 + n) ∷ [])
unfolding each
spells-small n h =
    let e : is_digit (48 + n) ≡ true = digit-yes n h in
    record {
      some = omega arith;
      all = and_both e refl;
      lead = λ g. omega arith;
      val = val-digit 0 (48 + n) [] e ∙ (let z : 0 * 10 + (48 + n - 48) ≡ n = omega arith in z);
    }

lead_snoc : (l : List ℕ) (x : ℕ) → 1 ≤ length l → get_or (l ++ (x ∷ [])) 0 0 ≡ get_or l 0 0
lead_snoc [] x h = absurd (omega arith)
lead_snoc (b ∷ l) x h = refl

spells-more : (n d : ℕ) (l : List ℕ) → 1 ≤ n → d < 10 → Spells n l → Spells (n * 10 + d) (l ++ ((48 + d) ∷ []))
unfolding each
spells-more n d l h k s =
    let e : is_digit (48 + d) ≡ true = digit-yes d k in
    record {
      some = omega (arith, length-append l ((48 + d) ∷ []));
      all = each_append is_digit l ((48 + d) ∷ []) ∙ and_both s.all (and_both e refl);
      lead = λ g. rw (lead_snoc l (48 + d) s.some) (s.lead h);
      val = val-snoc 0 l (48 + d) s.all e ∙ ap (λ m. with_digit m (48 + d)) s.val
          ∙ (let z : n * 10 + (48 + d - 48) ≡ n * 10 + d = omega arith in z);
    }

pub count-spells : (n : ℕ) → Spells n (count_text n)
count-spells = count-all Spells spells-small spells-more

-- ---- every byte of a count is a digit, every byte of an identifier a digit or the sign
pub count-digits : (n : ℕ) → each is_digit (count_text n) ≡ true
count-digits n = (count-spells n).all

abbrev pub is_digit_or_sign : ℕ → Bool
is_digit_or_sign b = is_digit b || eqb b 45

digits-or-sign : (l : List ℕ) → each is_digit l ≡ true → each is_digit_or_sign l ≡ true
unfolding each
digits-or-sign [] h = refl
digits-or-sign (b ∷ l) h =
    and_both (or-first (is_digit b) (eqb b 45) (and_first (is_digit b) (each is_digit l) h))
    (digits-or-sign l (and_second (is_digit b) (each is_digit l) h))

pub signed-digits : (z : ℤ) → each is_digit_or_sign (signed_text z) ≡ true
unfolding signed_text each within
signed-digits (pos n) = digits-or-sign (count_text n) (count-digits n)
signed-digits (negsuc n) = digits-or-sign (count_text (suc n)) (count-digits (suc n))

-- so another byte, as a space or an LF, does not stand in it
pub signed-without : (z : ℤ) (c : ℕ) → is_digit_or_sign c ≡ false → mem c (signed_text z) ≡ false
signed-without z c h = false_of (mem c (signed_text z)) (λ m. clash (each-mem is_digit_or_sign (signed_text z) (signed-digits z) c m) h)

-- ---- a number below 10 ^ k has at most k digits
pub count_long : (k n : ℕ) → 1 ≤ k → n < 10 ^ k → length (count_text n) ≤ k
count_long zero n h g = absurd (omega arith)
count_long (suc zero) n h g = rw (count_small n (omega arith)) (omega arith)
count_long (suc (suc k)) n h g =
    bool_cases (ltb n 10) (length (count_text n) ≤ suc (suc k))
    (λ e. rw (count_small n (ltb-true n 10 e)) (omega arith))
    (λ e. rw (count-more n (ltb-false n 10 e))
    (omega (arith, length-append (count_text (n / 10)) ((48 + n % 10) ∷ []), count_long (suc k) (n / 10) (omega arith) (omega arith))))

-- an identifier has at most 20 bytes: 19 digits and a sign
pub signed-long : (z : ℤ) → SFits w64 z → length (signed_text z) ≤ 20
unfolding signed_text
signed-long (pos n) f = omega (arith, count_long 19 n (omega arith) (omega (arith, f.sfits)))
signed-long (negsuc n) f = omega (arith, count_long 19 (suc n) (omega arith) (omega (arith, f.sfits)))
