-- A count's bytes are fixed by its number: two words that say the same count are the same. Assumes nothing.
use Prim.Native.Nat.{ℕ, suc, ◌*◌, ◌^◌, ◌≤◌, ◌<◌}
use mathlib.Core.Path.{◌≡◌, refl, sym, ap, ◌∙◌}
use mathlib.Core.Logic.{◌⊎◌, inl, inr}
use mathlib.Core.Bool.{Bool, true, false, cond, ◌&&◌}
use mathlib.Core.List.{List, [], ◌∷◌}
use native.Mathlib.Omega.{arith}
use native.Mathlib.Nat.{one-mul, le_trans, mul-le-mul_right, mul_assoc, pow-succ', pow-le-pow_right}
use borrow.Author.Tests.{leb-true, leb-false, eqb-true}
use lib.Dec.{leb, eqb}
use lib.ListN.{length}
use Rattle.basis.specs.Scan.{each}
use Rattle.basis.proofs.Tests.{no-case, bool_cases, and_first, and_second, and_both}
use Rattle.text.specs.Word.{malformed, value, within, is_digit, with_digit, run_val, zero_of, count_of}
use Rattle.text.specs.Grammar.{number_of}
use Rattle.text.proofs.Bytes.{within-is, first-digit}
use Rattle.text.proofs.Runs.{all_val}

-- ---- how large a number is by how many digits it has
number-least : (a : ℕ) (l : List ℕ) → a * 10 ^ length l ≤ number_of a l
number-least a [] = omega arith
number-least a (b ∷ l) =
    let m : a * 10 ≤ with_digit a b = omega arith in
    rw (pow-succ', ← mul_assoc) (le_trans (mul-le-mul_right (10 ^ length l) m) (number-least (with_digit a b) l))

pub number-most : (a : ℕ) (l : List ℕ) → each is_digit l ≡ true → suc (number_of a l) ≤ suc a * 10 ^ length l
unfolding each
number-most a [] h = omega arith
number-most a (b ∷ l) h =
    let k = within-is 48 57 b (and_first (is_digit b) (each is_digit l) h) in
    let m : suc (with_digit a b) ≤ suc a * 10 = omega arith in
    rw (pow-succ', ← mul_assoc) (le_trans (number-most (with_digit a b) l (and_second (is_digit b) (each is_digit l) h))
    (mul-le-mul_right (10 ^ length l) m))

fewer : (j k n : ℕ) → 10 ^ j ≤ n → n < 10 ^ suc k → j ≤ k
fewer j k n h g =
    bool_cases (leb j k) (j ≤ k) (λ e. leb-true j k e)
    (λ e. let q : 10 ^ suc k ≤ 10 ^ j = pow-le-pow_right (omega arith) (leb-false j k e) in absurd (omega arith))

-- as many digits that make the same number are the same
digits_same : (a b : ℕ) (l m : List ℕ) → length l ≡ length m → each is_digit l ≡ true → each is_digit m ≡ true → number_of a l
    ≡ number_of b m
    → (a ≡ b) × (l ≡ m)
unfolding each
digits_same a b [] [] e h k q = (q, refl)
digits_same a b [] (y ∷ m) e h k q = absurd (omega arith)
digits_same a b (x ∷ l) [] e h k q = absurd (omega arith)
digits_same a b (x ∷ l) (y ∷ m) e h k q =
    let i = within-is 48 57 x (and_first (is_digit x) (each is_digit l) h) in
    let j = within-is 48 57 y (and_first (is_digit y) (each is_digit m) k) in
    let r = digits_same (with_digit a x) (with_digit b y) l m (omega arith) (and_second (is_digit x) (each is_digit l) h)
    (and_second (is_digit y) (each is_digit m) k) q in
    let s : with_digit a x ≡ with_digit b y = r.0 in
    let o : x ≡ y = omega arith in
    let t : l ≡ m = r.1 in
    (omega arith, cc)

-- ---- a word that says a count: `0`, or a digit 1 to 9 and more digits
pub record Leads (n : ℕ) (l : List ℕ) : Type 0 where
  pub first : ℕ
  pub more : List ℕ
  pub is : l ≡ first ∷ more
  pub lead : within 49 57 first ≡ true
  pub digits : each is_digit more ≡ true
  pub val : number_of (with_digit 0 first) more ≡ n

pub count-form : (l : List ℕ) (n : ℕ) → count_of l ≡ value n → ((l ≡ 48 ∷ []) × (n ≡ 0)) ⊎ Leads n l
unfolding each
count-form [] n e = no-case cc
count-form (b ∷ bs) n e = by (eqb b 48) refl (within 49 57 b && each is_digit bs) refl e
  where
    zero-by : (bs : List ℕ) → b ≡ 48 → zero_of bs ≡ value n → (b ∷ bs ≡ 48 ∷ []) × (n ≡ 0)
    zero-by [] q h = (ap (λ (x : ℕ). x ∷ []) q, cc)
    zero-by (x ∷ xs) q h = no-case cc

    by : (t : Bool) → eqb b 48 ≡ t → (u : Bool) → (within 49 57 b && each is_digit bs) ≡ u
        → cond t (zero_of bs) (cond u (value (run_val 0 (b ∷ bs))) malformed) ≡ value n
        → ((b ∷ bs ≡ 48 ∷ []) × (n ≡ 0)) ⊎ Leads n (b ∷ bs)
    by true q u r h = inl (zero-by bs (eqb-true b 48 q) h)
    by false q true r h =
        let f : within 49 57 b ≡ true = and_first (within 49 57 b) (each is_digit bs) r in
        let d : each is_digit bs ≡ true = and_second (within 49 57 b) (each is_digit bs) r in
        let v : run_val 0 (b ∷ bs) ≡ n = cc in
        inr (record {
          first = b;
          more = bs;
          is = refl;
          lead = f;
          digits = d;
          val = sym (all_val 0 (b ∷ bs) (and_both (first-digit b f) d)) ∙ v;
        })
    by false q false r h = no-case cc

module _ (n : ℕ) (l : List ℕ) (x : Leads n l) where
  leads-least : 10 ^ length x.more ≤ n
  leads-least =
      let k = within-is 49 57 x.first x.lead in
      let m : 1 ≤ with_digit 0 x.first = omega arith in
      rw one-mul at (le_trans (mul-le-mul_right (10 ^ length x.more) m)
      (rw x.val at (number-least (with_digit 0 x.first) x.more)))

  leads-most : n < 10 ^ suc (length x.more)
  leads-most =
      let k = within-is 49 57 x.first x.lead in
      let m : suc (with_digit 0 x.first) ≤ 10 = omega arith in
      rw pow-succ' (le_trans (rw x.val at (number-most (with_digit 0 x.first) x.more x.digits))
      (mul-le-mul_right (10 ^ length x.more) m))

  leads-some : 1 ≤ n
  leads-some = omega (arith, leads-least, pow-le-pow_right {n = 10} (omega arith) {i = 0} {j = length x.more} (omega arith))

-- the bytes of a count are fixed by its number
pub counts-one : (v w : List ℕ) (n : ℕ) → count_of v ≡ value n → count_of w ≡ value n → v ≡ w
counts-one v w n e f = by (count-form v n e) (count-form w n f)
  where
    by : ((v ≡ 48 ∷ []) × (n ≡ 0)) ⊎ Leads n v → ((w ≡ 48 ∷ []) × (n ≡ 0)) ⊎ Leads n w → v ≡ w
    by (inl a) (inl b) = a.0 ∙ sym b.0
    by (inl a) (inr y) = absurd (omega (arith, a.1, leads-some n w y))
    by (inr x) (inl b) = absurd (omega (arith, b.1, leads-some n v x))
    by (inr x) (inr y) =
        let j = fewer (length x.more) (length y.more) n (leads-least n v x) (leads-most n w y) in
        let k = fewer (length y.more) (length x.more) n (leads-least n w y) (leads-most n v x) in
        let h = within-is 49 57 x.first x.lead in
        let i = within-is 49 57 y.first y.lead in
        let d = digits_same (with_digit 0 x.first) (with_digit 0 y.first) x.more y.more (omega arith) x.digits y.digits
        (x.val ∙ sym y.val) in
        let s : with_digit 0 x.first ≡ with_digit 0 y.first = d.0 in
        let q : x.first ≡ y.first = omega arith in
        x.is ∙ ap (λ (b : ℕ). b ∷ x.more) q ∙ ap (λ (l : List ℕ). y.first ∷ l) d.1 ∙ sym y.is
