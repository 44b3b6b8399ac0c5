-- Laws of a count, an identifier and a field, scanned from a place: one for each way the code leaves. Assumes nothing.
use Prim.Native.Nat.{ℕ, ◌+◌, ◌-◌, ◌^◌, ◌≤◌, ◌<◌}
use mathlib.Core.Path.{◌≡◌, refl, ap, ◌∙◌}
use mathlib.Core.List.{List}
use mathlib.Core.Bool.{Bool, true, false}
use native.Mathlib.Omega.{arith}
use borrow.Author.Tests.{lt-leb, leb-true, leb-false, eq-eqb, eqb-false}
use lib.Dec.{leb}
use lib.IntN.{ℤ}
use lib.ListN.{length, get_or}
use Rattle.text.specs.Word.{Word, malformed, outside, value, well_formed, within, is_digit, ranged_of, signed_of}
use Rattle.text.specs.Scan.{Scanned, scanned, has_at, cut_number, run_at, count_at, cut_word, saturated}
use Rattle.text.specs.Scan.{count_says, ranged_at, signed_at, ident_at, closed, field_at, word_of, ranged_says, scan_says}
use Rattle.text.specs.declared.count.Scan.{Scan}
use Rattle.std.specs.Prelude.{Option, None, Some, Result, Ok, Err, IsErrAnd}
use Rattle.std.proofs.lemmas.Result.{err_from_is_err_and}
use Rattle.text.proofs.Bytes.{within-yes, no-first, no_zero, has-yes, has_no, nothing-past}

-- ---- what a `?` passes on
pub passed-on : {T A : Type 0} (says : Result T ℕ → A) (r : Result T ℕ) (e : ℕ) (y : A) → IsErrAnd r (λ x. x ≡ e) → says (Err e) ≡ y
    → says r ≡ y
passed-on says r e y h q = let p = err_from_is_err_and r h in ap says (p.1 ∙ ap Err p.2) ∙ q

-- ---- a count
module _ (s : List ℕ) (at : ℕ) where
  pub count-none : is_digit (get_or s at 0) ≡ false → scanned malformed at ≡ saturated (count_at s at)
  unfolding count_at
  count-none d = rw (has_no s at 48 (eqb-false (get_or s at 0) 48 (no_zero (get_or s at 0) d)), no-first (get_or s at 0) d)

  pub count_past : length s ≤ at → scanned malformed at ≡ saturated (count_at s at)
  unfolding within
  count_past h = count-none (ap is_digit (nothing-past s at h))

  pub count-zero : at < length s → get_or s at 0 ≡ 48 → scanned (value 0) (at + 1) ≡ saturated (count_at s at)
  unfolding count_at
  count-zero l e = rw (← has-yes s at 48 l, eq-eqb (get_or s at 0) 48 e)

  pub count-run : (get_or s at 0 ≡ 48 → ⊥) → (r : Scan ℕ) → 48 ≤ get_or s at 0 → get_or s at 0 ≤ 57 → r ≡ run_at s at 0
      → scanned (value r.value) r.next ≡ saturated (count_at s at)
  unfolding count_at run_at
  count-run n r h k e =
      rw (has_no s at 48 n, within-yes {lo = 49} {hi = 57} {b = get_or s at 0} (omega arith) k)
      (ap (λ (x : Scan ℕ). scanned (value x.value) x.next) e)

-- ---- a number by its sign and its range
-- the cut changes nothing of what the number means
ranged-cut-by : (negative : Bool) (n : ℕ) (t : Bool) → leb n (2 ^ 63) ≡ t → ranged_of negative (cut_number n) ≡ ranged_of negative n
ranged-cut-by negative n true e =
    let h : n ≤ 2 ^ 63 = leb-true n (2 ^ 63) e in
    let q : cut_number n ≡ n = omega arith in
    ap (ranged_of negative) q
ranged-cut-by true n false e =
    let h : 2 ^ 63 < n = leb-false n (2 ^ 63) e in
    simp (lt-leb n (2 ^ 63) h, lt-leb (cut_number n) (2 ^ 63) (omega arith))
ranged-cut-by false n false e =
    let h : 2 ^ 63 < n = leb-false n (2 ^ 63) e in
    simp (lt-leb n (2 ^ 63 - 1) (omega arith), lt-leb (cut_number n) (2 ^ 63 - 1) (omega arith))

signed_cut : (negative : Bool) (w : Word ℕ) → signed_of negative (cut_word w) ≡ signed_of negative w
signed_cut negative malformed = refl
signed_cut negative outside = refl
signed_cut negative (value n) = ranged-cut-by negative n (leb n (2 ^ 63)) refl

module _ (negative : Bool) (y : Scanned ℕ) where
  signed_by : (x : Result (Scan ℕ) ℕ) → count_says x ≡ saturated y → signed_at negative (count_says x) ≡ signed_at negative y
  signed_by x e = ap (signed_at negative) e ∙ ap (λ (w : Word ℤ). scanned w y.next) (signed_cut negative y.said)

  pub signed-bad : (p : ℕ) → scanned malformed p ≡ saturated y → scanned malformed p ≡ signed_at negative y
  signed-bad p e = signed_by (Err p) e

  pub signed-value : (x : Scan ℕ) (r : Scan (Option ℤ)) → scanned (value x.value) x.next ≡ saturated y
      → ranged_says r ≡ ranged_at negative x.value x.next → ranged_says r ≡ signed_at negative y
  signed-value x r e h = h ∙ signed_by (Ok x) e

-- ---- an identifier
module _ (s : List ℕ) (at : ℕ) (t : Bool) (e : t ≡ has_at s at 45) where
  pub ident-zero : t ≡ true → (u : Bool) → u ≡ has_at s (at + 1) 48 → u ≡ true → scanned malformed (at + 1) ≡ ident_at s at
  unfolding ident_at
  ident-zero h u f g = rw (← e, h, ← f, g)

  pub ident-minus : t ≡ true → (u : Bool) → u ≡ has_at s (at + 1) 48 → u ≡ false → (r : Result (Scan (Option ℤ)) ℕ)
      → scan_says r ≡ signed_at true (count_at s (at + 1)) → scan_says r ≡ ident_at s at
  unfolding ident_at
  ident-minus h u f g r q = rw (← e, h, ← f, g) q

  pub ident-plain : t ≡ false → (r : Result (Scan (Option ℤ)) ℕ) → scan_says r ≡ signed_at false (count_at s at)
      → scan_says r ≡ ident_at s at
  unfolding ident_at
  ident-plain h r q = rw (← e, h) q

-- ---- a field
pub word-well : {A : Type 0} (w : Option A) → well_formed (word_of w) ≡ true
word-well None = refl
word-well (Some z) = refl

module _ (s : List ℕ) (at c : ℕ) where
  field-by : (x : Result (Scan (Option ℤ)) ℕ) → scan_says x ≡ ident_at s at → closed s c (scan_says x) ≡ field_at s at c
  unfolding field_at
  field-by x e = ap (closed s c) e

  pub field-bad : (p : ℕ) → scanned malformed p ≡ ident_at s at → scanned malformed p ≡ field_at s at c
  field-bad p e = field-by (Err p) e

  module _ (x : Scan (Option ℤ)) (e : ranged_says x ≡ ident_at s at) (t : Bool) (f : t ≡ has_at s x.next c) where
    pub field-good : t ≡ true → scanned (word_of x.value) (x.next + 1) ≡ field_at s at c
    field-good h = rw (word-well x.value, ← f, h) at (field-by (Ok x) e)

    pub field-open : t ≡ false → scanned malformed x.next ≡ field_at s at c
    field-open h = rw (word-well x.value, ← f, h) at (field-by (Ok x) e)
