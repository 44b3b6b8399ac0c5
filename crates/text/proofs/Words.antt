-- The scanner's rule is the paper's: a field that the byte c ends means what its bytes mean as a whole word, and stops past that c.
-- Assumes nothing.
use Prim.Native.Nat.{ℕ, zero, suc, ◌+◌, ◌-◌, ◌^◌, ◌≤◌, ◌<◌}
use mathlib.Core.Path.{◌≡◌, refl, sym, ap, ◌∙◌}
use mathlib.Core.List.{List, [], ◌∷◌, ◌++◌}
use mathlib.Core.Bool.{Bool, true, false, cond, ◌&&◌}
use native.Mathlib.Omega.{arith}
use native.Mathlib.Nat.{add-zero}
use borrow.Author.Tests.{eq-eqb, eqb-true}
use lib.Dec.{leb, eqb}
use lib.ListN.{length, get_or, drop, length-drop, length-append}
use lib.Seq.{get_or-drop, get_or-append_seam, drop-drop}
use lib.IntN.{ℤ}
use Rattle.basis.specs.Scan.{each, mem}
use Rattle.basis.proofs.Tests.{clash, false_of, bool_cases, and_both, and-off}
use Rattle.basis.proofs.Scans.{each-mem}
use Rattle.text.specs.Word.{Word, malformed, outside, value, well_formed, within, is_digit, run_len, run_val}
use Rattle.text.specs.Word.{zero_of, count_of, ranged_of, signed_of, after_minus, ident_of}
use Rattle.text.specs.Scan.{Scanned, scanned, has_at, count_at, signed_at, ident_at, closed, field_at}
use Rattle.text.proofs.Bytes.{no-first, no_zero, first-digit, has-yes, has-below, not-head, not-tail}
use Rattle.text.proofs.Runs.{len-digit, len-stop, front-len, front-val, all_val}

-- what was scanned is the word w, and stops at q where it is well formed
pub record Ends {A : Type 0} (q : ℕ) (w : Word A) (x : Scanned A) : Type 0 where
  pub said : x.said ≡ w
  pub next : well_formed w ≡ true → x.next ≡ q

-- the scan x at a place is the reading of a word that c ends: of its bytes, or malformed where there is no c
pub record Reads {A : Type 0} (c : ℕ) (word : List ℕ → Word A) (s : List ℕ) (at : ℕ) (x : Scanned A) : Type 0 where
  pub ended : (bs r : List ℕ) → drop at s ≡ bs ++ c ∷ r → mem c bs ≡ false → Ends (at + length bs + 1) (word bs) x
  pub unended : mem c (drop at s) ≡ false → x.said ≡ malformed

-- ---- a run of digits that a byte of the word ends
record Breaks (c : ℕ) (l : List ℕ) (n : ℕ) : Type 0 where
  before : run_len l < n
  other : eqb (get_or l (run_len l) 0) c ≡ false

breaks : (c : ℕ) (bs r : List ℕ) → each is_digit bs ≡ false → mem c bs ≡ false → Breaks c (bs ++ c ∷ r) (length bs)
unfolding each
breaks c [] r h n = clash refl h
breaks c (b ∷ bs) r h n = by (is_digit b) refl h (λ g. breaks c bs r g (not-tail c b bs n))
  where
    by : (t : Bool) → is_digit b ≡ t → (t && each is_digit bs) ≡ false → (each is_digit bs ≡ false → Breaks c (bs ++ c ∷ r) (length bs))
        → Breaks c ((b ∷ bs) ++ c ∷ r) (length (b ∷ bs))
    by true e h f =
        let x = f h in
        let q : run_len (b ∷ (bs ++ c ∷ r)) ≡ suc (run_len (bs ++ c ∷ r)) = omega (arith, len-digit b (bs ++ c ∷ r) e) in
        record { before = omega (arith, q, x.before); other = rw q x.other }
    by false e h f =
        let q = len-stop b (bs ++ c ∷ r) e in
        record { before = omega (arith, q); other = rw q (not-head c b bs n) }

-- ---- what was scanned, once it is known whether c follows
pub closed-yes : {A : Type 0} (s : List ℕ) (c q : ℕ) (w : Word A) → has_at s q c ≡ true → Ends (q + 1) w (closed s c (scanned w q))
closed-yes s c q malformed e = record { said = refl; next = λ h. clash h refl }
closed-yes s c q outside e = record { said = rw e; next = λ _. rw e }
closed-yes s c q (value v) e = record { said = rw e; next = λ _. rw e }

pub closed-no : {A : Type 0} (s : List ℕ) (c q k : ℕ) (w : Word A) → has_at s q c ≡ false → Ends k malformed (closed s c (scanned w q))
closed-no s c q k malformed e = record { said = refl; next = λ h. clash h refl }
closed-no s c q k outside e = record { said = rw e; next = λ h. clash h refl }
closed-no s c q k (value v) e = record { said = rw e; next = λ h. clash h refl }

pub bad-ends : {A : Type 0} (k p : ℕ) → Ends {A = A} k malformed (scanned malformed p)
bad-ends k p = record { said = refl; next = λ h. clash h refl }

-- ---- the bytes of the word, in the file
module _ (s bs r : List ℕ) (at c : ℕ) (e : drop at s ≡ bs ++ c ∷ r) where
  word_in : (j : ℕ) → j ≤ length bs → at + j < length s
  word_in j h = omega (arith, length-drop at s, ap length e ∙ length-append bs (c ∷ r))

  word_byte : (j : ℕ) → get_or s (at + j) 0 ≡ get_or (bs ++ c ∷ r) j 0
  word_byte j = sym (get_or-drop at s j 0) ∙ ap (λ (l : List ℕ). get_or l j 0) e

  pub word-has : (j x : ℕ) → j ≤ length bs → has_at s (at + j) x ≡ eqb (get_or (bs ++ c ∷ r) j 0) x
  word-has j x h = sym (has-yes s (at + j) x (word_in j h)) ∙ ap (λ (k : ℕ). eqb k x) (word_byte j)

  first_byte : get_or s at 0 ≡ get_or (bs ++ c ∷ r) 0 0
  first_byte = ap (λ (k : ℕ). get_or s k 0) (sym (add-zero at)) ∙ word_byte 0

  first-has : (x : ℕ) → has_at s at x ≡ eqb (get_or (bs ++ c ∷ r) 0 0) x
  first-has x = ap (λ (k : ℕ). has_at s k x) (sym (add-zero at)) ∙ word-has 0 x (omega arith)

-- a count by its first byte
pub count_by : (s : List ℕ) (at b : ℕ) → at < length s → get_or s at 0 ≡ b
    → count_at s at ≡ cond (eqb b 48) (scanned (value 0) (at + 1))
    (cond (within 49 57 b) (scanned (value (run_val 0 (drop at s))) (at + run_len (drop at s))) (scanned malformed at))
unfolding count_at
count_by s at b l q = rw (← has-yes s at 48 l, q)

-- ---- a count
module _ (s r : List ℕ) (at c : ℕ) (d : is_digit c ≡ false) where
  zero_word : (b : ℕ) (bs : List ℕ) → drop at s ≡ (b ∷ bs) ++ c ∷ r → mem c (b ∷ bs) ≡ false
      → Ends (at + length (b ∷ bs) + 1) (zero_of bs) (closed s c (scanned (value 0) (at + 1)))
  zero_word b [] e n =
      closed-yes s c (at + 1) (value 0) (word-has s (b ∷ []) r at c e 1 c (omega arith) ∙ eq-eqb c c refl)
  zero_word b (x ∷ xs) e n =
      closed-no s c (at + 1) (at + length (b ∷ x ∷ xs) + 1) (value 0)
      (word-has s (b ∷ x ∷ xs) r at c e 1 c (omega arith) ∙ not-head c x xs (not-tail c b (x ∷ xs) n))

  run-word : (b : ℕ) (bs : List ℕ) (t : Bool) → each is_digit bs ≡ t → within 49 57 b ≡ true → drop at s ≡ (b ∷ bs) ++ c ∷ r
      → mem c (b ∷ bs) ≡ false
      → Ends (at + length (b ∷ bs) + 1) (cond t (value (run_val 0 (b ∷ bs))) malformed)
      (closed s c (scanned (value (run_val 0 (drop at s))) (at + run_len (drop at s))))
  unfolding each
  run-word b bs true a w e n =
      let al : each is_digit (b ∷ bs) ≡ true = and_both (first-digit b w) a in
      let q : run_len (drop at s) ≡ length (b ∷ bs) = ap run_len e ∙ front-len (b ∷ bs) (c ∷ r) al d in
      let v : run_val 0 (drop at s) ≡ run_val 0 (b ∷ bs) = ap (run_val 0) e ∙ front-val 0 (b ∷ bs) (c ∷ r) al d
      ∙ sym (all_val 0 (b ∷ bs) al) in
      rw (q, v)
      (closed-yes s c (at + length (b ∷ bs)) (value (run_val 0 (b ∷ bs)))
      (word-has s (b ∷ bs) r at c e (length (b ∷ bs)) c (omega arith) ∙ ap (λ (k : ℕ). eqb k c) (get_or-append_seam (b ∷ bs) c r 0)
      ∙ eq-eqb c c refl))
  run-word b bs false a w e n =
      let al : each is_digit (b ∷ bs) ≡ false = rw (first-digit b w) a in
      let x = breaks c (b ∷ bs) r al n in
      rw e
      (closed-no s c (at + run_len ((b ∷ bs) ++ c ∷ r)) (at + length (b ∷ bs) + 1) (value (run_val 0 ((b ∷ bs) ++ c ∷ r)))
      (word-has s (b ∷ bs) r at c e (run_len ((b ∷ bs) ++ c ∷ r)) c (omega (arith, x.before)) ∙ x.other))

  by-within : (b : ℕ) (bs : List ℕ) (t : Bool) → within 49 57 b ≡ t → drop at s ≡ (b ∷ bs) ++ c ∷ r → mem c (b ∷ bs) ≡ false
      → Ends (at + length (b ∷ bs) + 1) (cond (t && each is_digit bs) (value (run_val 0 (b ∷ bs))) malformed)
      (closed s c (cond t (scanned (value (run_val 0 (drop at s))) (at + run_len (drop at s))) (scanned malformed at)))
  by-within b bs true w e n = run-word b bs (each is_digit bs) refl w e n
  by-within b bs false w e n = bad-ends (at + length (b ∷ bs) + 1) at

  by_zero : (b : ℕ) (bs : List ℕ) (t : Bool) → drop at s ≡ (b ∷ bs) ++ c ∷ r → mem c (b ∷ bs) ≡ false
      → Ends (at + length (b ∷ bs) + 1) (cond t (zero_of bs)
      (cond (within 49 57 b && each is_digit bs) (value (run_val 0 (b ∷ bs))) malformed))
      (closed s c (cond t (scanned (value 0) (at + 1))
      (cond (within 49 57 b) (scanned (value (run_val 0 (drop at s))) (at + run_len (drop at s))) (scanned malformed at))))
  by_zero b bs true e n = zero_word b bs e n
  by_zero b bs false e n = by-within b bs (within 49 57 b) refl e n

  count_word : (bs : List ℕ) → drop at s ≡ bs ++ c ∷ r → mem c bs ≡ false
      → Ends (at + length bs + 1) (count_of bs) (closed s c (count_at s at))
  count_word [] e n =
      rw (count_by s at c (omega (arith, word_in s [] r at c e 0 (omega arith))) (first_byte s [] r at c e), no_zero c d, no-first c d)
      (bad-ends (at + 0 + 1) at)
  count_word (b ∷ bs) e n =
      rw (count_by s at b (omega (arith, word_in s (b ∷ bs) r at c e 0 (omega arith))) (first_byte s (b ∷ bs) r at c e))
      (by_zero b bs (eqb b 48) e n)

-- with its sign
pub ranged-well : (neg : Bool) (n : ℕ) → well_formed (ranged_of neg n) ≡ true
ranged-well true n = bool_cases (leb n (2 ^ 63)) _ (λ e. rw e) (λ e. rw e)
ranged-well false n = bool_cases (leb n (2 ^ 63 - 1)) _ (λ e. rw e) (λ e. rw e)

closed-signed : (neg : Bool) (s : List ℕ) (c q : ℕ) (w : Word ℕ)
    → closed s c (signed_at neg (scanned w q)) ≡ signed_at neg (closed s c (scanned w q))
closed-signed neg s c q malformed = refl
closed-signed neg s c q outside = bool_cases (has_at s q c) _ (λ e. rw e) (λ e. rw e)
closed-signed neg s c q (value n) = rw (ranged-well neg n) (bool_cases (has_at s q c) _ (λ e. rw e) (λ e. rw e))

signed-ends : (neg : Bool) (q : ℕ) (w : Word ℕ) (x : Scanned ℕ) → Ends q w x → Ends q (signed_of neg w) (signed_at neg x)
signed-ends neg q w x h = record { said = ap (signed_of neg) h.said; next = λ k. h.next (by w k) }
  where
    by : (w : Word ℕ) → well_formed (signed_of neg w) ≡ true → well_formed w ≡ true
    by malformed k = k
    by outside k = refl
    by (value n) k = refl

signed_word : (neg : Bool) (s r : List ℕ) (at c : ℕ) → is_digit c ≡ false → (bs : List ℕ) → drop at s ≡ bs ++ c ∷ r → mem c bs ≡ false
    → Ends (at + length bs + 1) (signed_of neg (count_of bs)) (closed s c (signed_at neg (count_at s at)))
signed_word neg s r at c d bs e n =
    rw (closed-signed neg s c (count_at s at).next (count_at s at).said)
    (signed-ends neg (at + length bs + 1) (count_of bs) (closed s c (count_at s at)) (count_word s r at c d bs e n))

-- ---- an identifier
word_next : (s bs r : List ℕ) (at c b : ℕ) → drop at s ≡ (b ∷ bs) ++ c ∷ r → drop (at + 1) s ≡ bs ++ c ∷ r
word_next s bs r at c b e = sym (drop-drop 1 at s) ∙ ap (drop 1) e

-- one place on, one byte less
one_on : {A : Type 0} (at n : ℕ) (w : Word A) (x : Scanned A) → Ends (at + 1 + n + 1) w x → Ends (at + suc n + 1) w x
one_on at n w x h = let q : at + 1 + n + 1 ≡ at + suc n + 1 = omega arith in record { said = h.said; next = λ k. h.next k ∙ q }

module _ (s r : List ℕ) (at c : ℕ) (d : is_digit c ≡ false) (m : eqb c 45 ≡ false) where
  -- after `-`, which stands at `at`
  minus-word : (bs : List ℕ) → drop (at + 1) s ≡ bs ++ c ∷ r → mem c bs ≡ false
      → Ends (at + 1 + length bs + 1) (after_minus bs)
      (closed s c (cond (has_at s (at + 1) 48) (scanned malformed (at + 1)) (signed_at true (count_at s (at + 1)))))
  minus-word [] e n = rw (first-has s [] r (at + 1) c e 48, no_zero c d) (signed_word true s r (at + 1) c d [] e n)
  minus-word (x ∷ xs) e n = rw (first-has s (x ∷ xs) r (at + 1) c e 48) (by (eqb x 48))
    where
      by : (t : Bool) → Ends (at + 1 + length (x ∷ xs) + 1) (cond t malformed (signed_of true (count_of (x ∷ xs))))
          (closed s c (cond t (scanned malformed (at + 1)) (signed_at true (count_at s (at + 1)))))
      by true = bad-ends (at + 1 + length (x ∷ xs) + 1) (at + 1)
      by false = signed_word true s r (at + 1) c d (x ∷ xs) e n

  ident-word : (bs : List ℕ) → drop at s ≡ bs ++ c ∷ r → mem c bs ≡ false → Ends (at + length bs + 1) (ident_of bs) (field_at s at c)
  unfolding field_at ident_at
  ident-word [] e n = rw (first-has s [] r at c e 45, m) (signed_word false s r at c d [] e n)
  ident-word (b ∷ bs) e n = rw (first-has s (b ∷ bs) r at c e 45) (by (eqb b 45))
    where
      by : (t : Bool) → Ends (at + length (b ∷ bs) + 1) (cond t (after_minus bs) (signed_of false (count_of (b ∷ bs))))
          (closed s c (cond t (cond (has_at s (at + 1) 48) (scanned malformed (at + 1)) (signed_at true (count_at s (at + 1))))
          (signed_at false (count_at s at))))
      by true =
          one_on at (length bs) (after_minus bs) (closed s c
          (cond (has_at s (at + 1) 48) (scanned malformed (at + 1)) (signed_at true (count_at s (at + 1)))))
          (minus-word bs (word_next s bs r at c b e) (not-tail c b bs n))
      by false = signed_word false s r at c d (b ∷ bs) e n

-- ---- a field that no c ends
by-test {ℓ} : {A : Type 0} (P : A → Type ℓ) (t : Bool) (a b : A) → (t ≡ true → P a) → (t ≡ false → P b) → P (cond t a b)
by-test P true a b p q = p refl
by-test P false a b p q = q refl

pub count-from : (s : List ℕ) (at : ℕ) → at ≤ (count_at s at).next
unfolding count_at
count-from s at =
    by-test (λ (x : Scanned ℕ). at ≤ x.next) (has_at s at 48) (scanned (value 0) (at + 1))
    (cond (within 49 57 (get_or s at 0)) (scanned (value (run_val 0 (drop at s))) (at + run_len (drop at s))) (scanned malformed at))
    (λ _. omega arith)
    (λ _. by-test (λ (x : Scanned ℕ). at ≤ x.next) (within 49 57 (get_or s at 0))
    (scanned (value (run_val 0 (drop at s))) (at + run_len (drop at s))) (scanned malformed at)
    (λ _. omega arith) (λ _. omega arith))

pub ident-from : (s : List ℕ) (at : ℕ) → at ≤ (ident_at s at).next
unfolding ident_at
ident-from s at =
    by-test (λ (x : Scanned ℤ). at ≤ x.next) (has_at s at 45)
    (cond (has_at s (at + 1) 48) (scanned malformed (at + 1)) (signed_at true (count_at s (at + 1)))) (signed_at false (count_at s at))
    (λ _. by-test (λ (x : Scanned ℤ). at ≤ x.next) (has_at s (at + 1) 48) (scanned malformed (at + 1))
    (signed_at true (count_at s (at + 1)))
    (λ _. omega arith) (λ _. omega (arith, count-from s (at + 1))))
    (λ _. count-from s at)

none-at : (c : ℕ) (l : List ℕ) (j : ℕ) → mem c l ≡ false → j < length l → eqb (get_or l j 0) c ≡ false
none-at c [] j n h = absurd (omega arith)
none-at c (b ∷ bs) zero n h = not-head c b bs n
none-at c (b ∷ bs) (suc j) n h = none-at c bs j (not-tail c b bs n) (omega arith)

pub no_end : (s : List ℕ) (at c p : ℕ) → at ≤ p → mem c (drop at s) ≡ false → has_at s p c ≡ false
no_end s at c p h n =
    false_of (has_at s p c)
    (λ e. let l : p < length s = has-below s p c e in
    let q : at + (p - at) ≡ p = omega arith in
    let g : get_or (drop at s) (p - at) 0 ≡ get_or s p 0 = get_or-drop at s (p - at) 0 ∙ ap (λ (k : ℕ). get_or s k 0) q in
    clash e (sym (has-yes s p c l) ∙ ap (λ (k : ℕ). eqb k c) (sym g) ∙ none-at c (drop at s) (p - at) n (omega (arith, length-drop at s))))

field_open : (s : List ℕ) (at c : ℕ) → mem c (drop at s) ≡ false → (field_at s at c).said ≡ malformed
unfolding field_at
field_open s at c n =
    (closed-no s c (ident_at s at).next 0 (ident_at s at).said (no_end s at c (ident_at s at).next (ident-from s at) n)).said

-- ---- the theorem: the scanner's answer is the readable one, for a count and for an identifier
pub count-reads : (s : List ℕ) (at c : ℕ) → is_digit c ≡ false → Reads c count_of s at (closed s c (count_at s at))
count-reads s at c d =
    record {
      ended = λ bs r. count_word s r at c d bs;
      unended =
          λ n. (closed-no s c (count_at s at).next 0 (count_at s at).said (no_end s at c (count_at s at).next (count-from s at) n)).said;
    }

pub field-reads : (s : List ℕ) (at c : ℕ) → is_digit c ≡ false → eqb c 45 ≡ false → Reads c ident_of s at (field_at s at c)
field-reads s at c d m = record { ended = λ bs r. ident-word s r at c d m bs; unended = field_open s at c }

-- ---- a word with a byte that belongs in no identifier
module _ (c : ℕ) (d : is_digit c ≡ false) where
  pub count-stray : (bs : List ℕ) → mem c bs ≡ true → count_of bs ≡ malformed
  unfolding mem
  count-stray [] h = clash h refl
  count-stray (b ∷ bs) h = bool_cases (eqb c b) (count_of (b ∷ bs) ≡ malformed) (λ e. head (eqb-true c b e)) (λ e. tail (rw e at h))
    where
      head : c ≡ b → count_of (b ∷ bs) ≡ malformed
      head e =
          let d' : is_digit b ≡ false = rw e at d in
          rw (no_zero b d', no-first b d')

      tail : mem c bs ≡ true → count_of (b ∷ bs) ≡ malformed
      tail k =
          let a : each is_digit bs ≡ false = false_of (each is_digit bs) (λ e. clash (each-mem is_digit bs e c k) d) in
          rw (a, and-off (within 49 57 b) false refl) (by (eqb b 48) bs k)
        where
          by : (t : Bool) (l : List ℕ) → mem c l ≡ true → cond t (zero_of l) malformed ≡ malformed
          by t [] k = clash k refl
          by true (x ∷ l) k = refl
          by false (x ∷ l) k = refl

  minus-stray : (bs : List ℕ) → mem c bs ≡ true → after_minus bs ≡ malformed
  minus-stray [] h = refl
  minus-stray (x ∷ xs) h = rw (count-stray (x ∷ xs) h) (by (eqb x 48))
    where
      by : (t : Bool) → ◌≡◌ {A = Word ℤ} (cond t malformed malformed) malformed
      by true = refl
      by false = refl

  pub ident-stray : eqb c 45 ≡ false → (bs : List ℕ) → mem c bs ≡ true → ident_of bs ≡ malformed
  unfolding mem
  ident-stray m [] h = refl
  ident-stray m (b ∷ bs) h = rw (count-stray (b ∷ bs) h) (by (eqb b 45) refl)
    where
      by : (t : Bool) → eqb b 45 ≡ t → cond t (after_minus bs) malformed ≡ malformed
      by true e = minus-stray bs (rw (eqb-true b 45 e, m) at h)
      by false e = refl
