-- What callers' loops stand on: a line that is read moves the place forward and within the file, a fault or the end does not move it, and
-- the numbers that are read are inside the range of i64. Assumes nothing.
use Prim.Native.Nat.{ℕ, ◌+◌, ◌-◌, ◌^◌, ◌≤◌, ◌<◌}
use mathlib.Core.Path.{◌≡◌, refl, sym, ap, ◌∙◌}
use mathlib.Core.List.{List, [], ◌∷◌}
use mathlib.Core.Bool.{Bool, true, false, cond}
use native.Mathlib.Omega.{arith}
use borrow.Author.Tests.{leb-true, leb-false}
use lib.Dec.{leb, eqb}
use lib.IntN.{ℤ}
use lib.Signed.{mag}
use lib.ListN.{length, drop, length-drop, length-append}
use Rattle.basis.specs.Refusal.{bad_form}
use Rattle.basis.specs.Scan.{mem}
use Rattle.basis.proofs.Tests.{clash, bool_cases}
use Rattle.basis.proofs.Saids.{Any}
use Rattle.basis.proofs.Minus.{mag-minus}
use Rattle.text.specs.Word.{Word, malformed, outside, value, well_formed, ranged_of, count_of, signed_of, after_minus, ident_of}
use Rattle.text.specs.Bytes.{lf, space}
use Rattle.text.specs.Line.{LineSaid, line, none, fault, up_to, past, Form, column_in}
use Rattle.text.specs.Line.{line_says, line_by, both, two_of, ident_form, pair_form, decimal_form, edge_line, coefficient_line}
use Rattle.text.specs.declared.decimal.Decimal.{Decimal}
use Rattle.text.specs.Scan.{Scanned, has_at, ident_at, closed, field_at, ranged_says}
use Rattle.text.specs.declared.count.Scan.{Scan}
use Rattle.std.specs.Prelude.{Option}
use Rattle.text.proofs.Bytes.{cut_at, has-below}
use Rattle.text.proofs.Scans.{word-well}
use Rattle.text.proofs.Words.{ident-from}

-- from `at` to q, forward and within the file
pub record Moved (s : List ℕ) (at q : ℕ) : Type 0 where
  pub forward : at < q
  pub inside : q ≤ length s

-- what a reader's answer says of the place
abbrev pub Placed : {A : Type 0} → List ℕ → ℕ → LineSaid A → Type 0
Placed s at (line v q) = Moved s at q
Placed s at (none k) = (k ≡ at) × (length s ≤ at)
Placed s at (fault n c k) = (k ≡ at) × (at < length s)

line-placed : {A : Type 0} (s : List ℕ) (at q c : ℕ) (w : Word A) → at < length s → Moved s at q → Placed s at (line_says at q c w)
line-placed s at q c malformed h m = (refl, h)
line-placed s at q c outside h m = (refl, h)
line-placed s at q c (value v) h m = m

pub places : {A : Type 0} (form : Form A) (s : List ℕ) (at : ℕ) → Placed s at (line_by form s at)
unfolding line_by
places form s at =
    bool_cases (leb (length s) at) _ (λ e. rw e (refl, leb-true (length s) at e))
    (λ e. let h : at < length s = leb-false (length s) at e in
    rw e
    (bool_cases (mem lf (drop at s)) _
    (λ m. rw m
    (line-placed s at (at + length (up_to lf (drop at s)) + 1) (column_in form s at) (form.word (up_to lf (drop at s))) h
    (record {
      forward = omega arith;
      inside = omega
          (arith, length-drop at s, ap length (cut_at lf (drop at s) m) ∙ length-append (up_to lf (drop at s)) (lf ∷ past lf (drop at s)));
    })))
    (λ m. rw m (refl, h))))

module _ {A : Type 0} (form : Form A) (s : List ℕ) (at : ℕ) (x : LineSaid A) (e : x ≡ line_by form s at) where
  placed : Placed s at x
  placed = rw e (places form s at)

  pub line-moves : (v : A) (q : ℕ) → x ≡ line v q → Moved s at q
  line-moves v q h = rw h at placed

  pub none_stays : (k : ℕ) → x ≡ none k → (k ≡ at) × (length s ≤ at)
  none_stays k h = rw h at placed

  pub fault-stays : (n c k : ℕ) → x ≡ fault n c k → (k ≡ at) × (at < length s)
  fault-stays n c k h = rw h at placed

-- ---- scans: a field moves the place
module _ (s : List ℕ) (at c : ℕ) where
  pub field-moves : well_formed (field_at s at c).said ≡ true → Moved s at (field_at s at c).next
  unfolding field_at
  field-moves h = by (ident_at s at) (ident-from s at) h
    where
      by : (x : Scanned ℤ) → at ≤ x.next → well_formed (closed s c x).said ≡ true → Moved s at (closed s c x).next
      by x f h =
          bool_cases (well_formed x.said) _
          (λ w. bool_cases (has_at s x.next c) _
          (λ g. rw (w, g) (record { forward = omega arith; inside = omega (arith, has-below s x.next c g) }))
          (λ g. clash (rw (w, g) at h) refl))
          (λ w. clash (rw w at h) w)

  -- the place at which the second word of a line begins
  module _ (x : Scan (Option ℤ)) (e : ranged_says x ≡ field_at s at c) where
    pub field-past : Moved s at x.next
    field-past =
        let n : (field_at s at c).next ≡ x.next = ap (λ (z : Scanned ℤ). z.next) (sym e) in
        let m = field-moves (ap (λ (z : Scanned ℤ). well_formed z.said) (sym e) ∙ word-well x.value) in
        record { forward = omega (arith, m.forward); inside = omega (arith, m.inside) }

    pub field-inside : x.next ≤ length s
    field-inside = field-past.inside

-- ---- the numbers that are read
-- a word's value, if it has one, has P
abbrev pub Has : {A : Type 0} → (A → Type 0) → Word A → Type 0
Has P malformed = Unit {0}
Has P outside = Unit {0}
Has P (value v) = P v

abbrev pub Small : ℤ → Type 0
Small z = mag z < 2 ^ 63

ranged-small : (negative : Bool) (n : ℕ) → Has Small (ranged_of negative n)
ranged-small true n = bool_cases (leb n (2 ^ 63)) _ (λ e. rw e (mag-minus n (leb-true n (2 ^ 63) e))) (λ e. rw e tt)
ranged-small false n = bool_cases (leb n (2 ^ 63 - 1)) _ (λ e. rw e (let h = leb-true n (2 ^ 63 - 1) e in omega arith)) (λ e. rw e tt)

signed-small : (negative : Bool) (w : Word ℕ) → Has Small (signed_of negative w)
signed-small negative malformed = tt
signed-small negative outside = tt
signed-small negative (value n) = ranged-small negative n

minus-small : (bs : List ℕ) → Has Small (after_minus bs)
minus-small [] = tt
minus-small (b ∷ bs) = by (eqb b 48)
  where
    by : (t : Bool) → Has Small (cond t malformed (signed_of true (count_of (b ∷ bs))))
    by true = tt
    by false = signed-small true (count_of (b ∷ bs))

pub ident-small : (bs : List ℕ) → Has Small (ident_of bs)
ident-small [] = tt
ident-small (b ∷ bs) = by (eqb b 45)
  where
    by : (t : Bool) → Has Small (cond t (after_minus bs) (signed_of false (count_of (b ∷ bs))))
    by true = minus-small bs
    by false = signed-small false (count_of (b ∷ bs))

-- a line's values have P; by itself a line has no other faults than those of form (2) and of range (3)
abbrev pub LineHas : {A : Type 0} → (A → Type 0) → LineSaid A → Type 0
LineHas P (line v q) = P v
LineHas P (none k) = Unit {0}
LineHas P (fault n c k) = (2 ≤ n) × (n ≤ 3)

says-has : {A : Type 0} (P : A → Type 0) (at q c : ℕ) (w : Word A) → Has P w → LineHas P (line_says at q c w)
says-has P at q c malformed h = (omega arith, omega arith)
says-has P at q c outside h = (omega arith, omega arith)
says-has P at q c (value v) h = h

pub line-has : {A : Type 0} (P : A → Type 0) (form : Form A) (s : List ℕ) (at : ℕ) → ((bs : List ℕ) → Has P (form.word bs))
    → LineHas P (line_by form s at)
unfolding line_by
line-has {A} P form s at h = by (leb (length s) at) (mem lf (drop at s))
  where
    line : List ℕ
    line = up_to lf (drop at s)

    by : (t u : Bool)
        → LineHas P
        (cond t (none at) (cond u (line_says at (at + length line + 1) (column_in form s at) (form.word line))
        (fault bad_form (column_in form s at) at)))
    by true u = tt
    by false true = says-has P at (at + length line + 1) (column_in form s at) (form.word line) (h line)
    by false false = (omega arith, omega arith)

abbrev pub Pairs : {A B : Type 0} → (A → Type 0) → (B → Type 0) → A × B → Type 0
Pairs P Q x = P x.0 × Q x.1

both-has : {A B : Type 0} (P : A → Type 0) (Q : B → Type 0) (v : Word A) (w : Word B) → Has P v → Has Q w → Has (Pairs P Q) (both v w)
both-has P Q malformed w h k = tt
both-has P Q outside malformed h k = tt
both-has P Q outside outside h k = tt
both-has P Q outside (value b) h k = tt
both-has P Q (value a) malformed h k = tt
both-has P Q (value a) outside h k = tt
both-has P Q (value a) (value b) h k = (h, k)

pub two-has : {A : Type 0} (Q : A → Type 0) (word : List ℕ → Word A) → ((bs : List ℕ) → Has Q (word bs)) → (bs : List ℕ)
    → Has (Pairs Small Q) (two_of ident_of word bs)
unfolding two_of
two-has Q word h bs = by (mem space bs)
  where
    by : (t : Bool) → Has (Pairs Small Q) (cond t (both (ident_of (up_to space bs)) (word (past space bs))) malformed)
    by true = both-has Small Q (ident_of (up_to space bs)) (word (past space bs)) (ident-small (up_to space bs)) (h (past space bs))
    by false = tt

any-has : {A : Type 0} (w : Word A) → Has Any w
any-has malformed = tt
any-has outside = tt
any-has (value v) = tt

pub line-any : {A : Type 0} (form : Form A) (s : List ℕ) (at : ℕ) → LineHas Any (line_by form s at)
line-any form s at = line-has Any form s at (λ bs. any-has (form.word bs))

module _ (s : List ℕ) (at : ℕ) where
  pub edge-range : (u v : ℤ) (q : ℕ) → edge_line s at ≡ line (u, v) q → (mag u < 2 ^ 63) × (mag v < 2 ^ 63)
  edge-range u v q e = rw e at (line-has (Pairs Small Small) (pair_form ident_form) s at (two-has Small ident_of ident-small))

  pub pair-range : {A : Type 0} (form : Form A) (u : ℤ) (v : A) (q : ℕ) → line_by (pair_form form) s at ≡ line (u, v) q → mag u < 2 ^ 63
  pair-range form u v q e =
      let h : mag u < 2 ^ 63
      × Unit {0} = rw e at (line-has (Pairs Small Any) (pair_form form) s at (two-has Any form.word (λ bs. any-has (form.word bs)))) in
      h.0

  pub coefficient-range : (u : ℤ) (d : Decimal) (q : ℕ) → coefficient_line s at ≡ line (u, d) q → mag u < 2 ^ 63
  coefficient-range u d q e = pair-range decimal_form u d q e
