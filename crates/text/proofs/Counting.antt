-- Where a column can be counted: whatever is scanned from a place of a file stops at or behind it and not past the file, whose length is
-- below 2^63. Assumes nothing.
use Prim.Native.Nat.{ℕ, ◌+◌, ◌*◌, ◌^◌, ◌≤◌, ◌<◌}
use mathlib.Core.Path.{◌≡◌, sym, ap, subst}
use mathlib.Core.List.{List}
use native.Mathlib.Omega.{arith}
use lib.IntN.{ℤ}
use lib.ListN.{length, drop, length-drop}
use Rattle.basis.proofs.Tests.{bool_cases}
use Rattle.text.specs.Word.{well_formed}
use Rattle.text.specs.Bytes.{lf, space}
use Rattle.text.specs.Line.{Form, decimal_form}
use Rattle.text.specs.Scan.{Scanned, scanned, has_at, ident_at, closed, field_at, two_at}
use Rattle.text.specs.Scan.{line_from, decimal_at, rest_at, Behind}
use Rattle.text.specs.declared.decimal.Decimal.{Decimal}
use Rattle.text.proofs.Bytes.{has-below, up_to-le}
use Rattle.text.proofs.Stops.{stop_le}
use Rattle.text.proofs.Idents.{ident-short, ident-next}
use Rattle.text.proofs.Places.{field-moves}

pub closed-most : {A : Type 0} (s : List ℕ) (c : ℕ) (x : Scanned A) → x.next ≤ length s → (closed s c x).next ≤ length s
closed-most s c x h =
    bool_cases (well_formed x.said) _
    (λ w. bool_cases (has_at s x.next c) _ (λ e. rw (w, e) (omega (arith, has-below s x.next c e))) (λ e. rw (w, e) h)) (λ w. rw w h)

pub closed-from : {A : Type 0} (s : List ℕ) (c : ℕ) (x : Scanned A) → x.next ≤ (closed s c x).next
closed-from s c x =
    bool_cases (well_formed x.said) _
    (λ w. bool_cases (has_at s x.next c) _ (λ e. rw (w, e) (omega arith)) (λ e. rw (w, e) (omega arith))) (λ w. rw w (omega arith))

-- of a slice it is known that its elements, of one byte each, have less than 2^63 bytes
module _ (s : List ℕ) (at : ℕ) (l : length s * 1 < 2 ^ 63) where
  pub field-behind : (p c : ℕ) → at ≤ p → p ≤ length s → Behind at (field_at s p c).next
  unfolding field_at
  field-behind p c h k =
      let q : (ident_at s p).next ≤ length s = omega (arith, ident-next s p, ident-short (drop p s), length-drop p s) in
      record {
        onward = omega (arith, closed-from s c (ident_at s p), ident-next s p);
        counted = omega (arith, closed-most s c (ident_at s p) q);
      }

  -- a word up to the end of its line
  pub last-behind : {A : Type 0} (form : Form A) → ((w : List ℕ) → form.stop w ≤ length w) → (p : ℕ) → at ≤ p → p ≤ length s
      → Behind at (closed s lf (scanned (form.word (line_from s p)) (p + form.stop (line_from s p)))).next
  last-behind {A} form short p h k =
      let x : Scanned A = scanned (form.word (line_from s p)) (p + form.stop (line_from s p)) in
      let q : x.next ≤ length s = omega (arith, short (line_from s p), up_to-le lf (drop p s), length-drop p s) in
      record { onward = omega (arith, closed-from s lf x); counted = omega (arith, closed-most s lf x q) }

  rest-behind : (p : ℕ) → at ≤ p → p ≤ length s → Behind at (rest_at s p).next
  unfolding rest_at decimal_at
  rest-behind p h k = last-behind decimal_form stop_le p h k

  -- in the one field of a vertex line, and in the two of any other
  pub vertex-behind : at < length s → (x : Scanned ℤ) → x ≡ field_at s at lf → Behind at x.next
  vertex-behind h x e = subst (Behind at) (ap (λ (z : Scanned ℤ). z.next) (sym e)) (field-behind at lf (omega arith) (omega arith))

  pub two-behind : {A : Type 0} (second : List ℕ → ℕ → Scanned A) → ((p : ℕ) → at ≤ p → p ≤ length s → Behind at (second s p).next)
      → (p : ℕ) → at ≤ p → p ≤ length s → Behind at (two_at second s p).next
  unfolding two_at
  two-behind second b p h k =
      bool_cases (well_formed (field_at s p space).said) _
      (λ w. let m = field-moves s p space w in
      rw w (b (field_at s p space).next (omega (arith, m.forward)) m.inside))
      (λ w. rw w (field-behind p space h k))

  pub scanned-behind : {A : Type 0} (second : List ℕ → ℕ → Scanned A)
      → ((p : ℕ) → at ≤ p → p ≤ length s → Behind at (second s p).next) → at < length s
      → (x : Scanned (ℤ × A)) → x ≡ two_at second s at → Behind at x.next
  scanned-behind {A} second b h x e =
      subst (Behind at) (ap (λ (z : Scanned (ℤ × A)). z.next) (sym e)) (two-behind second b at (omega arith) (omega arith))

  pub edge-behind : at < length s → (x : Scanned (ℤ × ℤ)) → x ≡ two_at (λ s p. field_at s p lf) s at → Behind at x.next
  edge-behind h x e = scanned-behind (λ s p. field_at s p lf) (λ p. field-behind p lf) h x e

  pub coefficient-behind : at < length s → (x : Scanned (ℤ × Decimal)) → x ≡ two_at rest_at s at → Behind at x.next
  coefficient-behind h x e = scanned-behind rest_at rest-behind h x e
