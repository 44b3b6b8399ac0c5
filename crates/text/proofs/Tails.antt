-- Laws of an edge line with a weight: what is scanned behind its first number is what the definitions say of its bytes; one law for each
-- way the code leaves. Assumes nothing.
use Prim.Native.Nat.{ℕ, ◌+◌, ◌-◌, ◌*◌, ◌^◌, ◌≤◌, ◌<◌}
use mathlib.Core.Path.{◌≡◌, refl, ap, ◌∙◌}
use mathlib.Core.List.{List}
use mathlib.Core.Bool.{Bool, true, false}
use native.Mathlib.Omega.{arith}
use lib.IntN.{ℤ}
use lib.ListN.{length, take, drop, length-drop}
use Rattle.text.specs.Bytes.{lf, space}
use Rattle.text.specs.Word.{malformed, value, within, ident_of}
use Rattle.text.specs.Weight.{weight_of, weight_stop}
use Rattle.text.specs.Line.{LineSaid, up_to, Form, two_of, two_stop, pair_form}
use Rattle.text.specs.Weighed.{weight_form, weighed_line}
use Rattle.text.specs.Scan.{Scanned, scanned, has_at, closed, read_says, field_at, line_from, Behind, line_of}
use Rattle.text.specs.Scan.{last_at, two_at, pair_at}
use Rattle.text.specs.declared.count.Scan.{Scan}
use Rattle.std.specs.Prelude.{Result, Ok, Err}
use Rattle.text.proofs.Bytes.{up_to-take, up_to-le}
use Rattle.text.proofs.Words.{Reads, field-reads}
use Rattle.text.proofs.Breaks.{RightStop}
use Rattle.text.proofs.Weights.{weight-right}
use Rattle.text.proofs.Lines.{StopsAt, field-stops, form-reads, form-stops, pair_reads, pair-stops, rest_end}
use Rattle.text.proofs.Lines.{two-line}
use Rattle.text.proofs.Counting.{closed-most, closed-from, two-behind, scanned-behind}

-- ---- the rest of a line behind its first identifier: another one and a last word, of any form
module _ {A : Type 0} (form : Form A) (R : RightStop form) where
  tail-reads : (s : List ℕ) (at : ℕ) → Reads lf (two_of ident_of form.word) s at (pair_at form s at)
  unfolding two_at within
  tail-reads s at =
      pair_reads form.word s at (field_at s at space) (last_at form s (field_at s at space).next) (field-reads s at space refl refl)
      (λ _. form-reads form R s (field_at s at space).next)

  tail-stops : (s : List ℕ) (at : ℕ) → StopsAt lf (two_stop form.stop) s at (pair_at form s at)
  unfolding two_at within
  tail-stops s at =
      pair-stops form.word s at (field_at s at space) (last_at form s (field_at s at space).next) (field-reads s at space refl refl)
      (λ _. form-reads form R s (field_at s at space).next) form.stop (field-stops s at space refl refl)
      (λ _. form-stops form s (field_at s at space).next)

  -- where a column can be counted there
  module _ (s : List ℕ) (at : ℕ) (l : length s * 1 < 2 ^ 63) (p : ℕ) (h : at ≤ p) (k : p ≤ length s) where
    last-behind : Behind at (last_at form s p).next
    unfolding last_at
    last-behind =
        let x : Scanned A = scanned (form.word (line_from s p)) (p + form.stop (line_from s p)) in
        let q : x.next ≤ length s = omega (arith, R.short (line_from s p), up_to-le lf (drop p s), length-drop p s) in
        record { onward = omega (arith, closed-from s lf x); counted = omega (arith, closed-most s lf x q) }

-- ---- the weight up to the end of its line
module _ (s : List ℕ) (at end : ℕ) (e : end ≡ at + length (up_to lf (drop at s))) where
  abbrev slice : List ℕ
  slice = take (end - at) (drop at s)

  weight-by : (x : Result (Scan ℕ) ℕ) → read_says x ≡ scanned (weight_of slice) (weight_stop slice)
      → read_says x ≡ scanned (weight_of (line_from s at)) (weight_stop (line_from s at))
  weight-by x f =
      let n : end - at ≡ length (up_to lf (drop at s)) = omega arith in
      let l : slice ≡ line_from s at = ap (λ (n : ℕ). take n (drop at s)) n ∙ up_to-take lf (drop at s) in
      rw l at f

  weight-within : at ≤ length s → (x : Result (Scan ℕ) ℕ) → read_says x ≡ scanned (weight_of slice) (weight_stop slice)
      → at + (read_says x).next ≤ length s
  weight-within h x f =
      omega (
        arith,
        ap (λ (z : Scanned ℕ). z.next) (weight-by x f),
        weight-right.short (line_from s at),
        rest_end s at end e h,
      )

  last-is : (x : Result (Scan ℕ) ℕ) → read_says x ≡ scanned (weight_of slice) (weight_stop slice)
      → closed s lf (scanned (read_says x).said (at + (read_says x).next)) ≡ last_at weight_form s at
  unfolding last_at
  last-is x f = ap (λ (z : Scanned ℕ). closed s lf (scanned z.said (at + z.next))) (weight-by x f)

  module _ (p : ℕ) (f : scanned malformed p ≡ scanned (weight_of slice) (weight_stop slice)) where
    pub weight-bad-within : at ≤ length s → at + p ≤ length s
    weight-bad-within h = weight-within h (Err p) f

    pub last-bad : scanned malformed (at + p) ≡ last_at weight_form s at
    last-bad = last-is (Err p) f

  module _ (x : Scan ℕ) (f : scanned (value x.value) x.next ≡ scanned (weight_of slice) (weight_stop slice)) where
    pub weight-value-within : at ≤ length s → at + x.next ≤ length s
    weight-value-within h = weight-within h (Ok x) f

    module _ (t : Bool) (h : t ≡ has_at s (at + x.next) lf) where
      pub last-value : t ≡ true → scanned (value x.value) (at + x.next + 1) ≡ last_at weight_form s at
      last-value k = rw (← h, k) at (last-is (Ok x) f)

      pub last-open : t ≡ false → scanned malformed (at + x.next) ≡ last_at weight_form s at
      last-open k = rw (← h, k) at (last-is (Ok x) f)

-- ---- the line
pub weighed-read : (s : List ℕ) (at : ℕ) → at < length s → (x : Scanned (ℤ × (ℤ × ℕ))) → x ≡ two_at (pair_at weight_form) s at
    → (y : LineSaid (ℤ × (ℤ × ℕ))) → y ≡ line_of at x → y ≡ weighed_line s at
weighed-read s at l x e y f =
    f ∙ ap (line_of at) e
    ∙ two-line (pair_form weight_form) (pair_at weight_form) (tail-reads weight_form weight-right)
    (tail-stops weight_form weight-right) s at
    l

pub weighed-behind : (s : List ℕ) (at : ℕ) → length s * 1 < 2 ^ 63 → at < length s → (x : Scanned (ℤ × (ℤ × ℕ)))
    → x ≡ two_at (pair_at weight_form) s at → Behind at x.next
weighed-behind s at l h x e =
    scanned-behind s at l (pair_at weight_form)
    (λ p. two-behind s at l (last_at weight_form) (last-behind weight_form weight-right s at l) p) h x e
