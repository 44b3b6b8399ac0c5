-- A distance up to the end of its line, and the line: one law for each way the code leaves. Assumes nothing.
use Prim.Native.Nat.{ℕ, suc, ◌+◌, ◌*◌, ◌^◌, ◌≤◌, ◌<◌, max}
use mathlib.Core.Path.{◌≡◌, refl, sym, ap, ◌∙◌}
use mathlib.Core.List.{List, ◌∷◌, ◌++◌}
use mathlib.Core.Bool.{Bool, true, false, cond}
use native.Mathlib.Omega.{arith}
use native.Mathlib.Numerals.{add-one}
use borrow.Author.Tests.{ltb-true, ltb-false, eqb-true}
use lib.Dec.{ltb, eqb}
use lib.IntN.{ℤ}
use lib.ListN.{length, get_or, drop, length-drop, drop_of_length-le}
use lib.Seq.{drop-cons, drop-drop}
use Rattle.basis.specs.Scan.{mem}
use Rattle.basis.proofs.Tests.{false_of, bool_cases, failed, held}
use Rattle.text.specs.Bytes.{lf}
use Rattle.text.specs.Word.{Word, malformed, outside, value}
use Rattle.text.specs.Line.{LineSaid, up_to}
use Rattle.text.specs.Scan.{Scanned, scanned, has_at, closed, line_from, decimal_at, rest_at}
use Rattle.text.specs.Scan.{last_at, two_at, Behind, line_of}
use Rattle.text.specs.Decimal.{decimal_of}
use Rattle.text.specs.Stop.{decimal_stop}
use Rattle.text.specs.Distance.{infinity_word, infinity_mark, same_bytes, shared_front, finite, distance_of, distance_stop}
use Rattle.text.specs.Distance.{distance_form, distance_line, distance_at}
use Rattle.text.specs.declared.decimal.Decimal.{Decimal}
use Rattle.text.specs.declared.distance.Distance.{Distance}
use Rattle.text.specs.declared.distance.Distance.TheVariants as D
use Rattle.text.specs.declared.count.Scan.{Scan}
use Rattle.text.proofs.Bytes.{has-yes, has-past, has-below, has-is, up_to-stop, up_to-more, up_to-cut}
use Rattle.text.proofs.Words.{Reads}
use Rattle.text.proofs.Distances.{same-is, shared-most, shared-short, shared-all, shared-self, shared-up_to}
use Rattle.text.proofs.Distances.{distance-plain, distance-letter, distance-short, distance-right}
use Rattle.text.proofs.Lines.{StopsAt, form-reads, form-stops, two-line}
use Rattle.text.proofs.Counting.{last-behind, scanned-behind}

-- ---- the loop over the bytes of a word
shared_has : (s : List ℕ) (p b : ℕ) (w : List ℕ) → shared_front (b ∷ w) (drop p s)
    ≡ cond (has_at s p b) (suc (shared_front w (drop (p + 1) s))) 0
unfolding shared_front
shared_has s p b w =
    bool_cases (ltb p (length s)) _
    (λ e. let h : p < length s = ltb-true p (length s) e in
    rw (← has-yes s p b h, drop-cons s p 0 h, add-one))
    (λ e. let h : length s ≤ p = ltb-false p (length s) e in
    rw (← has-past s p b h, drop_of_length-le s h))

-- what it keeps: so many bytes stand in order, and the place is within the file
pub record Sharing (s w : List ℕ) (at i : ℕ) : Type 0 where
  pub same : i + shared_front (drop i w) (drop (at + i) s) ≡ shared_front w (drop at s)
  pub inside : at + i ≤ max at (length s)

pub sharing-start : (s w : List ℕ) (at : ℕ) → Sharing s w at 0
sharing-start s w at =
    let q : at + 0 ≡ at = omega arith in
    record { same = omega (arith, ap (λ (k : ℕ). shared_front w (drop k s)) q); inside = omega arith }

module _ (s w : List ℕ) (at i : ℕ) (r : Sharing s w at i) where
  pub sharing-fits : length s * 1 < 2 ^ 63 → at < 2 ^ 64 → at + i < 2 ^ 64
  sharing-fits h k = omega (arith, r.inside)

  pub sharing-end : length w ≤ i → i ≤ length w → length w ≡ shared_front w (drop at s)
  unfolding shared_front
  sharing-end h k = let z = rw (drop_of_length-le w h) at r.same in omega (arith, z)

  module _ (t : Bool) (h : i < length w) (e : t ≡ has_at s (at + i) (get_or w i 0)) where
    shared_step : i + cond (has_at s (at + i) (get_or w i 0)) (suc (shared_front (drop (i + 1) w) (drop (at + i + 1) s))) 0
        ≡ shared_front w (drop at s)
    shared_step =
        ap (λ (n : ℕ). i + n)
        (sym (shared_has s (at + i) (get_or w i 0) (drop (i + 1) w))
        ∙ ap (λ l. shared_front l (drop (at + i) s)) (rw add-one (sym (drop-cons w i 0 h))))
        ∙ r.same

    pub shared-not : t ≡ false → i ≡ shared_front w (drop at s)
    shared-not n = let z = rw (failed t _ e n) at shared_step in omega (arith, z)

    pub sharing-more : t ≡ true → Sharing s w at (i + 1)
    sharing-more n =
        let z = rw (held t _ e n) at shared_step in
        let q : at + i + 1 ≡ at + (i + 1) = omega arith in
        record {
          same = omega (arith, z, ap (λ (k : ℕ). shared_front (drop (i + 1) w) (drop k s)) q);
          inside = omega (arith, has-below s (at + i) (get_or w i 0) (held t _ e n));
        }

-- ---- the first byte of a line's rest, and what is scanned of it
first-here : (s : List ℕ) (at : ℕ) → eqb (get_or (line_from s at) 0 0) infinity_mark ≡ has_at s at infinity_mark
first-here s at =
    bool_cases (ltb at (length s)) _
    (λ e. let h : at < length s = ltb-true at (length s) e in
    let x : ℕ = get_or s at 0 in
    let d : drop at s ≡ x ∷ drop (suc at) s = drop-cons s at 0 h in
    rw (← has-yes s at infinity_mark h, d)
    (bool_cases (eqb lf x) (eqb (get_or (up_to lf (x ∷ drop (suc at) s)) 0 0) infinity_mark ≡ eqb x infinity_mark)
    (λ t. rw (up_to-stop lf x (drop (suc at) s) t, ← eqb-true lf x t)) (λ t. rw (up_to-more lf x (drop (suc at) s) t))))
    (λ e. let h : length s ≤ at = ltb-false at (length s) e in rw (← has-past s at infinity_mark h, drop_of_length-le s h))

closed-off : {A : Type 0} (s : List ℕ) (c q : ℕ) (w : Word A) → has_at s q c ≡ false → scanned malformed q ≡ closed s c (scanned w q)
closed-off s c q malformed e = refl
closed-off s c q outside e = rw e
closed-off s c q (value v) e = rw e

-- a scanned decimal as a distance; its place stays
abbrev finite_at : Scanned Decimal → Scanned Distance
finite_at x = scanned (finite x.said) x.next

closed-finite : (s : List ℕ) (q : ℕ) (w : Word Decimal) → finite_at (closed s lf (scanned w q)) ≡ closed s lf (scanned (finite w) q)
closed-finite s q malformed = refl
closed-finite s q outside = bool_cases (has_at s q lf) _ (λ e. rw e) (λ e. rw e)
closed-finite s q (value d) = bool_cases (has_at s q lf) _ (λ e. rw e) (λ e. rw e)

-- ---- `infinity`
module _ (s : List ℕ) (at : ℕ) (i : has_at s at infinity_mark ≡ true) (n : ℕ) (e : n ≡ shared_front infinity_word (drop at s)) where
  stops-here : distance_stop (line_from s at) ≡ n
  unfolding distance_stop mem
  stops-here = rw (first-here s at, i) (shared-up_to lf infinity_word (drop at s) refl ∙ sym e)

  whole_is : distance_at s at ≡ closed s lf (scanned (distance_of (line_from s at)) (at + n))
  unfolding distance_at
  whole_is = rw stops-here

  pub infinity-in : at + n ≤ length s
  infinity-in = omega (arith, shared-short infinity_word (drop at s), length-drop at s, has-below s at infinity_mark i)

  pub infinity-cut : n < 8 → scanned malformed (at + n) ≡ distance_at s at
  unfolding mem
  infinity-cut h =
      rw (
        whole_is,
        distance-letter (line_from s at) (first-here s at ∙ i)
            (false_of (same_bytes infinity_word (line_from s at))
            (λ t. let q : shared_front infinity_word (drop at s) ≡ 8 = sym (shared-up_to lf infinity_word (drop at s) refl)
            ∙ ap (shared_front infinity_word) (same-is infinity_word (line_from s at) t) ∙ shared-self infinity_word in omega arith)),
      )

  module _ (h : 8 ≤ n) (t : Bool) (f : t ≡ has_at s (at + n) lf) where
    pub infinity-open : t ≡ false → scanned malformed (at + n) ≡ distance_at s at
    infinity-open k = rw whole_is (closed-off s lf (at + n) (distance_of (line_from s at)) (failed t _ f k))

    pub infinity-whole : t ≡ true → scanned (value D.Infinity) (at + n + 1) ≡ distance_at s at
    unfolding mem distance_of same_bytes
    infinity-whole k =
        let g : has_at s (at + n) lf ≡ true = held t _ f k in
        let q : n ≡ 8 = omega (arith, shared-most infinity_word (drop at s)) in
        let b : drop (at + n) s ≡ lf ∷ drop (suc (at + n)) s = drop-cons s (at + n) 0 (has-below s (at + n) lf g)
        ∙ ap (λ (x : ℕ). x ∷ drop (suc (at + n)) s) (has-is s (at + n) lf g) in
        let d : drop at s ≡ infinity_word ++ lf ∷ drop (suc (at + n)) s = shared-all infinity_word (drop at s) (sym e ∙ q)
        ∙ ap (λ (l : List ℕ). infinity_word ++ l) (drop-drop 8 at s ∙ ap (λ (m : ℕ). drop (at + m) s) (sym q) ∙ b) in
        let u : line_from s at ≡ infinity_word = ap (up_to lf) d ∙ up_to-cut lf infinity_word (drop (suc (at + n)) s) refl in
        rw (whole_is, u, g)

-- ---- a decimal
pub letter-stands : (s : List ℕ) (at c : ℕ) (t : Bool) → t ≡ has_at s at c → t ≡ true → has_at s at c ≡ true
letter-stands s at c t e h = sym e ∙ h

module _ (s : List ℕ) (at : ℕ) (t : Bool) (e : t ≡ has_at s at infinity_mark) (h : t ≡ false) where
  distance-decimal : (r : Scanned Decimal) → r ≡ rest_at s at → finite_at r ≡ distance_at s at
  unfolding distance_at rest_at decimal_at distance_stop
  distance-decimal r f =
      let i : eqb (get_or (line_from s at) 0 0) infinity_mark ≡ false = first-here s at ∙ sym e ∙ h in
      ap finite_at f ∙ closed-finite s (at + decimal_stop (line_from s at)) (decimal_of (line_from s at))
      ∙ rw (i, distance-plain (line_from s at) i)

  pub distance-bad : (p : ℕ) → scanned malformed p ≡ rest_at s at → scanned malformed p ≡ distance_at s at
  distance-bad p f = distance-decimal (scanned malformed p) f

  pub distance-finite : (x : Scan Decimal) → scanned (value x.value) x.next ≡ rest_at s at
      → scanned (value (D.Finite x.value)) x.next ≡ distance_at s at
  distance-finite x f = distance-decimal (scanned (value x.value) x.next) f

-- ---- the whole line
distance-reads : (s : List ℕ) (at : ℕ) → Reads lf distance_of s at (distance_at s at)
unfolding distance_at last_at
distance-reads s at = form-reads distance_form distance-right s at

distance-stops : (s : List ℕ) (at : ℕ) → StopsAt lf distance_stop s at (distance_at s at)
unfolding distance_at last_at
distance-stops s at h = form-stops distance_form s at h

module _ (s : List ℕ) (at : ℕ) (l : at < length s) (x : Scanned (ℤ × Distance)) (e : x ≡ two_at distance_at s at) where
  pub distance-read : (y : LineSaid (ℤ × Distance)) → y ≡ line_of at x → y ≡ distance_line s at
  distance-read y f = f ∙ ap (line_of at) e ∙ two-line distance_form distance_at distance-reads distance-stops s at l

  -- the column can be counted there
  pub distance-behind : length s * 1 < 2 ^ 63 → Behind at x.next
  unfolding distance_at
  distance-behind b = scanned-behind s at b distance_at (λ p. last-behind s at b distance_form distance-short p) l x e
