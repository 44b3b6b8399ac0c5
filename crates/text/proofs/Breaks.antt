-- Where the bytes of a line break off, for each form of a line: from those before that place a good line could go on, with the one there
-- none can. Assumes nothing.
use Prim.Native.Nat.{ℕ, suc, ◌+◌, ◌≤◌, ◌<◌}
use mathlib.Core.Path.{◌≡◌, refl, sym, ap, ◌∙◌}
use mathlib.Core.List.{List, [], ◌∷◌, ◌++◌, append_assoc}
use mathlib.Core.Bool.{Bool, true, false, cond, ◌&&◌, ◌||◌}
use mathlib.Core.Logic.{◌↔◌, ⊎_elim}
use native.Mathlib.Omega.{arith}
use native.Mathlib.Nat.{eq-or-lt_of_le}
use lib.Dec.{eqb}
use lib.IntN.{ℤ}
use lib.ListN.{length, take, drop, length-append, take-append-drop}
use lib.Seq.{take-take, take-append-add}
use Rattle.basis.specs.Scan.{each, mem}
use Rattle.basis.proofs.Tests.{clash, false_of, bool_cases, and_first, and_second, and_both, and-off, or-first, or_cases}
use Rattle.basis.proofs.Scans.{each_append, each-mem, mem-append}
use Rattle.text.specs.Bytes.{lf, space}
use Rattle.text.specs.Word.{Word, malformed, outside, value, well_formed, within, is_digit, ident_of}
use Rattle.text.specs.Decimal.{decimal_of}
use Rattle.text.specs.Grammar.{FractionPart, PowerPart, no_point, point, no_power, plus, minus}
use Rattle.text.specs.Grammar.{whole_digits, fraction_digits, fraction_bytes, power_digits, power_bytes}
use Rattle.text.specs.Stop.{ident_stop}
use Rattle.text.specs.Line.{up_to, past, Form, both, two_of, two_stop, ident_form, pair_form, edge_form, decimal_form}
use Rattle.text.specs.Column.{Formed, IsDecimal, TwoWords, file_end}
use Rattle.text.specs.declared.decimal.Decimal.{Decimal}
use Rattle.text.proofs.Bytes.{cut_at, up_to-none, up_to-cut, up_to-take, up_to-le, up_to-all, past-cut, mem-cut, mem-join, mem-left}
use Rattle.text.proofs.Stops.{cond-le, stop_le, decimal-never-outside, NeverOutside}
use Rattle.text.proofs.Firsts.{stop-first}
use Rattle.text.proofs.Goings.{Goes, stop_goes}
use Rattle.text.proofs.Grammars.{form_of, decimal-grammar}
use Rattle.text.proofs.Words.{ident-stray}
use Rattle.text.proofs.Idents.{ident-short, ident-goes, ident-breaks}

-- a form's place is right; and neither LF nor the end of the file stands in a good word
pub record RightStop {A : Type 0} (form : Form A) : Type 0 where
  pub short : (w : List ℕ) → form.stop w ≤ length w
  pub goes : (w : List ℕ) → Goes form.word (take (form.stop w) w)
  pub breaks : (w t : List ℕ) → form.stop w < length w → well_formed (form.word (take (suc (form.stop w)) w ++ t)) ≡ false
  pub unbroken : (w : List ℕ) → mem lf w ≡ true → well_formed (form.word w) ≡ false
  pub unended : (w : List ℕ) → mem file_end w ≡ true → well_formed (form.word w) ≡ false

-- ---- an identifier
pub ident-right : RightStop ident_form
unfolding within
ident-right =
    record {
      short = ident-short;
      goes = ident-goes;
      breaks = ident-breaks;
      unbroken = λ w h. ap well_formed (ident-stray lf refl refl w h);
      unended = λ w h. ap well_formed (ident-stray file_end refl refl w h);
    }

-- ---- a decimal: its bytes are digits and four marks
abbrev of_decimal : ℕ → Bool
of_decimal b = is_digit b || (eqb b 46 || (eqb b 101 || (eqb b 43 || eqb b 45)))

each_more : (l : List ℕ) → each is_digit l ≡ true → each of_decimal l ≡ true
unfolding each
each_more [] h = refl
each_more (b ∷ l) h =
    and_both (or-first (is_digit b) _ (and_first (is_digit b) (each is_digit l) h))
    (each_more l (and_second (is_digit b) (each is_digit l) h))

fraction-marks : (f : FractionPart) → each is_digit (fraction_digits f) ≡ true → each of_decimal (fraction_bytes f) ≡ true
unfolding each within
fraction-marks no_point h = refl
fraction-marks (point b bs) h = each_more (b ∷ bs) h

power-marks : (t : PowerPart) → each is_digit (power_digits t) ≡ true → each of_decimal (power_bytes t) ≡ true
unfolding each within
power-marks no_power h = refl
power-marks (plus x y) h = each_more (x ∷ y ∷ []) h
power-marks (minus x y) h = each_more (x ∷ y ∷ []) h

pub decimal-formed : (w : List ℕ) → Formed decimal_of w ↔ IsDecimal w
decimal-formed w = (λ h. by (decimal_of w) refl (decimal-never-outside w) h, λ x. ap well_formed ((decimal-grammar w x.0).1 x.1))
  where
    by : (x : Word Decimal) → decimal_of w ≡ x → NeverOutside x → well_formed x ≡ true → IsDecimal w
    by malformed e n h = clash h refl
    by outside e n h = absurd n
    by (value d) e n h = (d, form_of w d e)

decimal-marks : (w : List ℕ) → IsDecimal w → each of_decimal w ≡ true
decimal-marks w (d, f) =
    let g = f.good in
    let p = f.parts in
    ap (each of_decimal) f.bytes
    ∙ each_append of_decimal (whole_digits p.whole) (fraction_bytes p.fraction ++ power_bytes p.power)
    ∙ and_both (each_more (whole_digits p.whole) g.wholes)
    (each_append of_decimal (fraction_bytes p.fraction) (power_bytes p.power)
    ∙ and_both (fraction-marks p.fraction g.fractions) (power-marks p.power g.powers))

decimal-stray : (c : ℕ) → of_decimal c ≡ false → (w : List ℕ) → mem c w ≡ true → well_formed (decimal_of w) ≡ false
decimal-stray c d w h =
    false_of (well_formed (decimal_of w)) (λ k. clash (each-mem of_decimal w (decimal-marks w ((decimal-formed w).0 k)) c h) d)

pub decimal-right : RightStop decimal_form
unfolding within
decimal-right =
    record {
      short = stop_le;
      goes = stop_goes;
      breaks = λ w t h. stop-first w t h;
      unbroken = decimal-stray lf refl;
      unended = decimal-stray file_end refl;
    }

-- ---- an identifier, a space and a second word
both-wells : {A B : Type 0} (v : Word A) (w : Word B) → well_formed (both v w) ≡ (well_formed v && well_formed w)
both-wells malformed w = refl
both-wells outside malformed = refl
both-wells outside outside = refl
both-wells outside (value b) = refl
both-wells (value a) malformed = refl
both-wells (value a) outside = refl
both-wells (value a) (value b) = refl

module _ {A : Type 0} (form : Form A) (R : RightStop form) where
  abbrev word : List ℕ → Word (ℤ × A)
  word = two_of ident_of form.word

  -- the form of a word by its parts, or one that has no space
  two-well : (u v : List ℕ) → mem space u ≡ false
      → well_formed (word (u ++ space ∷ v)) ≡ (well_formed (ident_of u) && well_formed (form.word v))
  unfolding two_of
  two-well u v n = rw (mem-cut space u v, up_to-cut space u v n, past-cut space u v n) (both-wells (ident_of u) (form.word v))

  two_none : (w : List ℕ) → mem space w ≡ false → well_formed (word w) ≡ false
  unfolding two_of
  two_none w n = rw n

  -- a good first word has no space in it
  spaceless : (u : List ℕ) → well_formed (ident_of u) ≡ true → mem space u ≡ false
  unfolding within
  spaceless u h = false_of (mem space u) (λ e. clash h (ap well_formed (ident-stray space refl refl u e)))

  pub words-two : (u v : List ℕ) → Formed ident_of u → Formed form.word v → Formed word (u ++ space ∷ v)
  words-two u v h k = two-well u v (spaceless u h) ∙ and_both h k

  -- a word whose first bytes u, with no space in them, belong in no identifier
  first-bad : (u t : List ℕ) → mem space u ≡ false → ((r : List ℕ) → well_formed (ident_of (u ++ r)) ≡ false)
      → well_formed (word (u ++ t)) ≡ false
  first-bad u t n h =
      bool_cases (mem space t) _
      (λ e. let m : mem space (u ++ up_to space t) ≡ false = mem-join space u (up_to space t) n (up_to-none space t) in
      ap (λ (l : List ℕ). well_formed (word l))
      (ap (λ (l : List ℕ). u ++ l) (cut_at space t e) ∙ sym (append_assoc u (up_to space t) (space ∷ past space t)))
      ∙ two-well (u ++ up_to space t) (past space t) m ∙ rw (h (up_to space t)))
      (λ e. two_none (u ++ t) (mem-join space u t n e))

  module _ (w : List ℕ) where
    abbrev first : List ℕ
    first = up_to space w

    abbrev second : List ℕ
    second = past space w

    -- whether the first word is good, and the space behind it
    abbrev led : Bool
    led = mem space w && well_formed (ident_of first)

    two-short : two_stop form.stop w ≤ length w
    unfolding two_stop
    two-short =
        cond-le led (length first + 1 + form.stop second) (ident_stop first) (length w)
        (λ e. omega (
          arith,
          R.short second,
          ap length (cut_at space w (and_first (mem space w) (well_formed (ident_of first)) e)) ∙ length-append first (space ∷ second),
        ))
        (λ _. omega (arith, ident-short first, up_to-le space w))

    -- a good word is a good first one, a space and a good second one
    pub two-words : Formed word w → TwoWords (Formed ident_of) (Formed form.word) w
    two-words h =
        bool_cases (mem space w) _
        (λ m. let q : w ≡ first ++ space ∷ second = cut_at space w m in
        let z : (well_formed (ident_of first) && well_formed (form.word second)) ≡ true =
        sym (two-well first second (up_to-none space w)) ∙ ap (λ (l : List ℕ). well_formed (word l)) (sym q) ∙ h in
        record {
          first = first;
          second = second;
          between = q;
          first_formed = and_first (well_formed (ident_of first)) (well_formed (form.word second)) z;
          second_formed = and_second (well_formed (ident_of first)) (well_formed (form.word second)) z;
        })
        (λ m. clash h (two_none w m))

    -- the bytes up to k places into the first word, and into the second
    first-take : (k : ℕ) → k ≤ length first → take k w ≡ take k first
    first-take k h = sym (take-take k (length first) w h) ∙ ap (take k) (up_to-take space w)

    led-take : mem space w ≡ true → (k : ℕ) → take (length first + suc k) w ≡ first ++ space ∷ take k second
    led-take e k = ap (take (length first + suc k)) (cut_at space w e) ∙ take-append-add first (space ∷ second) (suc k)

    two-goes : Goes word (take (two_stop form.stop w) w)
    unfolding two_stop
    two-goes = by led refl
      where
        by : (t : Bool) → led ≡ t → Goes word (take (cond t (length first + 1 + form.stop second) (ident_stop first)) w)
        by true e =
            let h : well_formed (ident_of first) ≡ true = and_second (mem space w) (well_formed (ident_of first)) e in
            let k : ℕ = form.stop second in
            let q : length first + 1 + k ≡ length first + suc k = omega arith in
            let d : take (length first + 1 + k) w ≡ first ++ space ∷ take k second =
            ap (λ (n : ℕ). take n w) q ∙ led-take (and_first (mem space w) (well_formed (ident_of first)) e) k in
            let g = R.goes second in
            record {
              rest = g.rest;
              good = ap (λ (l : List ℕ). well_formed (word (l ++ g.rest))) d
                  ∙ ap (λ (l : List ℕ). well_formed (word l)) (append_assoc first (space ∷ take k second) g.rest)
                  ∙ words-two first (take k second ++ g.rest) h g.good;
            }
        by false e =
            let k : ℕ = ident_stop first in
            let d : take k w ≡ take k first = first-take k (ident-short first) in
            let g = ident-goes first in
            let o = R.goes [] in
            let v : List ℕ = take (form.stop []) [] ++ o.rest in
            record {
              rest = g.rest ++ space ∷ v;
              good = ap (λ (l : List ℕ). well_formed (word (l ++ (g.rest ++ space ∷ v)))) d
                  ∙ ap (λ (l : List ℕ). well_formed (word l)) (sym (append_assoc (take k first) g.rest (space ∷ v)))
                  ∙ words-two (take k first ++ g.rest) v g.good o.good;
            }

    two-breaks : (t : List ℕ) → two_stop form.stop w < length w → well_formed (word (take (suc (two_stop form.stop w)) w ++ t)) ≡ false
    unfolding two_stop
    two-breaks t = by led refl
      where
        -- a first word that breaks off at the space behind it
        at-space : led ≡ false → ident_stop first ≡ length first → ident_stop first < length w
            → well_formed (word (take (suc (ident_stop first)) w ++ t)) ≡ false
        at-space e q h =
            bool_cases (mem space w) _
            (λ m. let j : suc (ident_stop first) ≡ length first + 1 = omega (arith, q) in
            let d : take (suc (ident_stop first)) w ≡ first ++ space ∷ [] = ap (λ (n : ℕ). take n w) j ∙ led-take m 0 in
            let f : well_formed (ident_of first) ≡ false = rw m at e in
            ap (λ (l : List ℕ). well_formed (word (l ++ t))) d
            ∙ ap (λ (l : List ℕ). well_formed (word l)) (append_assoc first (space ∷ []) t)
            ∙ two-well first t (up_to-none space w) ∙ rw f)
            (λ m. absurd (omega (arith, q, h, ap length (up_to-all space w m))))

        by : (b : Bool) → led ≡ b → cond b (length first + 1 + form.stop second) (ident_stop first) < length w
            → well_formed (word (take (suc (cond b (length first + 1 + form.stop second) (ident_stop first))) w ++ t)) ≡ false
        by true e h =
            let m : mem space w ≡ true = and_first (mem space w) (well_formed (ident_of first)) e in
            let k : ℕ = form.stop second in
            let q : suc (length first + 1 + k) ≡ length first + suc (suc k) = omega arith in
            let l : length w ≡ length first + suc (length second) = ap length (cut_at space w m) ∙ length-append first (space ∷ second) in
            ap (λ (n : ℕ). well_formed (word (take n w ++ t))) q ∙ ap (λ (l : List ℕ). well_formed (word (l ++ t))) (led-take m (suc k))
            ∙ ap (λ (l : List ℕ). well_formed (word l)) (append_assoc first (space ∷ take (suc k) second) t)
            ∙ two-well first (take (suc k) second ++ t) (up_to-none space w)
            ∙ and-off (well_formed (ident_of first)) (well_formed (form.word (take (suc k) second ++ t))) (R.breaks second t (omega arith))
        by false e h =
            ⊎_elim (λ q. at-space e q h)
            (λ i. let k : ℕ = ident_stop first in
            let n : mem space (take (suc k) first) ≡ false = mem-left space (take (suc k) first) (drop (suc k) first)
            (rw (take-append-drop (suc k) first) (up_to-none space w)) in
            ap (λ (l : List ℕ). well_formed (word (l ++ t))) (first-take (suc k) i)
            ∙ first-bad (take (suc k) first) t n (λ r. ident-breaks first r i))
            (eq-or-lt_of_le (ident-short first))

    two-stray : (c : ℕ) → eqb c space ≡ false → ((u : List ℕ) → mem c u ≡ true → well_formed (ident_of u) ≡ false)
        → ((v : List ℕ) → mem c v ≡ true → well_formed (form.word v) ≡ false) → mem c w ≡ true → well_formed (word w) ≡ false
    unfolding mem
    two-stray c d f g h =
        bool_cases (mem space w) _
        (λ m. let q : w ≡ first ++ space ∷ second = cut_at space w m in
        let z : well_formed (word w) ≡ (well_formed (ident_of first) && well_formed (form.word second)) =
        ap (λ (l : List ℕ). well_formed (word l)) q ∙ two-well first second (up_to-none space w) in
        z
        ∙ ⊎_elim (λ k. rw (f first k))
        (λ k. and-off (well_formed (ident_of first)) (well_formed (form.word second)) (g second (rw d at k)))
        (or_cases (mem c first) (mem c (space ∷ second)) (sym (mem-append c first (space ∷ second)) ∙ ap (mem c) (sym q) ∙ h)))
        (λ m. two_none w m)

  pub pair-right : RightStop (pair_form form)
  unfolding within
  pair-right =
      record {
        short = two-short;
        goes = two-goes;
        breaks = two-breaks;
        unbroken = λ w. two-stray w lf refl ident-right.unbroken R.unbroken;
        unended = λ w. two-stray w file_end refl ident-right.unended R.unended;
      }

pub edge-right : RightStop edge_form
edge-right = pair-right ident_form ident-right
