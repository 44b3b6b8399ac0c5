-- Where a count and an identifier break off: from the bytes before that place a good one could go on, with the byte there none can; the
-- scanner stops there; and what stands behind a byte of no identifier does not matter. Assumes nothing.
use Prim.Native.Nat.{ℕ, suc, ◌+◌, ◌≤◌, ◌<◌}
use mathlib.Core.Path.{◌≡◌, refl, sym, ap, ◌∙◌}
use mathlib.Core.List.{List, [], ◌∷◌, ◌++◌}
use mathlib.Core.Bool.{Bool, true, false, cond}
use native.Mathlib.Omega.{arith}
use native.Mathlib.Nat.{add-zero}
use lib.Dec.{eqb}
use lib.ListN.{length, get_or, take, drop, length-append, length-drop, get_or-append}
use lib.Seq.{length-take-le, get_or-take, get_or-drop, drop-drop}
use lib.IntN.{ℤ}
use borrow.Author.Tests.{eqb-true}
use Rattle.basis.specs.Scan.{each, mem}
use Rattle.basis.proofs.Tests.{clash, bool_cases}
use Rattle.basis.proofs.Scans.{each-fail, each_append}
use Rattle.text.specs.Word.{Word, malformed, outside, value, well_formed, within, is_digit, run_len, run_val}
use Rattle.text.specs.Word.{count_of, signed_of, after_minus, ident_of}
use Rattle.text.specs.Line.{up_to, past}
use Rattle.text.specs.Stop.{count_stop, minus_stop, ident_stop}
use Rattle.text.specs.Scan.{Scanned, scanned, has_at, count_at, signed_at, ident_at}
use Rattle.text.proofs.Bytes.{no-first, no_zero, first-digit, has-yes, has-past, nothing-past, cut_at, up_to-all}
use Rattle.text.proofs.Runs.{len-digit, len-stop, len-le}
use Rattle.text.proofs.Stops.{cond-le}
use Rattle.text.proofs.Firsts.{run-here}
use Rattle.text.proofs.Goings.{Goes}
use Rattle.text.proofs.Grammars.{digits-front}
use Rattle.text.proofs.Words.{ranged-well, count_by}

-- ---- never past the end
pub count-short : (w : List ℕ) → count_stop w ≤ length w
count-short [] = omega arith
count-short (b ∷ bs) =
    cond-le (eqb b 48) 1 _ (suc (length bs)) (λ _. omega arith)
    (λ _. cond-le (within 49 57 b) (suc (run_len bs)) 0 (suc (length bs)) (λ _. omega (arith, len-le bs)) (λ _. omega arith))

minus-short : (w : List ℕ) → minus_stop w ≤ length w
minus-short [] = omega arith
minus-short (b ∷ bs) = cond-le (eqb b 48) 0 (count_stop (b ∷ bs)) (suc (length bs)) (λ _. omega arith) (λ _. count-short (b ∷ bs))

pub ident-short : (w : List ℕ) → ident_stop w ≤ length w
ident-short [] = omega arith
ident-short (b ∷ bs) =
    cond-le (eqb b 45) (suc (minus_stop bs)) (count_stop (b ∷ bs)) (suc (length bs)) (λ _. omega (arith, minus-short bs))
    (λ _. count-short (b ∷ bs))

-- ---- from the bytes before it a good word could go on
-- a sign and the range do not matter to the form
signed-well : (neg : Bool) (w : Word ℕ) → well_formed (signed_of neg w) ≡ well_formed w
signed-well neg malformed = refl
signed-well neg outside = refl
signed-well neg (value n) = ranged-well neg n

-- an identifier by its first byte, and what follows a `-` by its own
minus_is : (b : ℕ) (l : List ℕ) → eqb b 48 ≡ false → after_minus (b ∷ l) ≡ signed_of true (count_of (b ∷ l))
minus_is b l e = ap (λ (t : Bool). cond t malformed (signed_of true (count_of (b ∷ l)))) e

ident-is : (b : ℕ) (l : List ℕ) (t : Bool) → eqb b 45 ≡ t → ident_of (b ∷ l) ≡ cond t (after_minus l) (signed_of false (count_of (b ∷ l)))
ident-is b l t e = ap (λ (u : Bool). cond u (after_minus l) (signed_of false (count_of (b ∷ l)))) e

-- the form of a word that says a count, with its sign
minus-well : (b : ℕ) (l : List ℕ) → eqb b 48 ≡ false → well_formed (after_minus (b ∷ l)) ≡ well_formed (count_of (b ∷ l))
minus-well b l e = ap well_formed (minus_is b l e) ∙ signed-well true (count_of (b ∷ l))

plain-well : (b : ℕ) (l : List ℕ) → eqb b 45 ≡ false → well_formed (ident_of (b ∷ l)) ≡ well_formed (count_of (b ∷ l))
plain-well b l e = ap well_formed (ident-is b l false e) ∙ signed-well false (count_of (b ∷ l))

-- a digit 1 to 9 and all digits behind it
run-goes : (b : ℕ) (bs : List ℕ) → eqb b 48 ≡ false → within 49 57 b ≡ true → well_formed (count_of (b ∷ (take (run_len bs) bs ++ [])))
    ≡ true
unfolding each
run-goes b bs z w =
    let d : each is_digit (take (run_len bs) bs ++ []) ≡ true = each_append is_digit (take (run_len bs) bs) [] ∙ rw (digits-front bs) in
    rw (z, w, d)

pub count-goes : (w : List ℕ) → Goes count_of (take (count_stop w) w)
count-goes [] = record { rest = 48 ∷ []; good = refl }
count-goes (b ∷ bs) = by (eqb b 48) (within 49 57 b) refl refl
  where
    by : (t u : Bool) → eqb b 48 ≡ t → within 49 57 b ≡ u → Goes count_of (take (cond t 1 (cond u (suc (run_len bs)) 0)) (b ∷ bs))
    by true u e f = record { rest = []; good = rw e }
    by false true e f = record { rest = []; good = run-goes b bs e f }
    by false false e f = record { rest = 48 ∷ []; good = refl }

minus-goes : (w : List ℕ) → Goes after_minus (take (minus_stop w) w)
unfolding within each
minus-goes [] = record { rest = 49 ∷ []; good = refl }
minus-goes (b ∷ bs) = by (eqb b 48) (within 49 57 b) refl refl
  where
    by : (t u : Bool) → eqb b 48 ≡ t → within 49 57 b ≡ u
        → Goes after_minus (take (cond t 0 (cond t 1 (cond u (suc (run_len bs)) 0))) (b ∷ bs))
    by true u e f = record { rest = 49 ∷ []; good = refl }
    by false true e f = record { rest = []; good = minus-well b (take (run_len bs) bs ++ []) e ∙ run-goes b bs e f }
    by false false e f = record { rest = 49 ∷ []; good = refl }

-- a good count is a good identifier
count-ident : (l : List ℕ) → well_formed (count_of l) ≡ true → well_formed (ident_of l) ≡ true
unfolding within
count-ident [] h = h
count-ident (b ∷ bs) h =
    bool_cases (eqb b 45) _ (λ e. clash (rw (eqb-true b 45 e) at h) refl) (λ e. plain-well b bs e ∙ h)

pub ident-goes : (w : List ℕ) → Goes ident_of (take (ident_stop w) w)
ident-goes [] = record { rest = 48 ∷ []; good = refl }
ident-goes (b ∷ bs) = by (eqb b 45) refl
  where
    by : (t : Bool) → eqb b 45 ≡ t → Goes ident_of (take (cond t (suc (minus_stop bs)) (count_stop (b ∷ bs))) (b ∷ bs))
    by true e =
        let g = minus-goes bs in
        record { rest = g.rest; good = ap well_formed (ident-is b (take (minus_stop bs) bs ++ g.rest) true e) ∙ g.good }
    by false e =
        let g = count-goes (b ∷ bs) in
        record { rest = g.rest; good = count-ident (take (count_stop (b ∷ bs)) (b ∷ bs) ++ g.rest) g.good }

-- ---- with the byte there none can
-- behind digits, with a byte that is none
pub run-breaks : (bs t : List ℕ) → run_len bs < length bs → each is_digit (take (suc (run_len bs)) bs ++ t) ≡ false
run-breaks bs t h =
    let n : ℕ = run_len bs in
    let u : List ℕ = take (suc n) bs in
    let l : length u ≡ suc n = length-take-le (suc n) bs h in
    each-fail is_digit 0 (u ++ t) n (omega (arith, length-append u t))
    (ap is_digit (get_or-append u t 0 n (omega arith) ∙ get_or-take (suc n) bs n 0 (omega arith)) ∙ run-here bs)

zero-breaks : (b : ℕ) (bs t : List ℕ) → eqb b 48 ≡ true → 1 < suc (length bs) → well_formed (count_of (b ∷ (take 1 bs ++ t))) ≡ false
zero-breaks b [] t e h = absurd (omega arith)
zero-breaks b (x ∷ bs) t e h = rw e

count-breaks : (w t : List ℕ) → count_stop w < length w → well_formed (count_of (take (suc (count_stop w)) w ++ t)) ≡ false
count-breaks [] t h = absurd (omega arith)
count-breaks (b ∷ bs) t h = by (eqb b 48) (within 49 57 b) refl refl h
  where
    by : (p q : Bool) → eqb b 48 ≡ p → within 49 57 b ≡ q → cond p 1 (cond q (suc (run_len bs)) 0) < suc (length bs)
        → well_formed (count_of (take (suc (cond p 1 (cond q (suc (run_len bs)) 0))) (b ∷ bs) ++ t)) ≡ false
    by true q e f h = zero-breaks b bs t e h
    by false true e f h = rw (e, f, run-breaks bs t (omega arith))
    by false false e f h = rw (e, f)

minus-breaks : (w t : List ℕ) → minus_stop w < length w → well_formed (after_minus (take (suc (minus_stop w)) w ++ t)) ≡ false
minus-breaks [] t h = absurd (omega arith)
minus-breaks (b ∷ bs) t h = by (eqb b 48) refl h
  where
    by : (p : Bool) → eqb b 48 ≡ p → cond p 0 (count_stop (b ∷ bs)) < suc (length bs)
        → well_formed (after_minus (take (suc (cond p 0 (count_stop (b ∷ bs)))) (b ∷ bs) ++ t)) ≡ false
    by true e h = rw e
    by false e h = minus-well b (take (count_stop (b ∷ bs)) bs ++ t) e ∙ count-breaks (b ∷ bs) t h

pub ident-breaks : (w t : List ℕ) → ident_stop w < length w → well_formed (ident_of (take (suc (ident_stop w)) w ++ t)) ≡ false
ident-breaks [] t h = absurd (omega arith)
ident-breaks (b ∷ bs) t h = by (eqb b 45) refl h
  where
    by : (p : Bool) → eqb b 45 ≡ p → cond p (suc (minus_stop bs)) (count_stop (b ∷ bs)) < suc (length bs)
        → well_formed (ident_of (take (suc (cond p (suc (minus_stop bs)) (count_stop (b ∷ bs)))) (b ∷ bs) ++ t)) ≡ false
    by true e h = ap well_formed (ident-is b (take (suc (minus_stop bs)) bs ++ t) true e) ∙ minus-breaks bs t (omega arith)
    by false e h = plain-well b (take (count_stop (b ∷ bs)) bs ++ t) e ∙ count-breaks (b ∷ bs) t h

-- ---- the scanner stops there
-- what stands at a place, by the bytes from there on
head_at : (s : List ℕ) (at b : ℕ) (bs : List ℕ) → drop at s ≡ b ∷ bs → (at < length s) × (get_or s at 0 ≡ b)
head_at s at b bs e = (
  omega (arith, length-drop at s, ap length e),
  ap (λ (k : ℕ). get_or s k 0) (sym (add-zero at)) ∙ sym (get_or-drop at s 0 0) ∙ ap (λ (l : List ℕ). get_or l 0 0) e,
)

past-at : (s : List ℕ) (at : ℕ) → drop at s ≡ [] → length s ≤ at
past-at s at e = omega (arith, length-drop at s, ap length e)

pub count_next : (s : List ℕ) (at : ℕ) → (count_at s at).next ≡ at + count_stop (drop at s)
unfolding count_at within
count_next s at = by (drop at s) refl
  where
    by : (l : List ℕ) → drop at s ≡ l → (count_at s at).next ≡ at + count_stop l
    by [] e =
        let h = past-at s at e in
        rw (← has-past s at 48 h, nothing-past s at h) (sym (add-zero at))
    by (b ∷ bs) e =
        let h = head_at s at b bs e in
        rw (count_by s at b h.0 h.1, e) (go (run_val 0 (b ∷ bs)) (eqb b 48) (within 49 57 b) refl)
      where
        go : (n : ℕ) (p q : Bool) → within 49 57 b ≡ q
            → (cond p (scanned {A = ℕ} (value 0) (at + 1)) (cond q (scanned (value n) (at + run_len (b ∷ bs))) (scanned malformed at))).next
            ≡ at + cond p 1 (cond q (suc (run_len bs)) 0)
        go n true q w = refl
        go n false true w = omega (arith, len-digit b bs (first-digit b w))
        go n false false w = sym (add-zero at)

-- what the scanner says after a `-`
abbrev minus_at : List ℕ → ℕ → Scanned ℤ
minus_at s at = cond (has_at s at 48) (scanned malformed at) (signed_at true (count_at s at))

minus-next : (s : List ℕ) (at : ℕ) → (minus_at s at).next ≡ at + minus_stop (drop at s)
minus-next s at = by (drop at s) refl
  where
    by : (l : List ℕ) → drop at s ≡ l → (minus_at s at).next ≡ at + minus_stop l
    by [] e = rw (← has-past s at 48 (past-at s at e)) (count_next s at ∙ ap (λ (l : List ℕ). at + count_stop l) e)
    by (b ∷ bs) e = let h = head_at s at b bs e in rw (← has-yes s at 48 h.0, h.1) (go (eqb b 48))
      where
        go : (t : Bool) → (cond t (scanned malformed at) (signed_at true (count_at s at))).next ≡ at + cond t 0 (count_stop (b ∷ bs))
        go true = sym (add-zero at)
        go false = count_next s at ∙ ap (λ (l : List ℕ). at + count_stop l) e

pub ident-next : (s : List ℕ) (at : ℕ) → (ident_at s at).next ≡ at + ident_stop (drop at s)
unfolding ident_at
ident-next s at = by (drop at s) refl
  where
    by : (l : List ℕ) → drop at s ≡ l → (ident_at s at).next ≡ at + ident_stop l
    by [] e = rw (← has-past s at 45 (past-at s at e)) (count_next s at ∙ ap (λ (l : List ℕ). at + count_stop l) e)
    by (b ∷ bs) e = let h = head_at s at b bs e in rw (← has-yes s at 45 h.0, h.1) (go (eqb b 45))
      where
        go : (t : Bool) → (cond t (minus_at s (at + 1)) (signed_at false (count_at s at))).next
            ≡ at + cond t (suc (minus_stop bs)) (count_stop (b ∷ bs))
        go true =
            minus-next s (at + 1) ∙ ap (λ (l : List ℕ). at + 1 + minus_stop l) (sym (drop-drop 1 at s) ∙ ap (drop 1) e) ∙ omega arith
        go false = count_next s at ∙ ap (λ (l : List ℕ). at + count_stop l) e

-- ---- what stands behind a byte of no identifier does not matter
module _ (c : ℕ) (d : is_digit c ≡ false) (r : List ℕ) where
  run-cut : (bs : List ℕ) → run_len (bs ++ c ∷ r) ≡ run_len bs
  run-cut [] = len-stop c r d
  run-cut (b ∷ bs) =
      bool_cases (is_digit b) _
      (λ e. len-digit b (bs ++ c ∷ r) e ∙ ap (λ (n : ℕ). 1 + n) (run-cut bs) ∙ sym (len-digit b bs e))
      (λ e. len-stop b (bs ++ c ∷ r) e ∙ sym (len-stop b bs e))

  count_cut : (bs : List ℕ) → count_stop (bs ++ c ∷ r) ≡ count_stop bs
  count_cut [] = rw (no_zero c d, no-first c d)
  count_cut (b ∷ bs) = rw (run-cut bs)

  minus-cut : (bs : List ℕ) → minus_stop (bs ++ c ∷ r) ≡ minus_stop bs
  minus-cut [] = rw (no_zero c d, no-first c d)
  minus-cut (b ∷ bs) = rw (count_cut (b ∷ bs))

  ident-cut : eqb c 45 ≡ false → (bs : List ℕ) → ident_stop (bs ++ c ∷ r) ≡ ident_stop bs
  ident-cut m [] = rw m (count_cut [])
  ident-cut m (b ∷ bs) = rw (minus-cut bs, count_cut (b ∷ bs))

pub ident-up_to : (c : ℕ) → is_digit c ≡ false → eqb c 45 ≡ false → (l : List ℕ) → ident_stop (up_to c l) ≡ ident_stop l
ident-up_to c d m l =
    bool_cases (mem c l) (ident_stop (up_to c l) ≡ ident_stop l)
    (λ e. sym (ap ident_stop (cut_at c l e) ∙ ident-cut c d (past c l) m (up_to c l))) (λ e. ap ident_stop (up_to-all c l e))
