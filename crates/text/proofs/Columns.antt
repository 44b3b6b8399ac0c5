-- The column of a refused line, said of good lines as byte strings: a reader's column is the first at which no good line could go on, and a
-- line has only one. Assumes nothing.
use Prim.Native.Nat.{ℕ, suc, ◌+◌, ◌-◌, ◌≤◌, ◌<◌}
use mathlib.Core.Path.{◌≡◌, refl, sym, ap, subst, ◌∙◌}
use mathlib.Core.Logic.{◌↔◌, ◌⊎◌, inl, inr, ⊎_elim}
use mathlib.Core.Bool.{Bool, true, false, cond}
use mathlib.Core.List.{List, [], ◌∷◌, ◌++◌, append_assoc, append-nil}
use native.Mathlib.Omega.{arith}
use native.Mathlib.Nat.{eq-or-lt_of_le}
use borrow.Author.Tests.{ltb-true, ltb-false, lt-leb, leb-false}
use lib.Dec.{leb, ltb}
use lib.ListN.{length, take, drop, length-append, take-append-drop}
use lib.Seq.{take-take, take-append-le, take_all}
use Rattle.basis.specs.Refusal.{bad_form}
use Rattle.basis.specs.Scan.{each, mem}
use Rattle.basis.proofs.Tests.{clash, no-case, false_of, bool_cases}
use Rattle.basis.proofs.Scans.{mem-head}
use Rattle.text.specs.Bytes.{lf}
use Rattle.text.specs.Word.{Word, malformed, outside, value, well_formed, within, ident_of}
use Rattle.text.specs.Grammar.{nought, no_point}
use Rattle.text.specs.Line.{none, fault, up_to, Form, column_in, line_says, line_by, two_of, ident_form, pair_form, edge_form, decimal_form}
use Rattle.text.specs.Line.{edge_line}
use Rattle.text.specs.Weight.{IsWeight}
use Rattle.text.specs.Weighed.{weight_form, weighed_form, plain_form, weighed_line, listed_line, is_bad_form, has_weights}
use Rattle.text.specs.Column.{PlainEdge, WeighedEdge, EdgeBy, AnyEdge, FirstLine}
use Rattle.text.specs.Column.{Formed, IsDecimal, IsDistanceWord, TwoWords, GoodLine, CanGoOn, file_end, whole_line, Column}
use Rattle.text.specs.Column.{TellsColumn, Columns, WeighedColumns}
use Rattle.text.specs.Distance.{distance_form}
use Rattle.text.proofs.Bytes.{up_to-none, mem-left, mem-cut, not-tail}
use Rattle.text.proofs.Breaks.{RightStop, ident-right, decimal-formed, decimal-right, two-words, words-two, pair-right, edge-right}
use Rattle.text.proofs.Weights.{weight-right, weight-formed}
use Rattle.text.proofs.Listed.{plain-well, listed-right}
use Rattle.text.proofs.Distances.{distance-formed, distance-right}

-- ---- fewer bytes go on where more do, so a line has one column
module _ (Right : List ℕ → Type 0) where
  front_goes : (a b : List ℕ) → CanGoOn Right (a ++ b) → CanGoOn Right a
  front_goes a b g = record { rest = b ++ g.rest; good = subst (GoodLine Right) (append_assoc a b g.rest) g.good }

  fewer-go : (l : List ℕ) (c d : ℕ) → c ≤ d → CanGoOn Right (take d l) → CanGoOn Right (take c l)
  fewer-go l c d h g =
      let e : take d l ≡ take c l ++ drop c (take d l) =
      sym (take-append-drop c (take d l)) ∙ ap (λ (a : List ℕ). a ++ drop c (take d l)) (take-take c d l h) in
      front_goes (take c l) (drop c (take d l)) (subst (CanGoOn Right) e g)

  pub column-one : (l : List ℕ) (c d : ℕ) → Column Right l c → Column Right l d → c ≡ d
  column-one l c d x y =
      bool_cases (ltb c d) (c ≡ d) (λ e. absurd (x.stops (fewer-go l c (d - 1) (let h = ltb-true c d e in omega arith) y.before)))
      (λ e. bool_cases (ltb d c) (c ≡ d)
      (λ f. absurd (y.stops (fewer-go l d (c - 1) (let h = ltb-true d c f in omega arith) x.before)))
      (λ f. let h = ltb-false c d e in let k = ltb-false d c f in omega arith))

  -- a good line has no column
  good_none : (l : List ℕ) (c : ℕ) → GoodLine Right l → Column Right l c → ⊥
  good_none l c g x = x.stops (record { rest = drop c l; good = rw (take-append-drop c l) g })

-- another way to say which bytes have the right form
module _ (P Q : List ℕ → Type 0) (f : (w : List ℕ) → P w → Q w) where
  goes-as : (u : List ℕ) → CanGoOn P u → CanGoOn Q u
  goes-as u g =
      record {
        rest = g.rest;
        good = record { bytes = g.good.bytes; ended = g.good.ended; formed = f g.good.bytes g.good.formed };
      }

column-as : (P Q : List ℕ → Type 0) → ((w : List ℕ) → P w ↔ Q w) → (l : List ℕ) (c : ℕ) → Column P l c → Column Q l c
column-as P Q f l c x =
    record {
      before = goes-as P Q (λ w. (f w).0) (take (c - 1) l) x.before;
      stops = λ g. x.stops (goes-as Q P (λ w. (f w).1) (take c l) g);
    }

-- ---- a good line that begins with bytes without LF: its own bytes begin with them
record Begun (u r b : List ℕ) : Type 0 where
  more : List ℕ
  begins : b ≡ u ++ more
  ends : r ≡ more ++ lf ∷ []

begun : (u r b : List ℕ) → mem lf u ≡ false → u ++ r ≡ b ++ lf ∷ [] → Begun u r b
begun [] r b n e = record { more = b; begins = refl; ends = e }
begun (x ∷ u) r [] n e = let q : x ≡ lf = cc in clash (mem-head lf u) (ap (λ (y : ℕ). mem lf (y ∷ u)) (sym q) ∙ n)
begun (x ∷ u) r (y ∷ b) n e =
    let g = begun u r b (not-tail lf x u n) (cc) in
    let q : y ≡ x = cc in
    record { more = g.more; begins = ap (λ (z : ℕ). z ∷ b) q ∙ ap (λ (l : List ℕ). x ∷ l) g.begins; ends = g.ends }

-- ---- where a form's bytes break off is the line's column
module _ {A : Type 0} (form : Form A) (R : RightStop form) (s : List ℕ) where
  abbrev here : List ℕ
  here = up_to lf s

  abbrev k : ℕ
  k = form.stop here

  abbrev last : ℕ
  last = cond (mem lf s) lf file_end

  goes_before : CanGoOn (Formed form.word) (take (k + 1 - 1) (whole_line s))
  goes_before =
      let q : k + 1 - 1 ≡ k = omega arith in
      let d : take (k + 1 - 1) (whole_line s) ≡ take k here =
      ap (λ (n : ℕ). take n (whole_line s)) q ∙ take-append-le k here (last ∷ []) (R.short here) in
      let g = R.goes here in
      record {
        rest = g.rest ++ lf ∷ [];
        good = record {
          bytes = take k here ++ g.rest;
          ended = ap (λ (l : List ℕ). l ++ (g.rest ++ lf ∷ [])) d ∙ sym (append_assoc (take k here) g.rest (lf ∷ []));
          formed = g.good;
        };
      }

  -- a byte inside the line
  stops-inside : k < length here → CanGoOn (Formed form.word) (take (k + 1) (whole_line s)) → ⊥
  stops-inside h g =
      let q : k + 1 ≡ suc k = omega arith in
      let u : List ℕ = take (suc k) here in
      let d : take (k + 1) (whole_line s) ≡ u = ap (λ (n : ℕ). take n (whole_line s)) q ∙ take-append-le (suc k) here (last ∷ []) h in
      let n : mem lf u ≡ false = mem-left lf u (drop (suc k) here) (rw (take-append-drop (suc k) here) (up_to-none lf s)) in
      let b = begun u g.rest g.good.bytes n (ap (λ (l : List ℕ). l ++ g.rest) (sym d) ∙ g.good.ended) in
      clash (ap (λ (l : List ℕ). well_formed (form.word l)) (sym b.begins) ∙ g.good.formed) (R.breaks here b.more h)

  -- the LF, or the end of the file
  stops-last : (mem lf s ≡ true → well_formed (form.word here) ≡ false) → k ≡ length here
      → CanGoOn (Formed form.word) (take (k + 1) (whole_line s)) → ⊥
  stops-last bad e g =
      let d : take (k + 1) (whole_line s)
      ≡ whole_line s = take_all (k + 1) (whole_line s) (omega (arith, length-append here (last ∷ []))) in
      let b = begun here (last ∷ g.rest) g.good.bytes (up_to-none lf s)
      (sym (append_assoc here (last ∷ []) g.rest) ∙ ap (λ (l : List ℕ). l ++ g.rest) (sym d) ∙ g.good.ended) in
      by (mem lf s) refl b.more b.begins b.ends
    where
      well : (l : List ℕ) → g.good.bytes ≡ l → well_formed (form.word l) ≡ true
      well l q = ap (λ (m : List ℕ). well_formed (form.word m)) (sym q) ∙ g.good.formed

      by : (t : Bool) → mem lf s ≡ t → (m : List ℕ) → g.good.bytes ≡ here ++ m → cond t lf file_end ∷ g.rest ≡ m ++ lf ∷ [] → ⊥
      by true h [] q f = clash (well here (q ∙ append-nil here)) (bad h)
      by true h (x ∷ m) q f =
          let y : lf ≡ x = cc in clash (well (here ++ x ∷ m) q) (R.unbroken (here ++ x ∷ m) (rw (← y) (mem-cut lf here m)))
      by false h [] q f = no-case (let y : file_end ≡ lf = cc in omega arith)
      by false h (x ∷ m) q f =
          let y : file_end ≡ x = cc in clash (well (here ++ x ∷ m) q) (R.unended (here ++ x ∷ m) (rw (← y) (mem-cut file_end here m)))

  pub column-right : (mem lf s ≡ true → well_formed (form.word here) ≡ false) → Column (Formed form.word) (whole_line s) (k + 1)
  column-right bad =
      record { before = goes_before; stops = ⊎_elim (λ e. stops-last bad e) stops-inside (eq-or-lt_of_le (R.short here)) }

  -- a line that has a column is not good
  pub column-bad : (c : ℕ) → Column (Formed form.word) (whole_line s) c → mem lf s ≡ true → well_formed (form.word here) ≡ false
  column-bad c x m =
      false_of (well_formed (form.word here))
      (λ w. good_none (Formed form.word) (whole_line s) c (record { bytes = here; ended = rw m; formed = w }) x)

  pub column-is : (c : ℕ) → Column (Formed form.word) (whole_line s) c → c ≡ k + 1
  column-is c x = column-one (Formed form.word) (whole_line s) c (k + 1) x (column-right (column-bad c x))

-- ---- a reader tells the column
module _ {A : Type 0} (form : Form A) (R : RightStop form) where
  tells-column : (s : List ℕ) (at c : ℕ) → (line_by form s at ≡ fault bad_form c at)
      ↔ ((at < length s) × Column (Formed form.word) (whole_line (drop at s)) c)
  unfolding line_by
  tells-column s at c = (to (leb (length s) at) refl (mem lf (drop at s)) refl, from)
    where
      rest : List ℕ
      rest = drop at s

      says : (w : Word A) → (mem lf rest ≡ true → well_formed w ≡ false) → (t : Bool) → mem lf rest ≡ t
          → cond t (line_says at (at + length (up_to lf rest) + 1) (column_in form s at) w) (fault bad_form (column_in form s at) at)
          ≡ fault bad_form (column_in form s at) at
      says w h false e = refl
      says malformed h true e = refl
      says outside h true e = clash refl (h e)
      says (value v) h true e = clash refl (h e)

      from : (at < length s) × Column (Formed form.word) (whole_line rest) c → line_by form s at ≡ fault bad_form c at
      from x =
          rw (lt-leb (length s) at x.0)
          (says (form.word (up_to lf rest)) (column-bad form R rest c x.1) (mem lf rest) refl
          ∙ ap (λ (n : ℕ). fault bad_form n at) (sym (column-is form R rest c x.1)))

      bad-said : (next : ℕ) (w : Word A) → line_says at next (column_in form s at) w ≡ fault bad_form c at
          → (well_formed w ≡ false) × (column_in form s at ≡ c)
      bad-said next malformed e = (refl, (cc))
      bad-said next outside e = no-case cc
      bad-said next (value v) e = no-case cc

      to : (t : Bool) → leb (length s) at ≡ t → (u : Bool) → mem lf rest ≡ u
          → cond t (none at) (cond u (line_says at (at + length (up_to lf rest) + 1) (column_in form s at) (form.word (up_to lf rest)))
          (fault bad_form (column_in form s at) at))
          ≡ fault bad_form c at
          → (at < length s) × Column (Formed form.word) (whole_line rest) c
      to true e u f h = no-case cc
      to false e true f h =
          let b = bad-said (at + length (up_to lf rest) + 1) (form.word (up_to lf rest)) h in
          (leb-false (length s) at e, rw (← b.1) (column-right form R rest (λ _. b.0)))
      to false e false f h =
          let q : column_in form s at ≡ c = cc in
          (leb-false (length s) at e, rw (← q) (column-right form R rest (λ m. clash m f)))

  -- for any way to say which bytes have the right form
  tells : (Right : List ℕ → Type 0) → ((w : List ℕ) → Formed form.word w ↔ Right w) → TellsColumn Right (line_by form)
  tells Right f =
      record {
        tells = λ s at c.
            let back : (w : List ℕ) → Right w ↔ Formed form.word w = λ w. ((f w).1, (f w).0) in
            let t = tells-column s at c in (
              λ e. ((t.0 e).0, column-as (Formed form.word) Right f (whole_line (drop at s)) c (t.0 e).1),
              λ x. t.1 (x.0, column-as Right (Formed form.word) back (whole_line (drop at s)) c x.1),
            );
        only = column-one Right;
      }

-- ---- the kinds of lines
two_formed : {A : Type 0} (form : Form A) (R : RightStop form) (Right : List ℕ → Type 0) → ((w : List ℕ) → Formed form.word w ↔ Right w)
    → (w : List ℕ) → Formed (two_of ident_of form.word) w ↔ TwoWords (Formed ident_of) Right w
two_formed form R Right f w = (
  λ h. let x = two-words form R w h in
      record {
        first = x.first;
        second = x.second;
        between = x.between;
        first_formed = x.first_formed;
        second_formed = (f x.second).0 x.second_formed;
      },
  λ x. rw x.between (words-two form R x.first x.second x.first_formed ((f x.second).1 x.second_formed)),
)

same-form : {X : Type 0} → X ↔ X
same-form = (λ x. x, λ x. x)

-- ---- a first line that has neither form of an edge line
weighed-formed : (w : List ℕ) → Formed weighed_form.word w ↔ WeighedEdge w
weighed-formed =
    two_formed (pair_form weight_form) (pair-right weight_form weight-right) (TwoWords (Formed ident_of) IsWeight)
    (two_formed weight_form weight-right IsWeight weight-formed)

weighed-tells : TellsColumn WeighedEdge weighed_line
weighed-tells =
    tells weighed_form (pair-right (pair_form weight_form) (pair-right weight_form weight-right)) WeighedEdge weighed-formed

plain-formed : (w : List ℕ) → Formed edge_form.word w ↔ PlainEdge w
plain-formed = two_formed ident_form ident-right (Formed ident_of) (λ w. same-form)

edge-tells : TellsColumn PlainEdge edge_line
edge-tells = tells edge_form edge-right PlainEdge plain-formed

listed-tells : (weighted : Bool) → TellsColumn (EdgeBy weighted) (listed_line weighted)
listed-tells true = weighed-tells
listed-tells false =
    tells plain_form (listed-right false) PlainEdge
    (λ w. (λ h. (plain-formed w).0 (sym (plain-well w) ∙ h), λ x. plain-well w ∙ (plain-formed w).1 x))

-- a line of a form that is refused 2
bad-line : {A : Type 0} (form : Form A) (s : List ℕ) (at : ℕ) → is_bad_form (line_by form s at) ≡ true
    → line_by form s at ≡ fault bad_form (column_in form s at) at
unfolding line_by
bad-line {A} form s at = by (leb (length s) at) (mem lf (drop at s)) (form.word (up_to lf (drop at s)))
  where
    by : (t u : Bool) (w : Word A)
        → is_bad_form (cond t (none at) (cond u (line_says at (at + length (up_to lf (drop at s)) + 1) (column_in form s at) w)
        (fault bad_form (column_in form s at) at))) ≡ true
        → cond t (none at) (cond u (line_says at (at + length (up_to lf (drop at s)) + 1) (column_in form s at) w)
        (fault bad_form (column_in form s at) at)) ≡ fault bad_form (column_in form s at) at
    by true u w h = clash h refl
    by false false w h = refl
    by false true malformed h = refl
    by false true outside h = clash h refl
    by false true (value v) h = clash h refl

-- the weight `0`
weight-zero : IsWeight (48 ∷ [])
unfolding each within
weight-zero = (
  0,
  record {
    whole = nought;
    fraction = no_point;
    bytes = refl;
    leading = refl;
    wholes = refl;
    fractions = refl;
    few = omega arith;
    says = refl;
  },
)

-- what can go on to a line without a weight, and has no LF yet, can go on to one with a weight
weighed-on : (u : List ℕ) → mem lf u ≡ false → CanGoOn PlainEdge u → CanGoOn WeighedEdge u
weighed-on u n g =
    let b = begun u g.rest g.good.bytes n g.good.ended in
    let e = g.good.formed in
    let t : List ℕ = 32 ∷ 48 ∷ [] in
    record {
      rest = b.more ++ (t ++ lf ∷ []);
      good = record {
        bytes = u ++ (b.more ++ t);
        ended = ap (λ (l : List ℕ). u ++ l) (sym (append_assoc b.more t (lf ∷ []))) ∙ sym (append_assoc u (b.more ++ t) (lf ∷ []));
        formed = record {
          first = e.first;
          second = e.second ++ t;
          between = sym (append_assoc u b.more t) ∙ ap (λ (l : List ℕ). l ++ t) (sym b.begins ∙ e.between)
              ∙ append_assoc e.first (32 ∷ e.second) t;
          first_formed = e.first_formed;
          second_formed =
              record { first = e.second; second = 48 ∷ []; between = refl; first_formed = e.second_formed; second_formed = weight-zero };
        };
      };
    }

first-column : (s : List ℕ) (c : ℕ) → has_weights s ≡ true → weighed_line s 0 ≡ fault bad_form c 0 → Column AnyEdge (whole_line s) c
unfolding has_weights
first-column s c h e =
    record {
      before = goes-as WeighedEdge AnyEdge (λ w. inr) (take (c - 1) (whole_line s)) y.before;
      stops = λ g. by g g.good.formed;
    }
  where
    d : ℕ
    d = column_in edge_form s 0

    x : Column PlainEdge (whole_line s) d
    x = ((edge-tells.tells s 0 d).0 (bad-line edge_form s 0 h)).1

    y : Column WeighedEdge (whole_line s) c
    y = ((weighed-tells.tells s 0 c).0 e).1

    -- a line without a weight stops at d; before that it could have one
    plain : CanGoOn PlainEdge (take c (whole_line s)) → ⊥
    plain g =
        bool_cases (ltb c d) ⊥
        (λ t. let k : c ≤ edge_form.stop (up_to lf s) = let i = ltb-true c d t in omega arith in
        let l : c ≤ length (up_to lf s) = omega (arith, edge-right.short (up_to lf s)) in
        let q : take c (whole_line s) ≡ take c (up_to lf s) = take-append-le c (up_to lf s) (cond (mem lf s) lf file_end ∷ []) l in
        let n : mem lf (take c (up_to lf s)) ≡ false = mem-left lf (take c (up_to lf s)) (drop c (up_to lf s))
        (rw (take-append-drop c (up_to lf s)) (up_to-none lf s)) in
        y.stops (weighed-on (take c (whole_line s)) (ap (mem lf) q ∙ n) g))
        (λ t. x.stops (fewer-go PlainEdge (whole_line s) d c (ltb-false c d t) g))

    by : (g : CanGoOn AnyEdge (take c (whole_line s))) → PlainEdge g.good.bytes ⊎ WeighedEdge g.good.bytes → ⊥
    by g (inl f) = plain (record { rest = g.rest; good = record { bytes = g.good.bytes; ended = g.good.ended; formed = f } })
    by g (inr f) = y.stops (record { rest = g.rest; good = record { bytes = g.good.bytes; ended = g.good.ended; formed = f } })

-- a first line stands there and is no good line without a weight
first-which : (s : List ℕ) → (has_weights s ≡ true) ↔ ((0 < length s) × (GoodLine PlainEdge (whole_line s) → ⊥))
unfolding has_weights
first-which s = (
  λ h. let x = (edge-tells.tells s 0 (column_in edge_form s 0)).0 (bad-line edge_form s 0 h) in
      (x.0, λ g. good_none PlainEdge (whole_line s) (column_in edge_form s 0) g x.1),
  λ x. ap is_bad_form
      ((edge-tells.tells s 0 (column_in edge_form s 0)).1 (
        x.0,
        column-as (Formed edge_form.word) PlainEdge plain-formed (whole_line s) (column_in edge_form s 0)
            (column-right edge_form edge-right s (λ m. false_of (well_formed (edge_form.word (up_to lf s)))
            (λ w. x.1 (record { bytes = up_to lf s; ended = rw m; formed = (plain-formed (up_to lf s)).0 w })))),
      )),
)

pub first-lines : (s : List ℕ) → FirstLine s
first-lines s = record { which = first-which s; column = first-column s }

pub columns : Columns
columns =
    record {
      vertex = tells ident_form ident-right (Formed ident_of) (λ w. same-form);
      edge = edge-tells;
      claim = edge-tells;
      coefficient =
          tells (pair_form decimal_form) (pair-right decimal_form decimal-right) (TwoWords (Formed ident_of) IsDecimal)
          (two_formed decimal_form decimal-right IsDecimal decimal-formed);
    }

pub weighed_columns : WeighedColumns
weighed_columns =
    record {
      weighed = weighed-tells;
      listed = listed-tells;
      distance =
          tells (pair_form distance_form) (pair-right distance_form distance-right) (TwoWords (Formed ident_of) IsDistanceWord)
          (two_formed distance_form distance-right IsDistanceWord distance-formed);
    }
