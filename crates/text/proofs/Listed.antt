-- Laws of the edge lines of a file that has weights or has none: where they break off, what their numbers are, and how the first line says
-- which it is. Assumes nothing.
use Prim.Native.Nat.{ℕ, suc, ◌+◌, ◌^◌, ◌≤◌, ◌<◌}
use mathlib.Core.Path.{◌≡◌, refl, sym, ap, ◌∙◌}
use mathlib.Core.List.{List, ◌++◌}
use mathlib.Core.Bool.{Bool, true, false, cond}
use native.Mathlib.Omega.{arith}
use lib.Dec.{leb, eqb}
use lib.IntN.{ℤ}
use lib.Signed.{mag}
use lib.ListN.{length, take, drop}
use Rattle.basis.specs.Limits.{most_weight}
use Rattle.basis.specs.Refusal.{bad_form}
use Rattle.basis.specs.Scan.{mem}
use Rattle.text.specs.Bytes.{lf}
use Rattle.text.specs.Word.{Word, malformed, outside, value, well_formed, ident_of}
use Rattle.text.specs.Weight.{millionths_of, carried, weight_of}
use Rattle.text.specs.Line.{LineSaid, line, none, fault, up_to, column_in, line_says, line_by, pair_form, edge_form, edge_line}
use Rattle.text.specs.Weighed.{weight_form, unweighed, plain_form, edge_form_by, listed_line}
use Rattle.text.specs.Weighed.{is_bad_form, has_weights}
use Rattle.text.specs.declared.line.Cursor.{Cursor}
use Rattle.text.specs.declared.line.Fault.{Fault}
use Rattle.text.proofs.Breaks.{RightStop, pair-right, edge-right}
use Rattle.text.proofs.Weights.{weight-right}
use Rattle.text.proofs.Places.{Has, Small, Pairs, ident-small, line-has, two-has}

-- ---- where a line of either kind of file breaks off
unweighed-well : (w : Word (ℤ × ℤ)) → well_formed (unweighed w) ≡ well_formed w
unweighed-well malformed = refl
unweighed-well outside = refl
unweighed-well (value e) = refl

pub plain-well : (w : List ℕ) → well_formed (plain_form.word w) ≡ well_formed (edge_form.word w)
plain-well w = unweighed-well (edge_form.word w)

plain-right : RightStop plain_form
plain-right =
    record {
      short = edge-right.short;
      goes =
          λ w. let g = edge-right.goes w in
          record { rest = g.rest; good = plain-well (take (plain_form.stop w) w ++ g.rest) ∙ g.good };
      breaks = λ w t h. plain-well (take (suc (plain_form.stop w)) w ++ t) ∙ edge-right.breaks w t h;
      unbroken = λ w h. plain-well w ∙ edge-right.unbroken w h;
      unended = λ w h. plain-well w ∙ edge-right.unended w h;
    }

pub listed-right : (weighted : Bool) → RightStop (edge_form_by weighted)
listed-right true = pair-right (pair_form weight_form) (pair-right weight_form weight-right)
listed-right false = plain-right

-- ---- a line without a weight
-- an edge line with the weight 0
abbrev pub weightless : LineSaid (ℤ × ℤ) → LineSaid (ℤ × (ℤ × ℕ))
weightless (line e next) = line (e.0, (e.1, 0)) next
weightless (none p) = none p
weightless (fault n c p) = fault n c p

pub plain-line : (s : List ℕ) (at : ℕ) → listed_line false s at ≡ weightless (edge_line s at)
unfolding line_by
plain-line s at = by (leb (length s) at) (mem lf (drop at s)) (edge_form.word (up_to lf (drop at s)))
  where
    next : ℕ
    next = at + length (up_to lf (drop at s)) + 1

    column : ℕ
    column = column_in edge_form s at

    by : (t u : Bool) (w : Word (ℤ × ℤ))
        → cond t (none at) (cond u (line_says at next column (unweighed w)) (fault bad_form column at))
        ≡ weightless (cond t (none at) (cond u (line_says at next column w) (fault bad_form column at)))
    by true u w = refl
    by false false w = refl
    by false true malformed = refl
    by false true outside = refl
    by false true (value e) = refl

-- the code's ways out
module _ (s : List ℕ) (at : ℕ) (weighted : Bool) where
  module _ (h : weighted ≡ false) (k : Cursor) where
    listed-is : (x : LineSaid (ℤ × ℤ)) → x ≡ edge_line s at → weightless x ≡ listed_line weighted s at
    listed-is x e = rw h (ap weightless e ∙ sym (plain-line s at))

    pub listed-end : none k.at ≡ edge_line s at → none k.at ≡ listed_line weighted s at
    listed-end e = listed-is (none k.at) e

    pub listed-fault : (f : Fault) → fault f.number f.column k.at ≡ edge_line s at
        → fault f.number f.column k.at ≡ listed_line weighted s at
    listed-fault f e = listed-is (fault f.number f.column k.at) e

    pub listed-line : (x : ℤ × ℤ) → line x k.at ≡ edge_line s at → line (x.0, (x.1, 0)) k.at ≡ listed_line weighted s at
    listed-line x e = listed-is (line x k.at) e

-- ---- the first line
module _ (s : List ℕ) (k : Cursor) where
  first-is : (x : LineSaid (ℤ × ℤ)) → x ≡ edge_line s 0 → is_bad_form x ≡ has_weights s
  unfolding has_weights
  first-is x e = ap is_bad_form e

  pub first-end : none k.at ≡ edge_line s 0 → false ≡ has_weights s
  first-end e = first-is (none k.at) e

  pub first-fault : (f : Fault) → fault f.number f.column k.at ≡ edge_line s 0 → eqb f.number 2 ≡ has_weights s
  first-fault f e = first-is (fault f.number f.column k.at) e

  pub first-line : (x : ℤ × ℤ) → line x k.at ≡ edge_line s 0 → false ≡ has_weights s
  first-line x e = first-is (line x k.at) e

-- ---- the numbers that are read
Light : ℕ → Type 0
Light n = n ≤ most_weight + 1

weight-light : (bs : List ℕ) → Has Light (weight_of bs)
unfolding weight_of Light
weight-light bs = by (millionths_of bs)
  where
    by : (w : Word ℕ) → Has Light (carried w)
    by malformed = tt
    by outside = tt
    by (value n) = omega arith

unweighed-has : (w : Word (ℤ × ℤ)) → Has (Pairs Small Small) w → Has (Pairs Small (Pairs Small Light)) (unweighed w)
unfolding Light
unweighed-has malformed h = tt
unweighed-has outside h = tt
unweighed-has (value e) h = (h.0, (h.1, omega arith))

listed_has : (weighted : Bool) (bs : List ℕ) → Has (Pairs Small (Pairs Small Light)) ((edge_form_by weighted).word bs)
listed_has true bs = two-has (Pairs Small Light) (pair_form weight_form).word (two-has Light weight_of weight-light) bs
listed_has false bs = unweighed-has (edge_form.word bs) (two-has Small (λ w. ident_of w) ident-small bs)

pub listed-range : (weighted : Bool) (s : List ℕ) (at : ℕ) (u v : ℤ) (w q : ℕ) → listed_line weighted s at ≡ line (u, (v, w)) q
    → (mag u < 2 ^ 63) × ((mag v < 2 ^ 63) × (w ≤ most_weight + 1))
unfolding Light
listed-range weighted s at u v w q e =
    rw e at (line-has (Pairs Small (Pairs Small Light)) (edge_form_by weighted) s at (listed_has weighted))
