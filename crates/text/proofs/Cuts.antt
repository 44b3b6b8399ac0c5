-- A line at a place by its bytes: what is read is a word without LF, and then an LF; and so such a word is read. Assumes nothing.
use Prim.Native.Nat.{ℕ, ◌+◌}
use mathlib.Core.Path.{◌≡◌, refl, sym, ap, ◌∙◌}
use mathlib.Core.Bool.{Bool, true, false, cond}
use mathlib.Core.List.{List, ◌∷◌, ◌++◌}
use native.Mathlib.Omega.{arith}
use borrow.Author.Tests.{lt-leb}
use lib.Dec.{leb}
use lib.ListN.{length, drop, length-append, length-drop}
use Rattle.basis.specs.Refusal.{bad_form}
use Rattle.basis.specs.Scan.{mem}
use Rattle.basis.proofs.Tests.{no-case}
use Rattle.text.specs.Word.{Word, malformed, outside, value}
use Rattle.text.specs.Bytes.{lf}
use Rattle.text.specs.Line.{Form, column_in, line, none, fault, up_to, past, line_says, line_by}
use Rattle.text.proofs.Bytes.{cut_at, up_to-none, mem-cut, up_to-cut, drop_past}

module _ {A : Type 0} (form : Form A) (s : List ℕ) (place : ℕ) where
  -- the line at the place is the word w, which says v; what stands at `next` follows its LF
  pub record Cut (v : A) (next : ℕ) : Type 0 where
    pub w : List ℕ
    pub cut : drop place s ≡ w ++ lf ∷ drop next s
    pub whole : mem lf w ≡ false
    pub says : form.word w ≡ value v
    pub on : next ≡ place + length w + 1

  says-line : (next c : ℕ) (x : Word A) (v : A) (k : ℕ) → line_says place next c x ≡ line v k → (x ≡ value v) × (next ≡ k)
  says-line next c malformed v k e = no-case cc
  says-line next c outside v k e = no-case cc
  says-line next c (value u) v k e = (cc, (cc))

  pub line-cut : (v : A) (next : ℕ) → line_by form s place ≡ line v next → Cut v next
  unfolding line_by
  line-cut v next e = go (leb (length s) place) (mem lf (drop place s)) refl e
    where
      go : (t u : Bool) → mem lf (drop place s) ≡ u
          → cond t (none place)
          (cond u
          (line_says place (place + length (up_to lf (drop place s)) + 1) (column_in form s place) (form.word (up_to lf (drop place s))))
          (fault bad_form (column_in form s place) place)) ≡ line v next → Cut v next
      go true u q h = no-case cc
      go false false q h = no-case cc
      go false true q h =
          let n = says-line (place + length (up_to lf (drop place s)) + 1) (column_in form s place) (form.word (up_to lf (drop place s)))
          v next h in
          let c = cut_at lf (drop place s) q in
          let d = drop_past s (up_to lf (drop place s)) (past lf (drop place s)) place lf c in
          record {
            w = up_to lf (drop place s);
            cut = c ∙ ap (λ (l : List ℕ). up_to lf (drop place s) ++ lf ∷ l) (sym d ∙ ap (λ (k : ℕ). drop k s) n.1);
            whole = up_to-none lf (drop place s);
            says = n.0;
            on = sym n.1;
          }

  pub cut_line : (w r : List ℕ) (v : A) → drop place s ≡ w ++ lf ∷ r → mem lf w ≡ false → form.word w ≡ value v
      → line_by form s place ≡ line v (place + length w + 1)
  unfolding line_by
  cut_line w r v e h g =
      let a = ap length e ∙ length-append w (lf ∷ r) in
      let b = length-drop place s in
      rw (lt-leb (length s) place (omega arith), e, mem-cut lf w r, up_to-cut lf w r h, g)
