-- Laws of a sheet's lines: their numbers, and a line by what is scanned of it. Assumes nothing.
use Rattle.std.proofs.Common.{count_by, min}
use Rattle.std.proofs.lemmas.List.Recursion.{is_count_by}
use Rattle.std.proofs.lemmas.List.{take_min}
use Prim.Native.Nat.{ℕ, ◌+◌, ◌≤◌}
use mathlib.Core.Path.{◌≡◌, refl, sym, ap, ◌∙◌}
use mathlib.Core.Bool.{true, false}
use mathlib.Core.List.{List, [], ◌∷◌, ◌++◌}
use native.Mathlib.Omega.{arith}
use borrow.Author.Tests.{leb-true, leb-false}
use lib.Dec.{leb, eqb}
use lib.ListN.{length, take, drop, drop_of_length-le}
use Rattle.basis.specs.Scan.{mem}
use Rattle.basis.proofs.Tests.{bool_cases, clash}
use Rattle.text.specs.Word.{Word, malformed, outside, value}
use Rattle.text.specs.Bytes.{lf}
use Rattle.text.specs.Line.{column_in, line_says}
use Rattle.text.specs.Scan.{Scanned, scanned, column_at, line_of}
use Rattle.text.proofs.Words.{Reads}
use Rattle.text.proofs.Lines.{line-end, line_reads}
use Rattle.plan.specs.Lines.{lfs, line_number, in_sheet, word_alone, sheet_line, begins}
use Rattle.plan.proofs.Words.{begins-word, begins-ended, is_word_lem}

-- ---- the LFs of a sheet's bytes, counted
lfs-counted : (l : List ℕ) → lfs l ≡ count_by (λ b. eqb b lf) l
unfolding lfs
lfs-counted = is_count_by lfs (λ b. eqb b lf) refl (λ b l. bool_cases (eqb b lf) _ (λ e. rw (lfs, e) (omega arith)) (λ e. rw (lfs, e)))

pub number-counted : (s : List ℕ) (at k n : ℕ) → k ≡ min at (length s) → n ≡ count_by (λ b. eqb b 10) (take k s)
    → 1 + n ≡ line_number s at
number-counted s at k n e u =
    ap (λ n. 1 + n)
    (u ∙ ap (λ k. count_by (λ b. eqb b 10) (take k s)) e ∙ ap (count_by (λ b. eqb b 10)) (take_min at s)
    ∙ sym (lfs-counted (take at s)))

-- ---- a line by what is scanned of it, whatever its column; a missing line is as one that is malformed
no-column : {A : Type 0} (s : List ℕ) (at next c d : ℕ) (w : Word A) → in_sheet s (line_says at next c w)
    ≡ in_sheet s (line_says at next d w)
no-column s at next c d malformed = refl
no-column s at next c d outside = refl
no-column s at next c d (value v) = refl

pub line-said : {A : Type 0} (word : List ℕ → Word A) (s : List ℕ) (at : ℕ) (x : Scanned A) → Reads lf word s at x
    → in_sheet s (line_of at x) ≡ sheet_line word s at
unfolding sheet_line mem
line-said word s at x r =
    bool_cases (leb (length s) at) _
    (λ e. let h : length s ≤ at = leb-true (length s) at e in
    let m : x.said ≡ malformed = r.unended (ap (mem lf) (drop_of_length-le s h)) in
    ap (λ w. in_sheet s (line_says at x.next (column_at at x.next) w)) m ∙ ap (in_sheet s) (line-end (word_alone word) s at h))
    (λ e. no-column s at x.next (column_at at x.next) (column_in (word_alone word) s at) x.said
    ∙ ap (in_sheet s) (line_reads (word_alone word) s at x (column_in (word_alone word) s at) (leb-false (length s) at e) r (λ _. refl)))

-- ---- what stands before the LF of the line at a place
abbrev pub Line : List ℕ → ℕ → List ℕ → List ℕ → Type 0
Line s at bs r = (drop at s ≡ bs ++ lf ∷ r) × (mem lf bs ≡ false)

module _ {A : Type 0} (word : List ℕ → Word A) (s : List ℕ) (at : ℕ) where
  -- a line that is a word
  pub word-reads : (w : List ℕ) (v : A) (next : ℕ) → mem lf w ≡ false → begins (w ++ (lf ∷ [])) (drop at s) ≡ true
      → next ≡ at + length w + 1
      → ((bs r : List ℕ) → Line s at bs r → word bs ≡ value v) → Reads lf word s at (scanned (value v) next)
  word-reads w v next m h n f =
      record {
        ended = λ bs r e k.
            let q : bs ≡ w = is_word_lem w bs (sym (begins-word lf w bs r m k) ∙ rw e at h) in
            record { said = sym (f bs r (e, k)); next = λ _. omega (arith, n, ap length q) };
        unended = λ k. clash (begins-ended lf w (drop at s) h) k;
      }

  -- a line that is malformed
  pub none_reads : (next : ℕ) → ((bs r : List ℕ) → Line s at bs r → word bs ≡ malformed) → Reads lf word s at (scanned malformed next)
  none_reads next f =
      record {
        ended = λ bs r e k. record { said = sym (f bs r (e, k)); next = λ g. clash (rw (f bs r (e, k)) at g) refl };
        unended = λ k. refl;
      }
