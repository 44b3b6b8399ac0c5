-- Laws of the mode, of count lines and of the lines of a section, one for each answer of the code. Assumes nothing.
use Prim.Native.Nat.{ℕ, suc, ◌+◌, ◌-◌, ◌≤◌, ◌<◌}
use mathlib.Core.Path.{◌≡◌, refl, sym, ap, ◌∙◌}
use mathlib.Core.Bool.{Bool, true, false, cond}
use mathlib.Core.List.{List, [], ◌∷◌, ◌++◌}
use native.Mathlib.Omega.{arith}
use borrow.Author.Tests.{le-leb, lt-leb, leb-true, leb-false}
use lib.Dec.{leb, eqb}
use lib.ListN.{length, drop}
use lib.Seq.{get_or-append_seam}
use Rattle.basis.specs.Refusal.{Said, gives, refuses, too_many, bad_form, onward}
use Rattle.basis.specs.declared.refusal.Refusal.{Refusal}
use Rattle.basis.specs.Scan.{mem}
use Rattle.basis.proofs.Tests.{clash, bool_cases, failed, held, no-case}
use Rattle.basis.specs.Limits.{desk_edges}
use Rattle.text.specs.Word.{Word, malformed, outside, value, within, count_of}
use Rattle.text.specs.Bytes.{lf}
use Rattle.text.specs.Line.{up_to}
use Rattle.text.specs.Scan.{Scanned, scanned, has_at, cut_number, cut_word, count_at, saturated, closed, line_of}
use Rattle.text.proofs.Bytes.{up_to-cut}
use Rattle.text.proofs.Words.{word-has, no_end, count-reads}
use Rattle.plan.specs.Lines.{sheet_fault, in_sheet, begins}
use Rattle.plan.specs.Sheet.{directed_word, undirected_word, mode_of, mode_line, limited}
use Rattle.plan.specs.Sheet.{count_line, any_of, next_of, line_past, lines_past}
use Rattle.plan.proofs.Words.{begins-word}
use Rattle.plan.proofs.Lines.{Line, line-said, word-reads, none_reads}

-- ---- the mode
abbrev mode_from : Bool → Bool → Word Bool
mode_from p q = cond p (value true) (cond q (value false) malformed)

module _ (s : List ℕ) (p : Bool) (a : p ≡ begins (directed_word ++ (lf ∷ [])) (drop 0 s)) where
  mode-by : (bs r : List ℕ) → Line s 0 bs r → mode_from (begins (directed_word ++ (lf ∷ [])) (drop 0 s))
      (begins (undirected_word ++ (lf ∷ [])) (drop 0 s)) ≡ mode_of bs
  unfolding mode_of mem
  mode-by bs r (e, k) = rw (e, begins-word lf directed_word bs r refl k, begins-word lf undirected_word bs r refl k)

  pub mode-directed : p ≡ true → gives (true, 9) ≡ mode_line s
  unfolding mem
  mode-directed h =
      line-said mode_of s 0 (scanned (value true) 9)
      (word-reads mode_of s 0 directed_word true 9 refl (sym a ∙ h) refl (λ bs r l. sym (mode-by bs r l) ∙ rw (sym a ∙ h)))

  pub mode-undirected : p ≡ false → (q : Bool) → q ≡ begins (undirected_word ++ (lf ∷ [])) (drop 0 s) → q ≡ true
      → gives (false, 11) ≡ mode_line s
  unfolding mem
  mode-undirected h q b g =
      line-said mode_of s 0 (scanned (value false) 11)
      (word-reads mode_of s 0 undirected_word false 11 refl (sym b ∙ g) refl (λ bs r l. sym (mode-by bs r l) ∙ rw (sym a ∙ h, sym b ∙ g)))

  pub mode-none : p ≡ false → (q : Bool) → q ≡ begins (undirected_word ++ (lf ∷ [])) (drop 0 s) → q ≡ false → (r : Refusal)
      → r ≡ sheet_fault s 0 bad_form → refuses r ≡ mode_line s
  mode-none h q b g r f =
      ap refuses f ∙ line-said mode_of s 0 (scanned malformed 0)
      (none_reads mode_of s 0 0 (λ bs r l. sym (mode-by bs r l) ∙ rw (sym a ∙ h, sym b ∙ g)))

-- ---- a count, by what the reader of digits answers
module _ (s : List ℕ) (limit at : ℕ) where
  -- a count that was scanned, ended by LF or not
  abbrev count_by : Scanned ℕ → Said (ℕ × ℕ)
  count_by y = onward (in_sheet s (line_of at (closed s lf y))) (limited limit s at)

  abbrev value_by : ℕ → ℕ → Said (ℕ × ℕ)
  value_by n next =
      cond (has_at s next lf) (cond (leb n limit) (gives (n, next + 1)) (refuses (sheet_fault s at too_many)))
      (refuses (sheet_fault s at bad_form))

  count-scanned : count_by (count_at s at) ≡ count_line limit s at
  unfolding count_line within
  count-scanned = ap (λ z. onward z (limited limit s at)) (line-said count_of s at (closed s lf (count_at s at)) (count-reads s at lf refl))

  by-malformed : (w : Word ℕ) (next : ℕ) → cut_word w ≡ malformed → refuses (sheet_fault s at bad_form) ≡ count_by (scanned w next)
  by-malformed malformed next e = refl
  by-malformed outside next e = no-case cc
  by-malformed (value n) next e = no-case cc

  by_value : (w : Word ℕ) (n next : ℕ) → limit ≤ desk_edges → cut_word w ≡ value n → value_by n next ≡ count_by (scanned w next)
  by_value malformed n next h e = no-case cc
  by_value outside n next h e = no-case cc
  by_value (value m) n next h e =
      let c : cut_number m ≡ n = cc in
      bool_cases (has_at s next lf) _
      (λ t. rw t
      (bool_cases (leb m limit) _
      (λ l. let k : m ≤ limit = leb-true m limit l in
      let q : n ≡ m = omega arith in
      rw (q, l))
      (λ l. let k : limit < m = leb-false m limit l in
      rw (l, lt-leb n limit (omega arith)))))
      (λ t. rw t)

  pub count-bad : (p : ℕ) (r : Refusal) → scanned malformed p ≡ saturated (count_at s at) → r ≡ sheet_fault s at bad_form
      → refuses r ≡ count_line limit s at
  count-bad p r u f =
      ap refuses f ∙ by-malformed (count_at s at).said (count_at s at).next (sym (ap (λ y. y.said) u)) ∙ count-scanned

  module _ (h : limit ≤ desk_edges) (n p : ℕ) (u : scanned (value n) p ≡ saturated (count_at s at)) where
    count-value : value_by n p ≡ count_line limit s at
    count-value =
        ap (value_by n) (ap (λ y. y.next) u) ∙ by_value (count_at s at).said n (count_at s at).next h (sym (ap (λ y. y.said) u))
        ∙ count-scanned

    module _ (t : Bool) (f : t ≡ has_at s p lf) where
      pub count-open : t ≡ false → (r : Refusal) → r ≡ sheet_fault s at bad_form → refuses r ≡ count_line limit s at
      count-open g r k = ap refuses k ∙ rw (failed t _ f g) at count-value

      pub count-over : t ≡ true → limit < n → (r : Refusal) → r ≡ sheet_fault s at too_many → refuses r ≡ count_line limit s at
      count-over g l r k = ap refuses k ∙ rw (held t _ f g, lt-leb n limit l) at count-value

      pub count-good : t ≡ true → n ≤ limit → gives (n, p + 1) ≡ count_line limit s at
      count-good g l = rw (held t _ f g, le-leb n limit l) at count-value

-- ---- past a line that is ended
module _ (s : List ℕ) (at end : ℕ) (t : Bool) (e : end ≡ at + length (up_to lf (drop at s))) (f : t ≡ has_at s end lf) where
  pub past-line : t ≡ true → gives (end + 1) ≡ line_past false s at
  past-line g =
      ap next_of
      (line-said any_of s at (scanned (value tt) (end + 1))
      (record {
        ended = λ bs r d k. record { said = refl; next = λ _. omega (arith, e, ap length (ap (up_to lf) d ∙ up_to-cut lf bs r k)) };
        unended = λ k. clash (sym f ∙ g) (no_end s at lf end (omega (arith, e)) k);
      }))

  pub past_open : t ≡ false → (r : Refusal) → r ≡ sheet_fault s at bad_form → refuses r ≡ line_past false s at
  past_open g r k =
      ap refuses k
      ∙ ap next_of
      (line-said any_of s at (scanned malformed at)
      (record {
        ended = λ bs r d k.
            let q : end ≡ at + length bs = e ∙ ap (λ l. at + length l) (ap (up_to lf) d ∙ up_to-cut lf bs r k) in
            let i : has_at s (at + length bs) lf ≡ true = word-has s bs r at lf d (length bs) lf (omega arith)
            ∙ ap (λ (k : ℕ). eqb k lf) (get_or-append_seam bs lf r 0) in
            clash (ap (λ k. has_at s k lf) q ∙ i) (sym f ∙ g);
        unended = λ k. refl;
      }))

-- ---- past so many lines
module _ {y : Said ℕ} (s : List ℕ) (jobs : Bool) (count i at : ℕ) (f : lines_past jobs (count - i) s at ≡ y) where
  pub lines_end : count ≤ i → gives at ≡ y
  unfolding lines_past
  lines_end h = let z : count - i ≡ 0 = omega arith in rw z at f

  lines_at : i < count → lines_past jobs (suc (count - (i + 1))) s at ≡ y
  lines_at h = let z : count - i ≡ suc (count - (i + 1)) = omega arith in rw z at f

  pub lines_more : i < count → (next : ℕ) → gives next ≡ line_past jobs s at → lines_past jobs (count - (i + 1)) s next ≡ y
  unfolding lines_past
  lines_more h next u = rw (lines_past, sym u) at (lines_at h)

  pub lines-refused : i < count → (r : Refusal) → refuses r ≡ line_past jobs s at → refuses r ≡ y
  unfolding lines_past
  lines-refused h r u = rw (lines_past, sym u) at (lines_at h)
