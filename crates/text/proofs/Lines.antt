-- Laws of lines: what is scanned is what the definitions say of a line's bytes; one law for each way the code leaves. Assumes nothing.
use Prim.Native.Nat.{ℕ, suc, ◌+◌, ◌-◌, ◌≤◌, ◌<◌}
use mathlib.Core.Path.{◌≡◌, refl, sym, ap, ◌∙◌}
use mathlib.Core.List.{List, [], ◌∷◌, ◌++◌, append_assoc, append-nil}
use mathlib.Core.Bool.{Bool, true, false, cond, ◌&&◌}
use mathlib.Core.Logic.{⊎_elim}
use native.Mathlib.Omega.{arith}
use native.Mathlib.Nat.{eq-or-lt_of_le}
use borrow.Author.Tests.{le-leb, lt-leb}
use lib.Dec.{eqb}
use lib.IntN.{ℤ}
use lib.ListN.{length, take, drop, length-append, length-drop, take-append-drop}
use lib.Seq.{get_or-append_seam}
use Rattle.basis.specs.Refusal.{bad_form}
use Rattle.basis.specs.Scan.{mem}
use Rattle.basis.proofs.Tests.{clash, false_of, bool_cases, and_first, and_second}
use Rattle.text.specs.Word.{Word, malformed, outside, value, well_formed, within, is_digit, ident_of}
use Rattle.text.specs.Decimal.{decimal_of}
use Rattle.text.specs.Stop.{ident_stop, decimal_stop}
use Rattle.text.specs.Bytes.{lf, space}
use Rattle.text.specs.Line.{LineSaid, line, none, fault, up_to, past, Form, column_in, line_says, line_by, both, two_of, two_stop}
use Rattle.text.specs.Line.{ident_form, pair_form, decimal_form, vertex_line, edge_line, coefficient_line}
use Rattle.text.specs.Scan.{Scanned, scanned, has_at, closed, field_at, word_of, ranged_says, decimal_says, two_at}
use Rattle.text.specs.Scan.{ident_at, line_from, decimal_at, rest_at, beside, column_at, line_of, last_at}
use Rattle.text.specs.declared.decimal.Decimal.{Decimal}
use Rattle.text.specs.declared.count.Scan.{Scan}
use Rattle.std.specs.Prelude.{Option, None, Some, Result, Ok, Err}
use Rattle.std.specs.Option.{option_zip}
use Rattle.text.proofs.Scans.{word-well}
use Rattle.text.proofs.Bytes.{mem-cut, mem-join, mem-right, up_to-cut, up_to-none, up_to-take, up_to-le, up_to-all, up_to-end}
use Rattle.text.proofs.Bytes.{up_to-over, cut_at, drop_past}
use Rattle.text.proofs.Idents.{ident-next, ident-up_to}
use Rattle.text.proofs.Words.{Ends, Reads, closed-yes, closed-no, bad-ends, word-has, no_end, field-reads, ident-stray}
use Rattle.text.proofs.Stops.{stop_le}
use Rattle.text.proofs.Breaks.{RightStop, decimal-right}

-- ---- a line by what is scanned of it
same_line : {A : Type 0} (at q c d : ℕ) (w : Word A) (x : Scanned A) → Ends q w x → (well_formed x.said ≡ false → c ≡ d)
    → line_says at x.next c x.said ≡ line_says at q d w
same_line {A} at q c d w x e = rw e.said (by w e.next)
  where
    by : (w : Word A) → (well_formed w ≡ true → x.next ≡ q) → (well_formed w ≡ false → c ≡ d)
        → line_says at x.next c w ≡ line_says at q d w
    by malformed h k = ap (λ (n : ℕ). fault bad_form n at) (k refl)
    by outside h k = refl
    by (value v) h k = ap (line v) (h refl)

pub line-end : {A : Type 0} (form : Form A) (s : List ℕ) (at : ℕ) → length s ≤ at → none at ≡ line_by form s at
unfolding line_by
line-end form s at h = rw (le-leb (length s) at h)

-- with the column c, if it is the line's where its form is wrong
pub line_reads : {A : Type 0} (form : Form A) (s : List ℕ) (at : ℕ) (x : Scanned A) (c : ℕ) → at < length s → Reads lf form.word s at x
    → (well_formed x.said ≡ false → c ≡ column_in form s at)
    → line_says at x.next c x.said ≡ line_by form s at
unfolding line_by
line_reads form s at x c h r k =
    rw (lt-leb (length s) at h)
    (bool_cases (mem lf (drop at s)) _
    (λ e. rw e
    (same_line at (at + length (up_to lf (drop at s)) + 1) c (column_in form s at) (form.word (up_to lf (drop at s))) x
    (r.ended (up_to lf (drop at s)) (past lf (drop at s)) (cut_at lf (drop at s) e) (up_to-none lf (drop at s))) k))
    (λ e. rw (e, r.unended e) (ap (λ (n : ℕ). fault bad_form n at) (k (ap well_formed (r.unended e))))))

-- what was scanned up to the byte d stops where its bytes break off
abbrev pub StopsAt : {A : Type 0} → ℕ → (List ℕ → ℕ) → List ℕ → ℕ → Scanned A → Type 0
StopsAt d stop s at x = well_formed x.said ≡ false → x.next ≡ at + stop (up_to d (drop at s))

pub line-scanned : {A : Type 0} (form : Form A) (s : List ℕ) (at : ℕ) (x : Scanned A) → at < length s → Reads lf form.word s at x
    → StopsAt lf form.stop s at x → line_of at x ≡ line_by form s at
line-scanned form s at x h r k = line_reads form s at x (column_at at x.next) h r (λ e. omega (arith, k e))

-- ---- where a field stops
closed-stops : {A : Type 0} (s : List ℕ) (c : ℕ) (x : Scanned A) → well_formed (closed s c x).said ≡ false → (closed s c x).next ≡ x.next
closed-stops s c x =
    bool_cases (well_formed x.said) _
    (λ w. bool_cases (has_at s x.next c) _ (λ e. rw (w, e) (λ h. clash w h)) (λ e. rw (w, e) (λ _. refl))) (λ w. rw w (λ _. refl))

pub field-stops : (s : List ℕ) (at c : ℕ) → is_digit c ≡ false → eqb c 45 ≡ false → StopsAt c ident_stop s at (field_at s at c)
unfolding field_at
field-stops s at c d m h =
    closed-stops s c (ident_at s at) h ∙ ident-next s at ∙ ap (λ (n : ℕ). at + n) (sym (ident-up_to c d m (drop at s)))

-- ---- two words with a space between
not-well : {A : Type 0} (w : Word A) → well_formed w ≡ false → w ≡ malformed
not-well malformed h = refl
not-well outside h = clash refl h
not-well (value v) h = clash refl h

pub both-off : {A B : Type 0} (w : Word A) → both {A = A} {B = B} w malformed ≡ malformed
both-off malformed = refl
both-off outside = refl
both-off (value v) = refl

both-well : {A B : Type 0} (v : Word A) (w : Word B) → well_formed (both v w) ≡ true → well_formed w ≡ true
both-well v malformed h = rw both-off at h
both-well v outside h = refl
both-well v (value b) h = refl

both-bad : {A B : Type 0} (v : Word A) (w : Word B) → well_formed v ≡ true → well_formed (both v w) ≡ false → well_formed w ≡ false
both-bad malformed w h k = clash h refl
both-bad outside malformed h k = refl
both-bad outside outside h k = k
both-bad outside (value b) h k = k
both-bad (value a) malformed h k = refl
both-bad (value a) outside h k = k
both-bad (value a) (value b) h k = k

module _ {A : Type 0} (word : List ℕ → Word A) (s : List ℕ) (at : ℕ) (x : Scanned ℤ) (y : Scanned A)
    (X : Reads space ident_of s at x) (Y : well_formed x.said ≡ true → Reads lf word s x.next y) where
  bad-first : x.said ≡ malformed → both x.said y.said ≡ malformed
  bad-first h = rw h

  -- the space stands in the line: bs is b1, a space, and b2
  split : (b1 b2 r : List ℕ) → drop at s ≡ b1 ++ space ∷ (b2 ++ lf ∷ r) → mem space b1 ≡ false → mem lf b2 ≡ false → (t : Bool)
      → well_formed (ident_of b1) ≡ t
      → Ends (at + length b1 + 1 + length b2 + 1) (both (ident_of b1) (word b2)) (beside x.said y)
  split b1 b2 r e n m false h =
      let q : ident_of b1 ≡ malformed = not-well (ident_of b1) h in
      let z = X.ended b1 (b2 ++ lf ∷ r) e n in
      record { said = bad-first (z.said ∙ q) ∙ rw q; next = λ k. clash (rw q at k) refl }
  split b1 b2 r e n m true h =
      let z = X.ended b1 (b2 ++ lf ∷ r) e n in
      let q : x.next ≡ at + length b1 + 1 = z.next h in
      let d : drop x.next s ≡ b2 ++ lf ∷ r = ap (λ (k : ℕ). drop k s) q ∙ drop_past s b1 (b2 ++ lf ∷ r) at space e in
      let f = (Y (ap well_formed z.said ∙ h)).ended b2 r d m in
      record {
        said = ap (λ (w : Word ℤ). both w y.said) z.said ∙ ap (both (ident_of b1)) f.said;
        next = λ k. f.next (both-well (ident_of b1) (word b2) k) ∙ omega arith;
      }

  -- no space stands in the line, though one may stand in a later line
  no-space : (bs r : List ℕ) → drop at s ≡ bs ++ lf ∷ r → mem space bs ≡ false → x.said ≡ malformed
  unfolding mem within
  no-space bs r e n =
      bool_cases (mem space r) (x.said ≡ malformed)
      (λ k. let d : drop at s ≡ (bs ++ lf ∷ up_to space r) ++ space ∷ past space r = e
      ∙ ap (λ (l : List ℕ). bs ++ lf ∷ l) (cut_at space r k)
      ∙ sym (append_assoc bs (lf ∷ up_to space r) (space ∷ past space r)) in
      (X.ended (bs ++ lf ∷ up_to space r) (past space r) d (mem-join space bs (lf ∷ up_to space r) n (up_to-none space r))).said
      ∙ ident-stray lf refl refl (bs ++ lf ∷ up_to space r) (mem-cut lf bs (up_to space r)))
      (λ k. X.unended (ap (mem space) e ∙ mem-join space bs (lf ∷ r) n k))

  pair_ended : (bs r : List ℕ) → drop at s ≡ bs ++ lf ∷ r → mem lf bs ≡ false
      → Ends (at + length bs + 1) (two_of ident_of word bs) (beside x.said y)
  unfolding two_of
  pair_ended bs r e n =
      bool_cases (mem space bs) _
      (λ k. let b1 : List ℕ = up_to space bs in
      let b2 : List ℕ = past space bs in
      let q : bs ≡ b1 ++ space ∷ b2 = cut_at space bs k in
      let d : drop at s ≡ b1 ++ space ∷ (b2 ++ lf ∷ r) = e ∙ ap (λ (l : List ℕ). l ++ lf ∷ r) q ∙ append_assoc b1 (space ∷ b2) (lf ∷ r) in
      let m : mem lf b2 ≡ false = mem-right lf (space ∷ []) b2 (mem-right lf b1 (space ∷ b2) (rw q at n)) in
      let z = split b1 b2 r d (up_to-none space bs) m (well_formed (ident_of b1)) refl in
      rw k (record { said = z.said; next = λ h. z.next h ∙ omega (arith, ap length q ∙ length-append b1 (space ∷ b2)) }))
      (λ k. rw k (record { said = bad-first (no-space bs r e k); next = λ h. clash h refl }))

  pair-unended : mem lf (drop at s) ≡ false → both x.said y.said ≡ malformed
  pair-unended n =
      bool_cases (mem space (drop at s)) _
      (λ k. let b1 : List ℕ = up_to space (drop at s) in
      let b2 : List ℕ = past space (drop at s) in
      let q : drop at s ≡ b1 ++ space ∷ b2 = cut_at space (drop at s) k in
      let z = X.ended b1 b2 q (up_to-none space (drop at s)) in
      let m : mem lf b2 ≡ false = mem-right lf (space ∷ []) b2 (mem-right lf b1 (space ∷ b2) (rw q at n)) in
      bool_cases (well_formed (ident_of b1)) _
      (λ h. let f : y.said ≡ malformed = (Y (ap well_formed z.said ∙ h)).unended
      (ap (λ (k : ℕ). mem lf (drop k s)) (z.next h) ∙ ap (mem lf) (drop_past s b1 b2 at space q) ∙ m) in
      ap (both x.said) f ∙ both-off x.said)
      (λ h. bad-first (z.said ∙ not-well (ident_of b1) h)))
      (λ k. bad-first (X.unended k))

  -- both words, or the first alone where it is malformed
  abbrev pub paired : Scanned (ℤ × A)
  paired = cond (well_formed x.said) (beside x.said y) (scanned malformed x.next)

  paired-said : paired.said ≡ both x.said y.said
  paired-said =
      bool_cases (well_formed x.said) _ (λ h. rw h) (λ h. rw (h, not-well x.said h))

  paired-next : well_formed paired.said ≡ true → paired.next ≡ y.next
  paired-next = bool_cases (well_formed x.said) _ (λ h. rw h (λ _. refl)) (λ h. rw h (λ k. clash k refl))

  pub pair_reads : Reads lf (two_of ident_of word) s at paired
  pair_reads =
      record {
        ended =
            λ bs r e n. let z = pair_ended bs r e n in
            record {
              said = paired-said ∙ z.said;
              next = λ k. paired-next (ap well_formed (paired-said ∙ z.said) ∙ k) ∙ z.next k;
            };
        unended = λ n. paired-said ∙ pair-unended n;
      }

  -- ---- where they break off
  module _ (stop : List ℕ → ℕ) (F : StopsAt space ident_stop s at x) (S : well_formed x.said ≡ true → StopsAt lf stop s x.next y) where
    abbrev here : List ℕ
    here = up_to lf (drop at s)

    -- what stands behind the line's bytes: its LF, or nothing
    abbrev behind : List ℕ
    behind = drop (length here) (drop at s)

    here-behind : drop at s ≡ here ++ behind
    here-behind = sym (take-append-drop (length here) (drop at s)) ∙ ap (λ (l : List ℕ). l ++ behind) (up_to-take lf (drop at s))

    -- the line's bytes with a space in them
    module _ (e : mem space here ≡ true) where
      here-cut : drop at s ≡ up_to space here ++ space ∷ (past space here ++ behind)
      here-cut =
          here-behind ∙ ap (λ (l : List ℕ). l ++ behind) (cut_at space here e)
          ∙ append_assoc (up_to space here) (space ∷ past space here) behind

      first_ends : Ends (at + length (up_to space here) + 1) (ident_of (up_to space here)) x
      first_ends = X.ended (up_to space here) (past space here ++ behind) here-cut (up_to-none space here)

      second-here : up_to lf (past space here ++ behind) ≡ past space here
      second-here =
          let m : mem lf (up_to space here ++ space ∷ past space here) ≡ false = rw (← cut_at space here e) (up_to-none lf (drop at s)) in
          up_to-over lf (past space here) behind
          (mem-right lf (space ∷ []) (past space here) (mem-right lf (up_to space here) (space ∷ past space here) m))
          ∙ ap (λ (l : List ℕ). past space here ++ l) (up_to-end lf (drop at s)) ∙ append-nil (past space here)

    no-first-space : mem space here ≡ false → x.said ≡ malformed
    no-first-space n =
        bool_cases (mem lf (drop at s)) (x.said ≡ malformed) (λ e. no-space here (past lf (drop at s)) (cut_at lf (drop at s) e) n)
        (λ e. X.unended (rw (up_to-all lf (drop at s) e) at n))

    first_stops : well_formed x.said ≡ false → x.next ≡ at + two_stop stop here
    unfolding two_stop within
    first_stops h =
        let f : (mem space here && well_formed (ident_of (up_to space here))) ≡ false = false_of _
        (λ t. clash (ap well_formed (first_ends (and_first (mem space here) (well_formed (ident_of (up_to space here))) t)).said
        ∙ and_second (mem space here) (well_formed (ident_of (up_to space here))) t) h) in
        rw f
        (F h
        ∙ ap (λ (n : ℕ). at + n)
        (ident-up_to space refl refl (drop at s) ∙ sym (ident-up_to lf refl refl (drop at s)) ∙ sym (ident-up_to space refl refl here)))

    second-stops : well_formed x.said ≡ true → well_formed (both x.said y.said) ≡ false → y.next ≡ at + two_stop stop here
    unfolding two_stop
    second-stops h k =
        bool_cases (mem space here) _
        (λ e. let z = first_ends e in
        let g : well_formed (ident_of (up_to space here)) ≡ true = ap well_formed (sym z.said) ∙ h in
        let q : x.next ≡ at + length (up_to space here) + 1 = z.next g in
        let d : drop x.next s ≡ past space here ++ behind = ap (λ (n : ℕ). drop n s) q
        ∙ drop_past s (up_to space here) (past space here ++ behind) at space (here-cut e) in
        rw (e, g)
        (S h (both-bad x.said y.said h k) ∙ ap (λ (l : List ℕ). x.next + stop (up_to lf l)) d
        ∙ ap (λ (l : List ℕ). x.next + stop l) (second-here e) ∙ omega (arith, q)))
        (λ e. clash h (ap well_formed (no-first-space e)))

    pub pair-stops : StopsAt lf (two_stop stop) s at paired
    pair-stops =
        bool_cases (well_formed x.said) _ (λ h. rw h (second-stops h)) (λ h. rw h (λ _. first_stops h))

-- ---- the last word of a line, of any form
module _ {A : Type 0} (form : Form A) (R : RightStop form) where
  -- a good word breaks off at its end
  good-stop : (w : List ℕ) → well_formed (form.word w) ≡ true → form.stop w ≡ length w
  good-stop w h =
      ⊎_elim (λ e. e)
      (λ k. clash (ap (λ (l : List ℕ). well_formed (form.word l)) (take-append-drop (suc (form.stop w)) w) ∙ h)
      (R.breaks w (drop (suc (form.stop w)) w) k))
      (eq-or-lt_of_le (R.short w))

  pub form-reads : (s : List ℕ) (at : ℕ) → Reads lf form.word s at (last_at form s at)
  unfolding last_at
  form-reads s at = record { ended = ended; unended = unended }
    where
      ended : (bs r : List ℕ) → drop at s ≡ bs ++ lf ∷ r → mem lf bs ≡ false → Ends (at + length bs + 1) (form.word bs) (last_at form s at)
      ended bs r e n =
          let u : line_from s at ≡ bs = ap (up_to lf) e ∙ up_to-cut lf bs r n in
          let h : has_at s (at + length bs) lf ≡ true = word-has s bs r at lf e (length bs) lf (omega arith)
          ∙ ap (λ (k : ℕ). eqb k lf) (get_or-append_seam bs lf r 0) in
          rw u
          (bool_cases (well_formed (form.word bs)) _ (λ k. rw (good-stop bs k) (closed-yes s lf (at + length bs) (form.word bs) h))
          (λ k. rw (not-well (form.word bs) k) (bad-ends (at + length bs + 1) (at + form.stop bs))))

      unended : mem lf (drop at s) ≡ false → (last_at form s at).said ≡ malformed
      unended n =
          let q : ℕ = at + form.stop (line_from s at) in
          (closed-no s lf q 0 (form.word (line_from s at)) (no_end s at lf q (omega arith) n)).said

pub form-stops : {A : Type 0} (form : Form A) (s : List ℕ) (at : ℕ) → StopsAt lf form.stop s at (last_at form s at)
unfolding last_at
form-stops form s at h = closed-stops s lf (scanned (form.word (line_from s at)) (at + form.stop (line_from s at))) h

-- ---- a decimal up to the end of its line
pub rest-reads : (s : List ℕ) (at : ℕ) → Reads lf decimal_of s at (rest_at s at)
unfolding rest_at decimal_at last_at
rest-reads s at = form-reads decimal_form decimal-right s at

rest-stops : (s : List ℕ) (at : ℕ) → StopsAt lf decimal_stop s at (rest_at s at)
unfolding rest_at decimal_at last_at
rest-stops s at h = form-stops decimal_form s at h

-- the code's ways out: no decimal, a decimal that LF ends, one that the file ends
pub rest_end : (s : List ℕ) (at end : ℕ) → end ≡ at + length (up_to lf (drop at s)) → at ≤ length s → end ≤ length s
rest_end s at end e h = omega (arith, up_to-le lf (drop at s), length-drop at s)

module _ (s : List ℕ) (at end : ℕ) (e : end ≡ at + length (up_to lf (drop at s))) where
  rest-word : (x : Result Decimal ℕ)
      → decimal_says (length (take (end - at) (drop at s))) x
      ≡ scanned (decimal_of (take (end - at) (drop at s))) (decimal_stop (take (end - at) (drop at s)))
      → decimal_says (length (line_from s at)) x ≡ scanned (decimal_of (line_from s at)) (decimal_stop (line_from s at))
  rest-word x f =
      let q : end - at ≡ length (up_to lf (drop at s)) = omega arith in
      let l : take (end - at) (drop at s) ≡ line_from s at = ap (λ (n : ℕ). take n (drop at s)) q ∙ up_to-take lf (drop at s) in
      rw l at f

  module _ (p : ℕ) (f : scanned malformed p
      ≡ scanned (decimal_of (take (end - at) (drop at s))) (decimal_stop (take (end - at) (drop at s)))) where
    pub rest-inside : at ≤ length s → at + p ≤ length s
    rest-inside h =
        omega (arith, ap (λ (y : Scanned Decimal). y.next) (rest-word (Err p) f), stop_le (line_from s at), rest_end s at end e h)

    pub rest-bad : scanned malformed (at + p) ≡ rest_at s at
    unfolding rest_at decimal_at
    rest-bad = ap (λ (y : Scanned Decimal). closed s lf (scanned y.said (at + y.next))) (rest-word (Err p) f)

  module _ (d : Decimal) (f : scanned (value d) (length (take (end - at) (drop at s)))
      ≡ scanned (decimal_of (take (end - at) (drop at s))) (decimal_stop (take (end - at) (drop at s)))) (t : Bool)
      (h : t ≡ has_at s end lf) where
    rest-is : closed s lf (scanned (value d) end) ≡ rest_at s at
    unfolding rest_at decimal_at
    rest-is =
        ap (λ (n : ℕ). closed s lf (scanned (value d) n)) e
        ∙ ap (λ (y : Scanned Decimal). closed s lf (scanned y.said (at + y.next))) (rest-word (Ok d) f)

    pub rest-value : t ≡ true → scanned (value d) (end + 1) ≡ rest_at s at
    rest-value k = rw (← h, k) at rest-is

    pub rest-open : t ≡ false → scanned malformed end ≡ rest_at s at
    rest-open k = rw (← h, k) at rest-is

-- ---- a vertex line
pub vertex-read : (s : List ℕ) (at : ℕ) → at < length s → (x : Scanned ℤ) → x ≡ field_at s at lf → (y : LineSaid ℤ) → y ≡ line_of at x
    → y ≡ vertex_line s at
unfolding within
vertex-read s at l x e y f =
    f ∙ ap (line_of at) e
    ∙ line-scanned ident_form s at (field_at s at lf) l (field-reads s at lf refl refl) (field-stops s at lf refl refl)

-- ---- an identifier and what stands behind it: one law for each way the code leaves
zip-both : {A B : Type 0} (u : Option A) (v : Option B) → word_of (option_zip u v) ≡ both (word_of u) (word_of v)
zip-both None None = refl
zip-both None (Some b) = refl
zip-both (Some a) None = refl
zip-both (Some a) (Some b) = refl

module _ {A : Type 0} (second : List ℕ → ℕ → Scanned A) (s : List ℕ) (at : ℕ) where
  abbrev two : Scanned ℤ → Scanned (ℤ × A)
  two y = cond (well_formed y.said) (beside y.said (second s y.next)) (scanned malformed y.next)

  pub two-none : (p : ℕ) → scanned malformed p ≡ field_at s at space → scanned malformed p ≡ two_at second s at
  unfolding two_at
  two-none p e = ap two e

  module _ (x : Scan (Option ℤ)) (e : ranged_says x ≡ field_at s at space) where
    pub two-beside : (y : Scanned A) → y ≡ second s x.next → beside (word_of x.value) y ≡ two_at second s at
    unfolding two_at
    two-beside y f = ap (beside (word_of x.value)) f ∙ (rw (word-well x.value) at (ap two e))

    pub two-bad : (q : ℕ) → scanned malformed q ≡ second s x.next → scanned malformed q ≡ two_at second s at
    two-bad q f = ap (λ (w : Word (ℤ × A)). scanned w q) (sym (both-off (word_of x.value))) ∙ two-beside (scanned malformed q) f

    pub two-both : (y : Scan (Option A)) → ranged_says y ≡ second s x.next
        → scanned (word_of (option_zip x.value y.value)) y.next ≡ two_at second s at
    two-both y f = ap (λ (w : Word (ℤ × A)). scanned w y.next) (zip-both x.value y.value) ∙ two-beside (ranged_says y) f

    pub two-good : (y : Scan A) → scanned (value y.value) y.next ≡ second s x.next
        → scanned (word_of (option_zip x.value (Some y.value))) y.next ≡ two_at second s at
    two-good y f =
        ap (λ (w : Word (ℤ × A)). scanned w y.next) (zip-both x.value (Some y.value)) ∙ two-beside (scanned (value y.value) y.next) f

-- ---- a line of an identifier and a second word
pub two-line : {A : Type 0} (form : Form A) (second : List ℕ → ℕ → Scanned A)
    → ((s : List ℕ) (at : ℕ) → Reads lf form.word s at (second s at)) → ((s : List ℕ) (at : ℕ) → StopsAt lf form.stop s at (second s at))
    → (s : List ℕ) (at : ℕ) → at < length s → line_of at (two_at second s at) ≡ line_by (pair_form form) s at
unfolding within two_at
two-line form second R T s at l =
    let y : Scanned ℤ = field_at s at space in
    let X : Reads space ident_of s at y = field-reads s at space refl refl in
    line-scanned (pair_form form) s at (two second s at y) l (pair_reads form.word s at y (second s y.next) X (λ _. R s y.next))
    (pair-stops form.word s at y (second s y.next) X (λ _. R s y.next) form.stop (field-stops s at space refl refl)
    (λ _. T s y.next))

last-reads : (s : List ℕ) (at : ℕ) → Reads lf ident_of s at (field_at s at lf)
unfolding within
last-reads s at = field-reads s at lf refl refl

last-stops : (s : List ℕ) (at : ℕ) → StopsAt lf ident_stop s at (field_at s at lf)
unfolding within
last-stops s at = field-stops s at lf refl refl

-- an edge line, and a coefficient line
module _ (s : List ℕ) (at : ℕ) (l : at < length s) where
  pub edge-read : (x : Scanned (ℤ × ℤ)) → x ≡ two_at (λ s p. field_at s p lf) s at → (y : LineSaid (ℤ × ℤ)) → y ≡ line_of at x
      → y ≡ edge_line s at
  edge-read x e y f = f ∙ ap (line_of at) e ∙ two-line ident_form (λ s p. field_at s p lf) last-reads last-stops s at l

  pub coefficient-read : (x : Scanned (ℤ × Decimal)) → x ≡ two_at rest_at s at → (y : LineSaid (ℤ × Decimal)) → y ≡ line_of at x
      → y ≡ coefficient_line s at
  coefficient-read x e y f = f ∙ ap (line_of at) e ∙ two-line decimal_form rest_at rest-reads rest-stops s at l
