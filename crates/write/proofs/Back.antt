-- What is written reads back: a count and an identifier are the number that they were. Assumes nothing.
use Prim.Native.Nat.{ℕ, zero, suc, ◌+◌, ◌-◌, ◌^◌, ◌≤◌}
use mathlib.Core.Path.{◌≡◌, refl, ap, ◌∙◌}
use mathlib.Core.Bool.{true, false}
use mathlib.Core.List.{List, [], ◌∷◌, ◌++◌}
use native.Mathlib.Omega.{arith}
use borrow.Author.Tests.{le-leb, ne_eqb}
use lib.IntN.{ℤ, pos, negsuc}
use lib.ListN.{length, take, drop, length-append}
use lib.Seq.{append_snoc}
use mir.Syntax.{w64}
use mir.Val.{SFits}
use Rattle.basis.specs.Scan.{each, mem}
use Rattle.basis.proofs.Tests.{and_first, and_second}
use Rattle.text.specs.Word.{value, within, is_digit, count_of, signed_of, ident_of}
use Rattle.text.specs.Bytes.{lf}
use Rattle.text.specs.Line.{line, Form, line_by, ident_form, vertex_line}
use Rattle.text.proofs.Bytes.{within-yes, within-is}
use Rattle.text.proofs.Cuts.{cut_line}
use Rattle.write.specs.Put.{written, put_at}
use Rattle.write.specs.Number.{digits, count_text, signed_text}
use Rattle.write.proofs.Puts.{wrote-next, wrote_after, wrote-text}
use Rattle.write.proofs.Texts.{Spells, count-spells, signed-without}

-- ---- a count that is written reads back
pub first_of : (b : ℕ) (bs : List ℕ) (n : ℕ) → Spells n (b ∷ bs) → (48 ≤ b) × (b ≤ 57)
unfolding each
first_of b bs n s = within-is 48 57 b (and_first (is_digit b) (each is_digit bs) s.all)

count-of : (l : List ℕ) (n : ℕ) → 1 ≤ n → Spells n l → count_of l ≡ value n
unfolding each
count-of [] n h s = absurd (omega (arith, s.some))
count-of (b ∷ bs) n h s =
    let f : 49 ≤ b = s.lead h in
    let w : within 49 57 b ≡ true = within-yes f (first_of b bs n s).1 in
    rw (ne_eqb b 48 (λ q. omega arith), w, and_second (is_digit b) (each is_digit bs) s.all) (ap value s.val)

pub count-back : (n : ℕ) → count_of (count_text n) ≡ value n
unfolding digits count_text
count-back zero = refl
count-back (suc n) = count-of (count_text (suc n)) (suc n) (omega arith) (count-spells (suc n))

-- ---- an identifier that is written reads back
ident-of : (l : List ℕ) (n : ℕ) → Spells n l → ident_of l ≡ signed_of false (count_of l)
ident-of [] n s = absurd (omega (arith, s.some))
ident-of (b ∷ bs) n s = rw (ne_eqb b 45 (λ q. omega (arith, first_of b bs n s)))

minus-of : (l : List ℕ) (n : ℕ) → 1 ≤ n → Spells n l → ident_of (45 ∷ l) ≡ signed_of true (count_of l)
minus-of [] n h s = absurd (omega (arith, s.some))
minus-of (b ∷ bs) n h s =
    let f : 49 ≤ b = s.lead h in
    rw (ne_eqb b 48 (λ q. omega arith))

pub ident-back : (z : ℤ) → SFits w64 z → ident_of (signed_text z) ≡ value z
unfolding signed_text
ident-back (pos n) f =
    ident-of (count_text n) n (count-spells n) ∙ ap (signed_of false) (count-back n) ∙ rw (le-leb n (2 ^ 63 - 1) (omega (arith, f.sfits)))
ident-back (negsuc n) f =
    minus-of (count_text (suc n)) (suc n) (omega arith) (count-spells (suc n))
    ∙ ap (signed_of true) (count-back (suc n))
    ∙ rw (le-leb (suc n) (2 ^ 63) (omega (arith, f.sfits)))

-- ---- and so both do in the area, between the place where the writer began and the one that it answered
module _ (o : List ℕ) (at : ℕ) {o' : List ℕ} {p : ℕ} where
  pub number-back : (n : ℕ) → written o' p ≡ put_at o at (count_text n) → at + length (count_text n) ≤ length o
      → count_of (take (p - at) (drop at o')) ≡ value n
  number-back n w room = rw (wrote-text o at (count_text n) w room) (count-back n)

  pub signed_back : (z : ℤ) → SFits w64 z → written o' p ≡ put_at o at (signed_text z) → at + length (signed_text z) ≤ length o
      → ident_of (take (p - at) (drop at o')) ≡ value z
  signed_back z f w room = rw (wrote-text o at (signed_text z) w room) (ident-back z f)

-- ---- a word that is written with an LF behind it is read as a line, and the reader's place past it is the one that the writer answered
module _ {A : Type 0} (form : Form A) (x : A) (bs : List ℕ) (said : form.word bs ≡ value x) (none : mem lf bs ≡ false) where
  pub line_wrote : (o : List ℕ) (at : ℕ) {o' : List ℕ} {p : ℕ} → written o' p ≡ put_at o at (bs ++ (lf ∷ []))
      → at + length (bs ++ (lf ∷ [])) ≤ length o
      → line_by form o' at ≡ line x p
  line_wrote o at {o'} {p} w room =
      let e : drop at o' ≡ bs ++ lf ∷ drop (at + length (bs ++ (lf ∷ []))) o =
      wrote_after o at (bs ++ (lf ∷ [])) w room ∙ append_snoc bs lf (drop (at + length (bs ++ (lf ∷ []))) o) in
      let q : at + length bs + 1 ≡ p = omega (arith, wrote-next o at (bs ++ (lf ∷ [])) w room, length-append bs (lf ∷ [])) in
      cut_line form o' at bs (drop (at + length (bs ++ (lf ∷ []))) o) x e none said ∙ ap (line x) q

pub vertex-back : (z : ℤ) → SFits w64 z → (o : List ℕ) (at : ℕ) {o' : List ℕ} {p : ℕ}
    → written o' p ≡ put_at o at (signed_text z ++ (lf ∷ []))
    → at + length (signed_text z ++ (lf ∷ [])) ≤ length o → vertex_line o' at ≡ line z p
unfolding within
vertex-back z f = line_wrote ident_form z (signed_text z) (ident-back z f) (signed-without z lf refl)
