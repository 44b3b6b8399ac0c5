-- "Prove that reordering a complete claim never changes whether it matches", on the bytes of two claims. Assumes nothing.
use mathlib.Core.Path.{◌≡◌, refl, sym, ap, ◌∙◌, subst}
use mathlib.Core.Logic.{◌↔◌, ◌⊎◌}
use mathlib.Core.List.{List, [], ◌∷◌}
use Prim.Native.Nat.{ℕ, zero, suc, ◌<◌}
use native.Mathlib.Nat.{not-suc-le-zero}
use native.Mathlib.Omega.{arith}
use lib.IntN.{ℤ, pos}
use lib.ListN.{length, get_or}
use Rattle.basis.specs.Area.{column}
use Rattle.basis.specs.Refusal.{Said, gives}
use Rattle.basis.specs.Scan.{mem}
use Rattle.basis.proofs.Areas.{column-at, column-length}
use Rattle.text.specs.Bytes.{lf}
use Rattle.text.specs.Word.{Word, value, ident_of}
use Rattle.text.specs.Line.{two_of}
use Rattle.text.specs.File.{first, no_test, GoodFile}
use Rattle.text.proofs.Files.{passes-all, joined-one, SaysAt, says-length, says_at, says_of}
use Rattle.matching.specs.Claim.{ids_of, claimed_of}
use Rattle.matching.specs.Verdict.{Verdict, matched, mismatch_at}
use Rattle.matching.specs.Good.{LineOf, Covers, ValuesOf, CompleteClaim, GoodClaim, MismatchClaim, Judges}
use Rattle.matching.specs.Good.{Reordered, Shuffled}
use Rattle.matching.proofs.Readings.{ids-length}

-- ---- the other way round
reordered-back : {A : Type 0} {x : A} {l m : List A} → Reordered x l m → Reordered x m l
reordered-back {A} {x} {l} {m} h =
    record {
      long = sym h.long;
      to = h.back;
      back = h.to;
      inside = h.outside;
      outside = h.inside;
      there = h.here;
      here = h.there;
      same = λ j k. sym (h.same (h.back j) (h.outside j k)) ∙ ap (λ (i : ℕ). get_or m i x) (h.here j k);
    }

shuffled-back : {s t : List ℕ} → Shuffled s t → Shuffled t s
shuffled-back h =
    let o = reordered-back h.order in
    record {
      lines = h.others;
      others = h.lines;
      whole = h.whole_other;
      whole_other = h.whole;
      unbroken = λ j k. ap (mem lf) (sym (o.same j k)) ∙ h.unbroken (o.to j) (o.inside j k);
      order = o;
    }

-- ---- good lines in another order are good lines in that order
module _ {A : Type 0} (word : List ℕ → Word A) (x : A) where
  module _ (most : ℕ) {s : List ℕ} (l : List A) (g : GoodFile word most no_test s l) where
    abbrev words : List (List ℕ)
    words = g.lines.words

    says : (i : ℕ) → i < length words → SaysAt word x words l i
    says = says_at word x words l g.lines.values

    module _ {t : List ℕ} (h : Shuffled s t) where
      same_lines : h.lines ≡ words
      same_lines = joined-one h.lines words h.unbroken (λ i k. (says i k).0) (sym h.whole ∙ g.lines.whole)

      order : Reordered [] words h.others
      order = subst (λ (ws : List (List ℕ)). Reordered [] ws h.others) same_lines h.order

      abbrev moved : List A
      moved = column (λ j. get_or l (order.back j) x) 0 (length l)

      lengths : (length words ≡ length l) × (length h.others ≡ length moved) × (length moved ≡ length l)
      lengths =
          let a = says-length word x words l g.lines.values in
          let b = column-length (λ j. get_or l (order.back j) x) 0 (length l) in
          (a, omega (arith, order.long), b)

      moved_at : (j : ℕ) → j < length l → get_or moved j x ≡ get_or l (order.back j) x
      moved_at j k = column-at (λ j. get_or l (order.back j) x) (length l) j x k

      lines-moved : Reordered x l moved
      lines-moved =
          record {
            long = sym lengths.2;
            to = order.to;
            back = order.back;
            inside = λ i k. let m = order.inside i (omega (arith, lengths.0)) in omega (arith, lengths.1);
            outside = λ j k. let m = order.outside j (omega (arith, lengths.1)) in omega (arith, lengths.0);
            there = λ i k. order.there i (omega (arith, lengths.0));
            here = λ j k. order.here j (omega (arith, lengths.1));
            same = λ i k.
                let a : i < length words = omega (arith, lengths.0) in
                moved_at (order.to i) (omega (arith, order.inside i a, lengths.1, lengths.2))
                ∙ ap (λ (j : ℕ). get_or l j x) (order.there i a);
          }

      file-moved : GoodFile word most no_test t moved
      unfolding reordered-back
      file-moved =
          record {
            lines = record { words = h.others; whole = h.whole_other; values = says_of word x h.others moved lengths.1 at };
            few = omega (arith, lengths.2, g.few);
            pass = passes-all first moved;
          }
        where
          at : (j : ℕ) → j < length h.others → SaysAt word x h.others moved j
          at j k =
              let back = reordered-back order in
              let b = says (order.back j) (order.outside j k) in (
                ap (mem lf) (sym (back.same j k)) ∙ b.0,
                ap word (sym (back.same j k)) ∙ b.1 ∙ ap value (sym (moved_at j (omega (arith, lengths.1, lengths.2)))),
              )

-- ---- lines with identifiers and values
module _ {A : Type 0} (x : ℤ × A) where
  ids_at : (l : List (ℤ × A)) (i : ℕ) → i < length l → get_or (ids_of l) i (pos 0) ≡ (get_or l i x).0
  ids_at [] i k = absurd (not-suc-le-zero k)
  ids_at (y ∷ l) zero k = refl
  ids_at (y ∷ l) (suc i) k = ids_at l i (omega arith)

  claimed-at : (z : A) (l : List (ℤ × A)) (i : ℕ) → i < length l → get_or (claimed_of l) i z ≡ (get_or l i x).1
  claimed-at z [] i k = absurd (not-suc-le-zero k)
  claimed-at z (y ∷ l) zero k = refl
  claimed-at z (y ∷ l) (suc i) k = claimed-at z l i (omega arith)

  line-moved : (ids : List ℤ) {l m : List (ℤ × A)} (o : Reordered x l m) {v i : ℕ} → LineOf ids (ids_of l) v i
      → LineOf ids (ids_of m) v (o.to i)
  line-moved ids {l} {m} o {v} {i} h =
      let a : i < length l = omega (arith, h.line, ids-length l) in
      let b = o.inside i a in
      record {
        vertex = h.vertex;
        line = omega (arith, ids-length m);
        names = ids_at m (o.to i) b ∙ ap (λ (y : ℤ × A). y.0) (o.same i a) ∙ sym (ids_at l i a) ∙ h.names;
      }

  module _ (ids : List ℤ) (z : A) {l m : List (ℤ × A)} (o : Reordered x l m) where
    line-back : {v j : ℕ} → LineOf ids (ids_of m) v j → LineOf ids (ids_of l) v (o.back j)
    unfolding reordered-back
    line-back h = line-moved ids (reordered-back o) h

    covers-moved : Covers ids (ids_of l) → Covers ids (ids_of m)
    covers-moved c =
        record {
          known = λ j k.
              let a : j < length m = omega (arith, ids-length m) in
              let h = c.known (o.back j) (omega (arith, o.outside j a, ids-length l)) in
              (h.0, subst (LineOf ids (ids_of m) h.0) (o.here j a) (line-moved ids o h.1));
          once = λ v i j h g.
              sym (o.here i (omega (arith, h.line, ids-length m)))
              ∙ ap o.to (c.once v (o.back i) (o.back j) (line-back h) (line-back g))
              ∙ o.here j (omega (arith, g.line, ids-length m));
          all = λ v k. let h = c.all v k in (o.to h.0, line-moved ids o h.1);
        }

    values_moved : {values : List A} → ValuesOf z ids l values → ValuesOf z ids m values
    unfolding reordered-back
    values_moved w =
        record {
          long = w.long;
          from = λ v j h.
              let a : j < length m = omega (arith, h.line, ids-length m) in
              w.from v (o.back j) (line-back h)
              ∙ claimed-at z l (o.back j) (o.outside j a)
              ∙ ap (λ (y : ℤ × A). y.1) ((reordered-back o).same j a)
              ∙ sym (claimed-at z m j a);
        }

-- ---- claims
module _ {A : Type 0} (word : List ℕ → Word A) (z : A) (most : ℕ) (ids : List ℤ) {s t : List ℕ} (h : Shuffled s t) where
  abbrev any : ℤ × A
  any = (pos 0, z)

  module _ (c : CompleteClaim word z most ids s) where
    claim-moved : Reordered any c.lines (moved (two_of ident_of word) any most c.lines c.file h)
    claim-moved = lines-moved (two_of ident_of word) any most c.lines c.file h

    -- another order of a complete claim's lines is complete, with the same values
    pub complete-reordered : CompleteClaim word z most ids t
    complete-reordered =
        record {
          lines = moved (two_of ident_of word) any most c.lines c.file h;
          file = file-moved (two_of ident_of word) any most c.lines c.file h;
          complete = covers-moved any ids z claim-moved c.complete;
          values = c.values;
          are = values_moved any ids z claim-moved c.are;
        }

  -- matches where that one does
  pub good-reordered : {Matches : List A → Type 0} → GoodClaim word z most ids Matches s → GoodClaim word z most ids Matches t
  unfolding complete-reordered
  good-reordered g = record { claim = complete-reordered g.claim; matches = g.matches }

  -- and has the same smallest vertex at fault, at the same line
  pub mismatch-reordered : {Wrong : List A → ℕ → Type 0} {i : ℕ} → MismatchClaim word z most ids Wrong i s
      → (j : ℕ) × (get_or h.others j [] ≡ get_or h.lines i []) × MismatchClaim word z most ids Wrong j t
  unfolding complete-reordered claim-moved lines-moved
  mismatch-reordered {Wrong} {i} g =
      let c = g.claim in
      let o = order (two_of ident_of word) any most c.lines c.file h in
      let l : i < length c.file.lines.words = omega (
        arith,
        g.reported.line,
        ids-length c.lines,
        says-length (two_of ident_of word) any c.file.lines.words c.lines c.file.lines.values,
      ) in (
        o.to i,
        o.same i l ∙ ap (λ (ws : List (List ℕ)). get_or ws i []) (sym (same_lines (two_of ident_of word) any most c.lines c.file h)),
        record {
          claim = complete-reordered c;
          vertex = g.vertex;
          first = g.first;
          reported = line-moved any ids (claim-moved c) g.reported;
        },
      )

module _ {A : Type 0} {word : List ℕ → Word A} {z : A} {most : ℕ} {ids : List ℤ} {Matches : List A → Type 0} {Wrong : List A → ℕ → Type 0}
    {s t : List ℕ} {x y : Said Verdict} (a : Judges word z most ids Matches Wrong s x) (b : Judges word z most ids Matches Wrong t y)
    (h : Shuffled s t) where
  -- verdict 0 or not, whatever the order
  pub order-free : (x ≡ gives matched) ↔ (y ≡ gives matched)
  order-free = (
    λ e. b.accepted.1 (good-reordered word z most ids h (a.accepted.0 e)),
    λ e. a.accepted.1 (good-reordered word z most ids (shuffled-back h) (b.accepted.0 e)),
  )

  -- a mismatch at the same line, wherever it stands
  pub same-fault : (i : ℕ) → x ≡ gives (mismatch_at (suc i))
      → (j : ℕ) × (get_or h.others j [] ≡ get_or h.lines i []) × (y ≡ gives (mismatch_at (suc j)))
  same-fault i e =
      let g = mismatch-reordered word z most ids h ((a.mismatched i).0 e) in (g.0, g.1, (b.mismatched g.0).1 g.2)

  -- complete where that one is
  pub still-complete : CompleteClaim word z most ids s → (y ≡ gives matched) ⊎ ((i : ℕ) × (y ≡ gives (mismatch_at (suc i))))
  still-complete claim = b.complete.1 (complete-reordered word z most ids h claim)
