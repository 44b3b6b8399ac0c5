-- What is said of a claim, on its bytes: each answer exactly where the bytes are of its kind, by any of Graphalytics' three methods.
-- Assumes nothing.
use Rattle.std.specs.Prelude.{Option}
use mathlib.Core.Path.{◌≡◌, refl, sym, ap, ◌∙◌, subst}
use mathlib.Core.Bool.{true}
use mathlib.Core.Logic.{◌↔◌, ◌⊎◌, inl, inr}
use mathlib.Core.List.{List}
use Prim.Native.Nat.{ℕ, zero, suc, ◌≤◌}
use lib.IntN.{ℤ, pos}
use lib.ListN.{length}
use Rattle.basis.specs.declared.refusal.Refusal.{Refusal}
use Rattle.basis.specs.Refusal.{Said, gives, refuses, claim_file}
use Rattle.basis.specs.Order.{same_z, rising_z}
use Rattle.basis.proofs.Saids.{refused-given}
use Rattle.text.specs.Word.{ident_of}
use Rattle.text.specs.Decimal.{decimal_of}
use Rattle.text.specs.Line.{Form, line_by, two_of, ident_form, pair_form, decimal_form}
use Rattle.text.specs.File.{no_test, GoodFile, FirstFault}
use Rattle.text.specs.declared.decimal.Decimal.{Decimal}
use Rattle.text.proofs.Breaks.{RightStop, ident-right, decimal-right, pair-right}
use Rattle.text.proofs.Files.{file-accepted, file-refused}
use Rattle.graph.specs.Find.{place_in}
use Rattle.matching.specs.Claim.{claim_lines, number_lines, coefficient_lines, ids_of}
use Rattle.matching.specs.Cover.{in_order}
use Rattle.matching.specs.Verdict.{Verdict, matched, incomplete_at, mismatch_at, Fraction}
use Rattle.matching.specs.Verdict.{near, unequal_vertex, unlike_vertex, far_vertex, judged_by}
use Rattle.matching.specs.Good.{Least, Alike, Differs, Disagrees, EqualWhere, Covers}
use Rattle.matching.specs.Good.{CompleteClaim, GoodClaim, MismatchClaim, Judges}
use Rattle.matching.proofs.Leasts.{first-least, first-exactly, unlike-least}
use Rattle.matching.proofs.Covers.{line-covered, values_of, values_one}
use Rattle.matching.proofs.Meaning.{same-list, first-within, unlike-within, accepted-exactly}
use Rattle.matching.proofs.Meaning.{incomplete-exactly, mismatch-exactly, equal-exactly}

-- ---- a claim's lines, on its bytes: read exactly where they say the lines, at most so many; refused exactly at the first fault
module _ {A : Type 0} (form : Form A) (R : RightStop form) (most : ℕ) (s : List ℕ) where
  claim-read : (l : List (ℤ × A)) → (claim_lines (line_by (pair_form form)) most s ≡ gives l)
      ↔ GoodFile (two_of ident_of form.word) most no_test s l
  claim-read l = file-accepted (pair_form form) (pair-right form R) claim_file most no_test s l

  claim-refused : (r : Refusal) → (claim_lines (line_by (pair_form form)) most s ≡ refuses r)
      ↔ FirstFault (two_of ident_of form.word) claim_file most no_test s r
  claim-refused r = file-refused (pair_form form) (pair-right form R) claim_file most no_test s r

module _ (most : ℕ) (s : List ℕ) where
  pub numbers-read : (l : List (ℤ × ℤ)) → (number_lines most s ≡ gives l) ↔ GoodFile (two_of ident_of ident_of) most no_test s l
  numbers-read l = claim-read ident_form ident-right most s l

  pub numbers-refused : (r : Refusal)
      → (number_lines most s ≡ refuses r) ↔ FirstFault (two_of ident_of ident_of) claim_file most no_test s r
  numbers-refused r = claim-refused ident_form ident-right most s r

  pub coefficients-read : (l : List (ℤ × Decimal))
      → (coefficient_lines most s ≡ gives l) ↔ GoodFile (two_of ident_of decimal_of) most no_test s l
  coefficients-read l = claim-read decimal_form decimal-right most s l

  pub coefficients-refused : (r : Refusal) → (coefficient_lines most s ≡ refuses r)
      ↔ FirstFault (two_of ident_of decimal_of) claim_file most no_test s r
  coefficients-refused r = claim-refused decimal_form decimal-right most s r

-- ---- a verdict is given on lines that were read, and a refusal is theirs
module _ {A : Type 0} (place : ℤ → Option ℕ) (n : ℕ) (z : A) (mismatch : List A → ℕ) where
  on-lines : (x : Said (List (ℤ × A))) (v : Verdict) → judged_by place n z mismatch x ≡ gives v
      → (l : List (ℤ × A)) × (x ≡ gives l) × (judged_by place n z mismatch (gives l) ≡ gives v)
  unfolding judged_by
  on-lines (gives l) v e = (l, refl, e)
  on-lines (refuses r) v e = refused-given e

  on-fault : (x : Said (List (ℤ × A))) (r : Refusal) → (judged_by place n z mismatch x ≡ refuses r) ↔ (x ≡ refuses r)
  unfolding judged_by
  on-fault (gives l) r = (λ e. refused-given (sym e), λ e. refused-given (sym e))
  on-fault (refuses q) r = (λ e. cc, λ e. cc)

-- ---- by any method that says where values match and at which vertex they are wrong
module _ {A : Type 0} (form : Form A) (R : RightStop form) (z : A) (most : ℕ) (ids : List ℤ) (rises : rising_z ids ≡ true)
    (mismatch : List A → ℕ) (within : (vs : List A) → length vs ≡ length ids → mismatch vs ≤ length ids)
    (Matches : List A → Type 0) (Wrong : List A → ℕ → Type 0)
    (match : (vs : List A) → (mismatch vs ≡ 0) ↔ Matches vs)
    (wrong : (vs : List A) (i : ℕ) → (mismatch vs ≡ suc i) ↔ Least (Wrong vs) i)
    (s : List ℕ) where
  abbrev read : Said (List (ℤ × A))
  read = claim_lines (line_by (pair_form form)) most s

  abbrev judge : Said (List (ℤ × A)) → Said Verdict
  judge x = judged_by (place_in ids) (length ids) z mismatch x

  read_as : {l : List (ℤ × A)} {v : Verdict} → GoodFile (two_of ident_of form.word) most no_test s l
      → judge (gives l) ≡ gives v → judge read ≡ gives v
  read_as {l} g e = ap judge ((claim-read form R most s l).1 g) ∙ e

  -- the claim of lines that were read and are complete, and the values in vertex order as its values
  abbrev in_places : List (ℤ × A) → List A
  in_places l = in_order (place_in ids) z (length ids) l

  claim-of : (l : List (ℤ × A)) → read ≡ gives l → Covers ids (ids_of l) → CompleteClaim form.word z most ids s
  claim-of l e c =
      record {
        lines = l;
        file = (claim-read form R most s l).0 e;
        complete = c;
        values = in_places l;
        are = values_of ids rises z l c;
      }

  same-values : (c : CompleteClaim form.word z most ids s) → c.values ≡ in_places c.lines
  same-values c = values_one ids rises z c.lines c.complete c.values c.are

  to-accepted : judge read ≡ gives matched → GoodClaim form.word z most ids Matches s
  unfolding claim-of
  to-accepted e =
      let h = on-lines (place_in ids) (length ids) z mismatch read matched e in
      let m = (accepted-exactly ids rises z mismatch within h.0).0 h.2 in
      record { claim = claim-of h.0 h.1 m.0; matches = (match (in_places h.0)).0 m.1 }

  to-mismatch : (i : ℕ) → judge read ≡ gives (mismatch_at (suc i)) → MismatchClaim form.word z most ids Wrong i s
  unfolding claim-of
  to-mismatch i e =
      let h = on-lines (place_in ids) (length ids) z mismatch read (mismatch_at (suc i)) e in
      let m = (mismatch-exactly ids rises z mismatch within h.0 i).0 h.2 in
      record {
        claim = claim-of h.0 h.1 m.0;
        vertex = m.1.0;
        first = (wrong (in_places h.0) m.1.0).0 m.1.1;
        reported = m.1.2;
      }

  -- a complete claim matches, or its smallest vertex at fault has a line
  from-complete : CompleteClaim form.word z most ids s
      → (judge read ≡ gives matched) ⊎ ((i : ℕ) × (judge read ≡ gives (mismatch_at (suc i))))
  from-complete c =
      by (mismatch (in_places c.lines)) refl (within (in_places c.lines) (values_of ids rises z c.lines c.complete).long)
    where
      by : (m : ℕ) → mismatch (in_places c.lines) ≡ m → m ≤ length ids
          → (judge read ≡ gives matched) ⊎ ((i : ℕ) × (judge read ≡ gives (mismatch_at (suc i))))
      by zero e b = inl (read_as c.file ((accepted-exactly ids rises z mismatch within c.lines).1 (c.complete, e)))
      by (suc v) e b =
          let h = line-covered ids rises (ids_of c.lines) c.complete v b in
          inr (h.0, read_as c.file ((mismatch-exactly ids rises z mismatch within c.lines h.0).1 (c.complete, (v, e, h.2))))

  to-complete : (judge read ≡ gives matched) ⊎ ((i : ℕ) × (judge read ≡ gives (mismatch_at (suc i))))
      → CompleteClaim form.word z most ids s
  to-complete (inl e) = (to-accepted e).claim
  to-complete (inr e) = (to-mismatch e.0 e.1).claim

  pub judged-exactly : Judges form.word z most ids Matches Wrong s (judge read)
  judged-exactly =
      record {
        complete = (to-complete, from-complete);
        accepted = (
          to-accepted,
          λ g.
              read_as g.claim.file
              ((accepted-exactly ids rises z mismatch within g.claim.lines).1
              (g.claim.complete, (match (in_places g.claim.lines)).1 (subst Matches (same-values g.claim) g.matches))),
        );
        incomplete = λ i. (
          λ e.
              let h = on-lines (place_in ids) (length ids) z mismatch read (incomplete_at (suc i)) e in
              record {
                lines = h.0;
                file = (claim-read form R most s h.0).0 h.1;
                first = (incomplete-exactly ids rises z mismatch within h.0 i).0 h.2;
              },
          λ g. read_as g.file ((incomplete-exactly ids rises z mismatch within g.lines i).1 g.first),
        );
        mismatched = λ i. (
          to-mismatch i,
          λ g.
              read_as g.claim.file
              ((mismatch-exactly ids rises z mismatch within g.claim.lines i).1 (
                g.claim.complete,
                (
                  g.vertex,
                  (wrong (in_places g.claim.lines) g.vertex).1
                      (subst (λ (vs : List A). Least (Wrong vs) g.vertex) (same-values g.claim) g.first),
                  g.reported,
                ),
              )),
        );
        refused = λ r. (
          λ e. (claim-refused form R most s r).0 ((on-fault (place_in ids) (length ids) z mismatch read r).0 e),
          λ f. (on-fault (place_in ids) (length ids) z mismatch read r).1 ((claim-refused form R most s r).1 f),
        );
      }

-- ---- Graphalytics' three methods, beside reference outputs of one value for each vertex
module _ (most : ℕ) (ids : List ℤ) (rises : rising_z ids ≡ true) where
  -- "Exact match"
  pub exact-judged : (reference : List ℤ) → length reference ≡ length ids → (s : List ℕ)
      → Judges ident_of (pos 0) most ids (λ vs. vs ≡ reference) (Differs same_z (pos 0) (pos 0) reference) s
      (judged_by (place_in ids) (length ids) (pos 0) (unequal_vertex reference) (number_lines most s))
  exact-judged reference long s =
      judged-exactly ident_form ident-right (pos 0) most ids rises (unequal_vertex reference) (first-within ids same_z reference long)
      (λ vs. vs ≡ reference) (Differs same_z (pos 0) (pos 0) reference)
      (λ vs. same-list reference vs) (λ vs i. first-least same_z (pos 0) (pos 0) reference vs i) s

  -- "Equivalence match", where labels are equal exactly at vertices that belong together
  pub equivalence-judged : (labels : List ℤ) → length labels ≡ length ids → (Together : ℕ → ℕ → Type 0)
      → EqualWhere (length ids) Together labels → (s : List ℕ)
      → Judges ident_of (pos 0) most ids (EqualWhere (length ids) Together) (Disagrees labels) s
      (judged_by (place_in ids) (length ids) (pos 0) (unlike_vertex labels) (number_lines most s))
  equivalence-judged labels long Together same s =
      judged-exactly ident_form ident-right (pos 0) most ids rises (unlike_vertex labels) (unlike-within ids labels long)
      (EqualWhere (length ids) Together) (Disagrees labels)
      (λ vs. equal-exactly labels vs (length ids) long Together same) (λ vs i. unlike-least labels vs i) s

  -- "Epsilon match"
  pub epsilon-judged : (any : Decimal) (reference : List Fraction) → length reference ≡ length ids → (s : List ℕ)
      → Judges decimal_of any most ids (Alike near (0, 1) any reference) (Differs near (0, 1) any reference) s
      (judged_by (place_in ids) (length ids) any (far_vertex reference) (coefficient_lines most s))
  epsilon-judged any reference long s =
      judged-exactly decimal_form decimal-right any most ids rises (far_vertex reference) (first-within ids near reference long)
      (Alike near (0, 1) any reference) (Differs near (0, 1) any reference)
      (λ vs. first-exactly near (0, 1) any reference vs) (λ vs i. first-least near (0, 1) any reference vs i) s
