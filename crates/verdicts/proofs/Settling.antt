-- Laws of a claim on a kernel's results: one for each way out of the code. Assumes nothing.
use Rattle.std.specs.Prelude.{Result, Ok, Err}
use mathlib.Core.Path.{◌≡◌, ap, ◌∙◌}
use mathlib.Core.Bool.{Bool, true, false}
use mathlib.Core.List.{List}
use Prim.Native.Nat.{ℕ, ◌≤◌}
use lib.IntN.{ℤ, pos}
use lib.ListN.{length, take, replicate, length-replicate}
use lib.Seq.{length-take-le}
use borrow.Author.Tests.{le-leb}
use Rattle.basis.specs.Refusal.{Said, gives, refuses, plain, no_room}
use Rattle.basis.specs.declared.refusal.Refusal.{Refusal}
use Rattle.graph.specs.Find.{bisected}
use Rattle.kernels.specs.Answer.{says as answers}
use Rattle.matching.specs.declared.judged.Verdict as judged
use Rattle.matching.specs.declared.numbers.Rule.{Rule}
use Rattle.matching.specs.Claim.{number_lines, coefficient_lines}
use Rattle.matching.specs.Verdict.{Verdict, says, mismatch_vertex, judged_by}
use Rattle.matching.specs.Calls as calls
use Rattle.verdicts.specs.Steps.{unless_refused, Worked, Known, Roomy, numbers}
use Rattle.verdicts.specs.Steps.{numbers_says, numbers_on, terms, terms_says, terms_on}

-- a working area that a judge has cleared, or left with its size, and that goes after a refusal
worked : {A : Type 0} (x : Said Verdict) (z : A) (before after : List A) → after ≡ replicate (length before) z → Worked x z before after
worked (gives v) z before after e = e
worked (refuses r) z before after e = ap length e ∙ length-replicate (length before) z

settled : {A : Type 0} (x : Said Verdict) (z : A) (before after : List A) → Worked x z before after → {left : List A}
    → left ≡ unless_refused x z after → left ≡ replicate (length before) z
settled (gives v) z before after w e = e ∙ w
settled (refuses r) z before after w e = e ∙ ap (λ (k : ℕ). replicate k z) w

pub all-numbers : {x y : Said Verdict} {a b c d : List ℤ} {e f : List ℕ} → x ≡ y → a ≡ b → c ≡ d → e ≡ f → numbers x a c e ≡ numbers y b d f
all-numbers p q r s = cc

pub all-terms : {x y : Said Verdict} {a b c d e f : List ℕ} → x ≡ y → a ≡ b → c ≡ d → e ≡ f → terms x a c e ≡ terms y b d f
all-terms p q r s = cc

-- a kernel that is done has the identifiers
pub known-ids : (answer : Result (Unit {0}) Refusal) (n size : ℕ) → answer ≡ Ok tt → Known (answers answer) n size → n ≤ size
known-ids answer n size e known = known (ap answers e)

-- ---- a claim of numbers on what a kernel has answered
module _ (answer : Result (Unit {0}) Refusal) (room : Bool) (rule : Rule) (most n : ℕ) (ids : List ℤ) (s : List ℕ) (R : List ℤ) where
  pub numbers-refused : (r : Refusal) → answer ≡ Err r → refuses r ≡ numbers_says (answers answer) room rule most (take n ids) (take n R) s
  unfolding numbers_says
  numbers-refused r e = rw e

  pub numbers-short : answer ≡ Ok tt → room ≡ false → (r : Refusal) → r ≡ plain no_room
      → refuses r ≡ numbers_says (answers answer) room rule most (take n ids) (take n R) s
  unfolding numbers_says
  numbers-short e h r p = rw (e, h, p)

  module _ (C : List ℤ) (L : List ℕ) where
    pub numbers-done : answer ≡ Ok tt → Known (answers answer) n (length ids) → room ≡ true
        → Roomy room n (length R) × Roomy room n (length C) × Roomy room n (length L)
        → (j : Result judged.Verdict Refusal) (C' : List ℤ) (L' : List ℕ)
        → calls.outcome (says j) C' L' ≡ calls.numbers_call rule most (take n ids) R s C L
        → (says j ≡ numbers_says (answers answer) room rule most (take n ids) (take n R) s)
        × ((Worked (says j) (pos 0) C C') × (Worked (says j) 0 L L'))
    unfolding numbers_says calls.numbers_call
    numbers-done e known t roomy j C' L' q =
        let l = length-take-le n ids (known-ids answer n (length ids) e known) in
        let f : says j ≡ judged_by (bisected (take n ids)) (length (take n ids)) (pos 0) (mismatch_vertex rule (take n R))
        (number_lines most s) =
        ap (λ (o : calls.Outcome). o.said) q
        ∙ rw (l, le-leb n (length R) (roomy.0 t), le-leb n (length C) (roomy.1 t), le-leb n (length L) (roomy.2 t)) in (
          rw (e, t) f,
          (
            worked (says j) (pos 0) C C' (ap (λ (o : calls.Outcome). o.claimed) q),
            worked (says j) 0 L L' (ap (λ (o : calls.Outcome). o.lines) q),
          ),
        )

    pub numbers-settled : (j : Result judged.Verdict Refusal) (D : List ℤ) (M : List ℕ)
        → says j ≡ numbers_says (answers answer) room rule most (take n ids) (take n R) s
        → (Worked (says j) (pos 0) C D) × (Worked (says j) 0 L M) → {R' C' : List ℤ} {L' : List ℕ} → R' ≡ unless_refused (says j) (pos 0) R
        → C' ≡ unless_refused (says j) (pos 0) D → L' ≡ unless_refused (says j) 0 M
        → numbers (says j) R' C' L' ≡ numbers_on (answers answer) room rule most n ids s R C L
    unfolding numbers_on
    numbers-settled j D M f w p q r =
        all-numbers f (p ∙ ap (λ (x : Said Verdict). unless_refused x (pos 0) R) f) (settled (says j) (pos 0) C D w.0 q)
        (settled (says j) 0 L M w.1 r)

-- ---- a claim of coefficients
module _ (answer : Result (Unit {0}) Refusal) (room : Bool) (most n : ℕ) (ids : List ℤ) (s F S : List ℕ) where
  pub terms-refused : (r : Refusal) → answer ≡ Err r → refuses r ≡ terms_says (answers answer) room most n ids s F S
  unfolding terms_says
  terms-refused r e = rw e

  pub terms-short : answer ≡ Ok tt → room ≡ false → (r : Refusal) → r ≡ plain no_room
      → refuses r ≡ terms_says (answers answer) room most n ids s F S
  unfolding terms_says
  terms-short e h r p = rw (e, h, p)

  module _ (L : List ℕ) where
    pub terms-done : answer ≡ Ok tt → Known (answers answer) n (length ids) → room ≡ true
        → Roomy room n (length F) × Roomy room n (length S) × Roomy room n (length L)
        → (j : Result judged.Verdict Refusal) (L' : List ℕ) → calls.told (says j) L' ≡ calls.coefficients_call most (take n ids) F S s L
        → (says j ≡ terms_says (answers answer) room most n ids s F S) × (Worked (says j) 0 L L')
    unfolding terms_says calls.coefficients_call
    terms-done e known t roomy j L' q =
        let l = length-take-le n ids (known-ids answer n (length ids) e known) in
        let f : says j
        ≡ judged_by (bisected (take n ids)) (length (take n ids)) calls.no_decimal (calls.far_within (calls.fractions n F S))
        (coefficient_lines most s) =
        ap (λ (o : calls.Told). o.said) q
        ∙ rw (l, le-leb n (length F) (roomy.0 t), le-leb n (length S) (roomy.1 t), le-leb n (length L) (roomy.2 t)) in
        (rw (e, t) f, worked (says j) 0 L L' (ap (λ (o : calls.Told). o.lines) q))

    pub terms-settled : (j : Result judged.Verdict Refusal) (M : List ℕ) → says j ≡ terms_says (answers answer) room most n ids s F S
        → Worked (says j) 0 L M → {F' S' L' : List ℕ} → F' ≡ unless_refused (says j) 0 F → S' ≡ unless_refused (says j) 0 S
        → L' ≡ unless_refused (says j) 0 M → terms (says j) F' S' L' ≡ terms_on (answers answer) room most n ids s F S L
    unfolding terms_on
    terms-settled j M f w p q r =
        all-terms f (p ∙ ap (λ (x : Said Verdict). unless_refused x 0 F) f) (q ∙ ap (λ (x : Said Verdict). unless_refused x 0 S) f)
        (settled (says j) 0 L M w r)
