-- What a kernel's run leaves for the verdict, for any kernel; and that the verdict then is the definition's. Assumes nothing.
use Rattle.std.specs.Prelude.{Option}
use mathlib.Core.Path.{◌≡◌, refl, sym, ap, ap₂, ◌∙◌}
use mathlib.Core.Bool.{Bool, true, false}
use mathlib.Core.List.{List}
use Prim.Native.Nat.{ℕ, ◌-◌, ◌≤◌}
use lib.IntN.{ℤ, pos}
use lib.ListN.{length, take, replicate, length-replicate}
use lib.Seq.{take_at}
use Rattle.basis.specs.Refusal.{Said, gives, refuses, no_room, check}
use Rattle.basis.specs.Area.{leaves}
use Rattle.basis.proofs.Tests.{clash}
use Rattle.basis.proofs.Areas.{pad-length}
use Rattle.basis.proofs.Saids.{refused-given}
use Rattle.basis.specs.Order.{rising_z}
use Rattle.graph.specs.Find.{place_in, bisected}
use Rattle.kernels.specs.Answer.{kernel_says}
use Rattle.matching.specs.declared.numbers.Rule.{Rule}
use Rattle.matching.specs.Claim.{number_lines}
use Rattle.matching.specs.Verdict.{Verdict, mismatch_vertex, judged_by}
use Rattle.matching.proofs.Covers.{same-places}
use Rattle.verdicts.specs.Reference.{Reference}
use Rattle.verdicts.specs.Call.{then_says, verdict_says}
use Rattle.verdicts.specs.Steps.{unless_refused, Known, Roomy, Numbers, numbers_says, numbers_on, numbers_verdict}
use Rattle.verdicts.proofs.Settling.{all-numbers}

-- ---- what a kernel says
pub record Fine (sound given room : Bool) : Type 0 where
  pub is_sound : sound ≡ true
  pub is_given : given ≡ true
  pub has_room : room ≡ true

pub says-done : (a b : Bool) (m : ℕ) (r : Bool) → kernel_says a b m r ≡ gives tt → Fine a b r
unfolding kernel_says
says-done true true m true e = record { is_sound = refl; is_given = refl; has_room = refl }
says-done true true m false e = refused-given e
says-done true false m r e = refused-given e
says-done false b m r e = refused-given e

-- room in all areas is room in the kernel's own
pub says-rooms : (a b : Bool) (m : ℕ) (own room : Bool) (x : Said Verdict) → (room ≡ true → own ≡ true)
    → then_says (kernel_says a b m own) (check room no_room x) ≡ then_says (kernel_says a b m room) x
unfolding kernel_says
says-rooms true true m true true x h = refl
says-rooms true true m true false x h = refl
says-rooms true true m false true x h = clash (h refl) refl
says-rooms true true m false false x h = refl
says-rooms true false m own room x h = refl
says-rooms false b m own room x h = refl

pub then_same : (a : Said (Unit {0})) {x y : Said Verdict} → (a ≡ gives tt → x ≡ y) → then_says a x ≡ then_says a y
then_same (gives tt) h = h refl
then_same (refuses r) h = refl

-- ---- what it leaves in a result area
module _ {A : Type 0} (z : A) (size : ℕ) (l : List A) where
  leaves-length : (a : Said (Unit {0})) → (a ≡ gives tt → length l ≤ size) → length (leaves a z size l) ≡ size
  leaves-length (gives tt) h = pad-length z size l (h refl)
  leaves-length (refuses r) h = length-replicate size z

  leaves-front : (a : Said (Unit {0})) (n : ℕ) → a ≡ gives tt → length l ≡ n → take n (leaves a z size l) ≡ l
  leaves-front (gives tt) n e h = take_at l (replicate (size - length l) z) n h
  leaves-front (refuses r) n e h = refused-given e

  -- the claim's verdict or refusal, on top of it
  area-leaves : (a : Said (Unit {0})) (x : Said Verdict) → (a ≡ gives tt → length l ≤ size)
      → unless_refused (then_says a x) z (leaves a z size l) ≡ leaves (then_says a x) z size l
  area-leaves (gives tt) (gives v) h = refl
  area-leaves (gives tt) (refuses r) h = ap (λ (k : ℕ). replicate k z) (pad-length z size l (h refl))
  area-leaves (refuses r) x h = ap (λ (k : ℕ). replicate k z) (length-replicate size z)

-- ---- a kernel of n vertices, after its run on a result area of so many places
pub record Ran {A : Type 0} (z : A) (given : Bool) (number : ℕ) (values : List A) (n count : ℕ) (sound own : Bool) (size : ℕ)
    (answer : Said (Unit {0})) (left : List A) : Type 0 where
  pub said : answer ≡ kernel_says sound given number own
  pub leaving : left ≡ leaves answer z size values
  pub whole : sound ≡ true → given ≡ true → length values ≡ n
  pub known : sound ≡ true → n ≤ count
  pub own_room : own ≡ true → n ≤ size

module _ {A : Type 0} {z : A} {given : Bool} {number : ℕ} {values : List A} {n count : ℕ} {sound own : Bool} {size : ℕ}
    {answer : Said (Unit {0})} {left : List A}
    (h : Ran z given number values n count sound own size answer left) where
  pub ran-fine : answer ≡ gives tt → Fine sound given own
  ran-fine e = says-done sound given number own (sym h.said ∙ e)

  pub ran-known : Known answer n count
  ran-known e = h.known (ran-fine e).is_sound

  lengths : answer ≡ gives tt → length values ≡ n
  lengths e = h.whole (ran-fine e).is_sound (ran-fine e).is_given

  fits : answer ≡ gives tt → length values ≤ size
  fits e = rw (lengths e) (h.own_room (ran-fine e).has_room)

  ran-length : length left ≡ size
  ran-length = ap length h.leaving ∙ leaves-length z size values answer fits

  pub ran-roomy : {room : Bool} → Roomy room n size → Roomy room n (length left)
  ran-roomy f e = rw ran-length (f e)

  pub ran-front : answer ≡ gives tt → take n left ≡ values
  ran-front e = ap (take n) h.leaving ∙ leaves-front z size values answer n e (lengths e)

  pub ran-leaves : (x : Said Verdict) {y : Said Verdict} → then_says answer x ≡ y
      → unless_refused (then_says answer x) z left ≡ leaves y z size values
  ran-leaves x e =
      ap (unless_refused (then_says answer x) z) h.leaving ∙ area-leaves z size values answer x fits
      ∙ ap (λ (w : Said Verdict). leaves w z size values) e

-- ---- the verdict on numbers, by identifiers that rise
module _ (k : Reference) {n : ℕ} (ids : List ℤ) {sound own : Bool} (R : List ℤ) {answer : Said (Unit {0})} {R' : List ℤ}
    (h : Ran (pos 0) k.given k.number k.values n (length ids) sound own (length R) answer R')
    (rises : sound ≡ true → rising_z (take n ids) ≡ true)
    {room : Bool} (r : room ≡ true → own ≡ true) (rule : Rule) (most : ℕ) (s : List ℕ)
    (q : k.judged
    ≡ judged_by (place_in (take n ids)) (length (take n ids)) (pos 0) (mismatch_vertex rule k.values) (number_lines most s)) where
  says_same : numbers_says answer room rule most (take n ids) (take n R') s ≡ verdict_says k sound room
  unfolding numbers_says verdict_says
  says_same =
      then_same answer
      (λ e. ap₂ (λ (l : List ℤ) (f : ℤ → Option ℕ). check room no_room
      (judged_by f (length (take n ids)) (pos 0) (mismatch_vertex rule l) (number_lines most s)))
      (ran-front h e) (same-places (take n ids) (rises (ran-fine h e).is_sound)))
      ∙ rw (h.said, ← q) (says-rooms sound k.given k.number own room k.judged r)

  pub numbers-verdict : (C : List ℤ) (L : List ℕ) {x : Numbers} → x ≡ numbers_on answer room rule most n ids s R' C L
      → x ≡ numbers_verdict k sound room R C L
  unfolding numbers_on numbers_verdict numbers_says
  numbers-verdict C L p =
      p ∙ all-numbers says_same
      (ran-leaves h (check room no_room
      (judged_by (bisected (take n ids)) (length (take n ids)) (pos 0) (mismatch_vertex rule (take n R')) (number_lines most s))) says_same)
      refl refl
