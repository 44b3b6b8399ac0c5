use mathlib.Core.Path.{sym, ap, ◌∙◌}
use borrow.Author.Tests.{ltb-false}
use Rattle.std.specs.Prelude.{is_some}
use Rattle.text.specs.Word.{is_digit}
use Rattle.text.proofs.Bytes.{digit-is}
use Rattle.text.proofs.Scans.{count_past, count-zero, count-none, count-run}
use Rattle.text.proofs.count.count.Goals as goal

pub returns-in-Some-eq48 : goal.returns-in-Some-eq48
returns-in-Some-eq48 c =
    let l = c.in-Some-eq48.ensures.lookup.3 in count-zero _ _ l.0 (sym (l.1 0) ∙ c.in-Some-eq48.field-0-test)

pub returns-in-Some : goal.returns-in-Some
returns-in-Some c =
    let b = c.in-Some.ensures.lookup.3.1 0 in
    let d = c.if-is_ascii_digit.ensures.cases in
    count-run _ _ (λ q. c.in-Some.b-test.1 (b ∙ q)) _ (rw b at d.0) (rw b at d.1) c.digits.ensures

pub returns-in_default : goal.returns-in_default
returns-in_default c =
    count-none _ _
    (ap is_digit (sym (c.in-Some.ensures.lookup.3.1 0)) ∙ sym (digit-is _) ∙ sym c.is_ascii_digit.ensures.value
    ∙ c.if-is_ascii_digit.false)

pub returns-in_default-2 : goal.returns-in_default-2
returns-in_default-2 c = count_past _ _ (ltb-false _ _ (sym c.get.ensures.lookup.0 ∙ ap is_some c.in_default.is))
