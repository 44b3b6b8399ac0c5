use mathlib.Core.Path.{sym, ap, ◌∙◌}
use borrow.Author.Tests.{ltb-false}
use Rattle.std.specs.Prelude.{is_some}
use Rattle.text.specs.Word.{is_digit}
use Rattle.text.proofs.Bytes.{digit-is}
use Rattle.text.proofs.Decimals.{digit-none, digit-past, digit-some}
use Rattle.text.proofs.decimal.digit_at.Goals as goal

pub returns-in-Some : goal.returns-in-Some
returns-in-Some c =
    let d = c.if-is_ascii_digit.ensures.cases in digit-some _ _ _ (c.in-Some.ensures.lookup.3.1 0) d.0 d.1

pub returns-in_default : goal.returns-in_default
returns-in_default c =
    digit-none _ _
    (ap is_digit (sym (c.in-Some.ensures.lookup.3.1 0)) ∙ sym (digit-is _) ∙ sym c.is_ascii_digit.ensures.value
    ∙ c.if-is_ascii_digit.false)

pub returns-in_default-2 : goal.returns-in_default-2
returns-in_default-2 c = digit-past _ _ (ltb-false _ _ (sym c.get.ensures.lookup.0 ∙ ap is_some c.in_default.is))
