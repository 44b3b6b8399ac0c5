use borrow.Author.Rules.{rules}
use Rattle.text.proofs.Decimals.{parts_none, parts_whole, parts-long, parts-point, parts-limit}
use Rattle.text.proofs.Stops.{parts-wrong, parts-good}
use Rattle.text.proofs.decimal.parts.Goals as goal

pub returns-then-w-eq0 : goal.returns-then-w-eq0
returns-then-w-eq0 c = search parts_none

pub returns-then-not-whole_is_good : goal.returns-then-not-whole_is_good
returns-then-not-whole_is_good c = search parts_whole

pub returns-then-p-gt-DIGITS : goal.returns-then-p-gt-DIGITS
returns-then-p-gt-DIGITS c = search parts-long

pub returns-then-w-f : goal.returns-then-w-f
returns-then-w-f c = search parts-point

pub returns-then-w-f-gt-DIGITS : goal.returns-then-w-f-gt-DIGITS
returns-then-w-f-gt-DIGITS c = search parts-limit

pub returns-in_err-power_at : goal.returns-in_err-power_at
returns-in_err-power_at c = search (parts-wrong, rules)

pub returns : goal.returns
returns c =
    parts-good _ _ _ _ _ c.if-w-eq0.false _ c.whole_is_good.ensures c.if-not-whole_is_good.false c.if-p-gt-DIGITS.false c.if-w-f.false
    c.if-w-f-gt-DIGITS.false _ c.in_ok-power_at.ensures _ c.with_power.ensures
