use mathlib.Core.Path.{◌∙◌}
use borrow.Author.Tests.{lt-ltb, ne_eqb}
use Rattle.book.proofs.Joins.{above-larger, above-smaller, above_equal}
use Rattle.book.proofs.joining.goes_above.Goals as goal

pub returns-then-b-a : goal.returns-then-b-a
returns-then-b-a c = lt-ltb _ _ c.if-b-a.true ∙ above-larger _ _ _ _ c.if-b-a.true

pub returns-then-a-b : goal.returns-then-a-b
returns-then-a-b c = search above_equal

pub returns-else-a-b : goal.returns-else-a-b
returns-else-a-b c = ne_eqb _ _ c.if-a-b.false ∙ above-smaller _ _ _ _ c.if-b-a.false c.if-a-b.false
