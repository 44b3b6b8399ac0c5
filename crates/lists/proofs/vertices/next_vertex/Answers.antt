use borrow.Author.Rules.{rules}
use Rattle.lists.proofs.Handed.{handed_on}
use Rattle.lists.proofs.Reading.{vertex-none, vertex-bad, vertex-fault, vertex-more}
use Rattle.lists.proofs.vertices.next_vertex.Goals as goal

pub returns-in_default : goal.returns-in_default
returns-in_default c = vertex-none _ _ _ _ (rw c.in_default.is at c.vertex-line.ensures)

pub returns-in_err-z : goal.returns-in_err-z
returns-in_err-z c =
    rw (handed_on _ c.from_residual.ensures.1) (vertex-bad _ _ _ _ _ (rw c.in-Some.is at c.vertex-line.ensures) _ c.in_err-z.ensures)

pub returns-then-not-is_above : goal.returns-then-not-is_above
returns-then-not-is_above c = search (vertex-fault, rules)

pub returns : goal.returns
returns c = search (vertex-more, rules)
