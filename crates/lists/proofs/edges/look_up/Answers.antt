use borrow.Author.Rules.{rules}
use Rattle.lists.proofs.edges.look_up.Goals as goal

pub returns : goal.returns
returns c = search rules
