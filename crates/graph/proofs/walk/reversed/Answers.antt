use Rattle.graph.proofs.Walks.{ways-room, ways-stop, ways-told}
use borrow.Author.Rules.{rules}
use Rattle.graph.proofs.walk.reversed.Goals as goal

pub returns-then-not-all_walked : goal.returns-then-not-all_walked
returns-then-not-all_walked c = search ways-stop

pub at_ends-requires : goal.at_ends-requires
at_ends-requires c = (search ways-room, search rules)

pub returns : goal.returns
returns c = search ways-told
