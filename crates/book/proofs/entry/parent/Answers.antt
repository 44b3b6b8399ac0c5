use Rattle.book.proofs.Entries.{parent-cast, parent_is}
use borrow.Author.Rules.{rules}
use Rattle.book.proofs.entry.parent.Goals as goal

pub overflow_cast-result : goal.overflow_cast-result
overflow_cast-result c = search (rules, parent-cast)

pub returns : goal.returns
returns c = search parent_is
