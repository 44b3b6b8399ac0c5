use Rattle.book.proofs.Entries.{length-fits, size_above, size_fits, size-cast, size-read}
use borrow.Author.Rules.{rules}
use Rattle.book.proofs.entry.size_at.Goals as goal

pub overflow_sub-entries : goal.overflow_sub-entries
overflow_sub-entries c = search length-fits

pub returns-then-entry-entries : goal.returns-then-entry-entries
returns-then-entry-entries c = search size_above

pub overflow_sub-result : goal.overflow_sub-result
overflow_sub-result c = search size_fits

pub overflow_cast-result : goal.overflow_cast-result
overflow_cast-result c = search (rules, size-cast)

pub returns : goal.returns
returns c = search size-read
