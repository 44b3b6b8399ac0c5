use Rattle.trace.specs.Book.{same_value}
use Rattle.trace.proofs.Codes.{readable-by, coded_by}
use Rattle.trace.proofs.Books.{same-readable}
use Rattle.trace.proofs.group_book.trace_book_same.Goals as goal

pub code-requires : goal.code-requires
code-requires c = readable-by c.same_group.ensures (same-readable _ _ _)

pub returns : goal.returns
returns c = coded_by same_value _ _ _ c.same_group.ensures c.code.ensures
