use Rattle.trace.specs.Book.{reading_value}
use Rattle.trace.proofs.Codes.{readable-by, coded_by}
use Rattle.trace.proofs.Books.{count-readable}
use Rattle.trace.proofs.group_book.trace_book_count.Goals as goal

pub code-requires : goal.code-requires
code-requires c = readable-by c.group_count.ensures (count-readable _)

pub returns : goal.returns
returns c = coded_by reading_value _ _ _ c.group_count.ensures c.code.ensures
