use Rattle.trace.specs.Book.{reading_value}
use Rattle.trace.proofs.Codes.{readable-by, coded_by}
use Rattle.trace.proofs.Books.{limit-readable}
use Rattle.trace.proofs.group_book.trace_book_limit.Goals as goal

pub code-requires : goal.code-requires
code-requires c = readable-by c.step_limit.ensures (limit-readable _ _)

pub returns : goal.returns
returns c = coded_by reading_value _ _ _ c.step_limit.ensures c.code.ensures
