use mathlib.Core.Path.{◌∙◌}
use Rattle.book.specs.Says.{as_end}
use Rattle.trace.specs.Book.{head_value}
use Rattle.trace.proofs.Codes.{readable-by, readable-mapped, coded_by, coded-mapped}
use Rattle.trace.proofs.Books.{head-readable}
use Rattle.trace.proofs.group_book.trace_book_head.Goals as goal

pub code-requires : goal.code-requires
code-requires c = readable-mapped as_end head_value _ (readable-by c.head.ensures (head-readable _ _))

pub returns : goal.returns
returns c = coded_by head_value _ _ _ c.head.ensures (c.code.ensures ∙ coded-mapped as_end head_value _)
