use mathlib.Core.Path.{◌∙◌}
use Rattle.book.specs.Says.{as_joining}
use Rattle.trace.specs.Book.{join_value}
use Rattle.trace.proofs.Codes.{readable-mapped, coded-mapped}
use Rattle.trace.proofs.Books.{book-readable, book-told, join-readable}
use Rattle.trace.proofs.group_book.trace_book_join.Goals as goal

pub code-requires : goal.code-requires
code-requires c = readable-mapped as_joining join_value _ (search (book-readable join_value, join-readable))

pub returns : goal.returns
returns c = book-told join_value _ _ _ c.join.ensures _ (c.code.ensures ∙ coded-mapped as_joining join_value _)
