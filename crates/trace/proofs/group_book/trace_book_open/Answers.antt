use Rattle.trace.specs.Code.{nothing}
use Rattle.trace.proofs.Books.{book-readable, book-told, open-readable}
use Rattle.trace.proofs.group_book.trace_book_open.Goals as goal

pub code-requires : goal.code-requires
code-requires c = search (book-readable nothing, open-readable)

pub returns : goal.returns
returns c = search (book-told nothing)
