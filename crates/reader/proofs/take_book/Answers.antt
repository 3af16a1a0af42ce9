-- `reader::take_book` meets its contract: at each return the tests that led there say which question fails.
use mathlib.Core.Path.{sym, ◌∙◌}
use Rattle.reader.proofs.BookTurns.{book_short, book_none, book_many, book_taken}
use Rattle.reader.proofs.take_book.Goals as goal

pub returns-in_default : goal.returns-in_default
returns-in_default c = book_short _ _ _ (sym c.read_number.ensures ∙ c.in_default.is)

pub returns-then-n-lt1 : goal.returns-then-n-lt1
returns-then-n-lt1 c = book_none _ _ _ _ _ (sym c.in-Some.ensures) c.if-n-lt1.true

pub returns-then-n : goal.returns-then-n
returns-then-n c = book_many _ _ _ _ _ (sym c.in-Some.ensures) c.if-n-lt1.false c.if-n.true

pub returns : goal.returns
returns c = book_taken _ _ _ _ _ (sym c.in-Some.ensures) _ c.if-n-lt1.false c.if-n.false c.take_processes.ensures
