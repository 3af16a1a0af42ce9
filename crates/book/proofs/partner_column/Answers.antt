-- `book::column` meets its contract.
use Rattle.book.specs.Tables.{partner_column}
use borrow.Author.Tests.{lt-ltb, le-ltb}
use Rattle.book.proofs.partner_column.Goals as goal

pub returns-then-k-j : goal.returns-then-k-j
unfolding partner_column
returns-then-k-j c = simp (lt-ltb _ _ c.if-k-j.true)

pub returns-else-k-j : goal.returns-else-k-j
unfolding partner_column
returns-else-k-j c = simp (le-ltb _ _ c.if-k-j.false)
