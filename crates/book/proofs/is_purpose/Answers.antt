-- `is_purpose` meets its contract.
use borrow.Author.Tests.{le-leb, lt-leb}
use Rattle.book.proofs.is_purpose.Goals as goal

pub returns-then-purpose-ge1 : goal.returns-then-purpose-ge1
returns-then-purpose-ge1 c = rw (le-leb 1 c.args.purpose c.if-purpose-ge1.true)

pub returns-else-purpose-ge1 : goal.returns-else-purpose-ge1
returns-else-purpose-ge1 c = rw (lt-leb 1 c.args.purpose c.if-purpose-ge1.false)
