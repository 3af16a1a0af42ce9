-- `is_named` meets its contract.
use borrow.Author.Tests.{le-leb, lt-leb}
use Rattle.book.proofs.is_named.Goals as goal

pub returns-then-process-ge1 : goal.returns-then-process-ge1
returns-then-process-ge1 c = rw (le-leb 1 c.args.process c.if-process-ge1.true)

pub returns-else-process-ge1 : goal.returns-else-process-ge1
returns-else-process-ge1 c = rw (lt-leb 1 c.args.process c.if-process-ge1.false)
