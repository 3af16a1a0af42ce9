-- `book::zero_if_asked` meets its contract.
use Rattle.book.proofs.zero_if_asked.Goals as goal

pub returns-then-zeros : goal.returns-then-zeros
returns-then-zeros c = rw c.if-zeros.true

pub returns-else-zeros : goal.returns-else-zeros
returns-else-zeros c = rw c.if-zeros.false
