-- `book::entry_before` meets its contract.
use Rattle.book.proofs.entry_before.Goals as goal

pub overflow_sub-at : goal.overflow_sub-at
overflow_sub-at c = c.requires.1 c.if-oldest.false

pub returns-then-oldest : goal.returns-then-oldest
returns-then-oldest c = rw c.if-oldest.true

pub returns-else-oldest : goal.returns-else-oldest
returns-else-oldest c = rw c.if-oldest.false c.from.ensures
