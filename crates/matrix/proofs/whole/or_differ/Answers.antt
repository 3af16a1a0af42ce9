-- `or_differ` meets its contract.
use Rattle.matrix.proofs.whole.or_differ.Goals as goal

pub returns-then-ne : goal.returns-then-ne
returns-then-ne c = rw (← c.ne.ensures, c.if-ne.true)

pub returns-else-ne : goal.returns-else-ne
returns-else-ne c = rw (← c.ne.ensures, c.if-ne.false)
