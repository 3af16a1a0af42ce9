-- `is_termination` meets its contract.
use borrow.Author.Tests.{eq-eqb, ne_eqb}
use Rattle.machine.proofs.is_termination.Goals as goal

pub returns-then-head-eq2 : goal.returns-then-head-eq2
returns-then-head-eq2 c = let a = c.args in
    rw (eq-eqb a.message.head.kind 2 c.if-head-eq2.true, c.pair_count.ensures.value)

pub returns-else-head-eq2 : goal.returns-else-head-eq2
returns-else-head-eq2 c = let a = c.args in
    rw (ne_eqb a.message.head.kind 2 c.if-head-eq2.false)
