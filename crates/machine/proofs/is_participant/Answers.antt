-- `is_participant` meets its contract.
use borrow.Author.Tests.{lt-ltb, le-ltb}
use Rattle.machine.proofs.is_participant.Goals as goal

pub returns-then-p-n : goal.returns-then-p-n
returns-then-p-n c = rw (lt-ltb c.args.p c.args.n c.if-p-n.true)

pub returns-else-p-n : goal.returns-else-p-n
returns-else-p-n c = rw (le-ltb c.args.p c.args.n c.if-p-n.false)
