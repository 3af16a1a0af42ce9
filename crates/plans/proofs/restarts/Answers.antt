-- `restarts` meets its contract.
use borrow.Author.Tests.{eq-eqb, ne_eqb}
use Rattle.plans.proofs.restarts.Goals as goal

pub returns-then-purpose-eq2 : goal.returns-then-purpose-eq2
returns-then-purpose-eq2 c = rw (eq-eqb c.args.purpose 2 c.if-purpose-eq2.true)

pub returns-else-purpose-eq2 : goal.returns-else-purpose-eq2
returns-else-purpose-eq2 c = rw (ne_eqb c.args.purpose 2 c.if-purpose-eq2.false)
