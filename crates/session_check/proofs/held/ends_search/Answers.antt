-- `ends_search` meets its contract.
use Rattle.session_check.proofs.Holding.{ends_yes, ends_if}
use Rattle.session_check.proofs.held.ends_search.Goals as goal

pub returns-then-head-eq2 : goal.returns-then-head-eq2
returns-then-head-eq2 c = ends_yes c.args.message c.if-head-eq2.true

pub returns-else-head-eq2 : goal.returns-else-head-eq2
returns-else-head-eq2 c = ends_if c.args.message c.if-head-eq2.false c.is_termination.ensures
