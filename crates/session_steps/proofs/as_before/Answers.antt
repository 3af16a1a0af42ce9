-- `as_before` meets its contract.
use Rattle.session_steps.proofs.Steps.{before_is}
use Rattle.session_steps.proofs.as_before.Goals as goal

pub returns : goal.returns
returns c = before_is c.args.session c.nothing.result c.nothing.ensures
