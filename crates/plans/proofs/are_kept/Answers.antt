-- `are_kept` meets its contract.
use mathlib.Core.Path.{sym, ◌∙◌}
use Rattle.plans.proofs.are_kept.Goals as goal

pub returns-then-restarts : goal.returns-then-restarts
returns-then-restarts c = rw (sym c.restarts.ensures ∙ c.if-restarts.true)

pub returns-else-restarts : goal.returns-else-restarts
returns-else-restarts c = rw (sym c.restarts.ensures ∙ c.if-restarts.false)
