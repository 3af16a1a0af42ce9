-- `wait_if` meets its contract.
use mathlib.Core.Path.{sym, ◌∙◌}
use Rattle.initiator.proofs.Initiator.wait_if.Goals as goal

pub returns-then-someone : goal.returns-then-someone
returns-then-someone c = rw (sym c.someone.ensures ∙ c.if-someone.true) c.wait.ensures

pub returns : goal.returns
returns c = rw (sym c.someone.ensures ∙ c.if-someone.false)
