-- `compare` meets its contract.
use mathlib.Core.Path.{sym, ap, ◌∙◌}
use Rattle.machine.specs.Flags.{someone}
use Rattle.initiator.specs.Step.{compare}
use Rattle.initiator.proofs.Initiator.compare.Goals as goal

pub returns-then-someone : goal.returns-then-someone
unfolding compare
returns-then-someone c = rw (ap someone (sym c.polled-to.ensures) ∙ (sym c.someone.ensures ∙ c.if-someone.true)) c.poll.ensures

pub returns : goal.returns
unfolding compare
returns c = rw (ap someone (sym c.polled-to.ensures) ∙ (sym c.someone.ensures ∙ c.if-someone.false)) c.terminate.ensures
