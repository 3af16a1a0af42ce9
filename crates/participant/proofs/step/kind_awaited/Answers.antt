-- `kind_awaited` meets its contract.
use mathlib.Core.Path.{sym, ap}
use Rattle.participant.specs.declared.Stage.{Stage}
use Rattle.participant.specs.Step.{kind_awaited}
use Rattle.participant.proofs.step.kind_awaited.Goals as goal

pub returns-in-Before : goal.returns-in-Before
returns-in-Before c = ap (λ (s : Stage). kind_awaited s c.args.kind) (sym c.in-Before.is)

pub returns-in-Searching : goal.returns-in-Searching
returns-in-Searching c = ap (λ (s : Stage). kind_awaited s c.args.kind) (sym c.in-Searching.is)
