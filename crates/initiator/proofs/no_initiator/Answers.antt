-- `no_initiator` meets its contract.
use mathlib.Core.Path.{ap, ◌∙◌}
use mathlib.Core.List.{List}
use Rattle.book.specs.declared.Count.{Count}
use Rattle.matrix.proofs.Rows.{one_value}
use Rattle.initiator.specs.Begin.{without_wait}
use Rattle.initiator.specs.Calls.{no_initiator}
use Rattle.initiator.proofs.no_initiator.Goals as goal

pub returns : goal.returns
unfolding no_initiator
returns c = c.without_wait.ensures ∙ ap (λ (m : List Count). without_wait 0 (record { 0 = 0 }) 0 0 m) (one_value 0)
