-- `above` meets its contract: the bytes that wait.
use mathlib.Core.Path.{ap, ◌∙◌}
use Prim.Native.Nat.{◌-◌}
use Rattle.session.specs.Held.{held_up}
use Rattle.session_check.proofs.Holding.{its_bytes}
use Rattle.session_check.proofs.held.above.Goals as goal

pub returns : goal.returns
returns c =
    let a = c.args in
    c.held_up.ensures
    ∙ ap (held_up a.n a.machine) (its_bytes a.n (a.initiator.0 - 1) a.waits a.strands.now a.k c.strand_start-at.ensures.value)
