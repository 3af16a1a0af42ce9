-- `only_to` meets its contract.
use Prim.Native.Nat.{◌-◌}
use native.Mathlib.Omega.{arith}
use Rattle.machine.specs.Sends.{only_to}
use Rattle.machine.proofs.Flags.{one_set}
use Rattle.machine.proofs.only_to.Goals as goal

pub returns : goal.returns
unfolding only_to
returns c = let a = c.args in
    let pre = c.requires in
    λ i. record { head = a.head; to = one_set (a.receiver.0 - 1) (omega (arith, pre)) i; news = c.for_each-all.ensures i }
