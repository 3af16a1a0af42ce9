-- `participants` meets its contract.
use borrow.Author.Rules.{rules}
use Prim.Native.Nat.{◌-◌}
use mathlib.Core.Bool.{false}
use Rattle.machine.specs.Named.{is_participant}
use Rattle.machine.specs.Flags.{participants}
use Rattle.matrix.proofs.Made.{made_is}
use Rattle.machine.proofs.participants.Goals as goal

pub returns : goal.returns
unfolding participants
returns c = let a = c.args in
    made_is _ (λ k. is_participant a.n (a.me.0 - 1) k) false _ (λ i y q k. search rules) _ 16 c.from_fn.ensures.items
