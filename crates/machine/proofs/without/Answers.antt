-- `without` meets its contract.
use borrow.Author.Rules.{rules}
use Prim.Native.Nat.{◌-◌}
use mathlib.Core.Bool.{false, not, ◌&&◌}
use lib.Dec.{eqb}
use Rattle.machine.specs.Flags.{flag}
use Rattle.matrix.proofs.Made.{made_is}
use Rattle.machine.proofs.without.Goals as goal

pub returns : goal.returns
returns c = let a = c.args in
    made_is _ (λ k. flag a.flags k && not (eqb k (a.j.0 - 1))) false _ (λ i y q k. search rules) _ 16 c.from_fn.ensures.items
