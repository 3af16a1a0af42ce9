-- `varint::put_number` meets its contract. The invariant: with the bytes of what is left written as well, `out` is as
-- the contract says.
-- Assumes nothing.
use Rattle.varint.proofs.WriteTurns.{Put}
use Rattle.varint.proofs.put_number.Given as goal

abbrev pub invariant-loop-left : goal.invariant-loop-left
invariant-loop-left l = Put l.v l.initial.out l.at l.out l.left l.i

abbrev pub decreases-loop-left : goal.decreases-loop-left
decreases-loop-left l = l.left
