-- `varint::read_number` meets its contract. The invariant: what the groups so far make, joined to the number of the
-- groups to come, is the whole.
-- Assumes nothing.
use Rattle.varint.proofs.ReadTurns.{Sofar}
use Rattle.varint.proofs.read_number.Given as goal

abbrev pub invariant-loop-k : goal.invariant-loop-k
invariant-loop-k l = Sofar l.s l.at l.groups l.value l.shift l.k l.i
