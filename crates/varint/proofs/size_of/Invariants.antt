-- `varint::size_of` meets its contract. The invariant: the bytes counted and those of what is left are all but one.
-- Assumes nothing.
use Rattle.varint.proofs.WriteTurns.{Counted}
use Rattle.varint.proofs.size_of.Given as goal

abbrev pub invariant-loop-rest : goal.invariant-loop-rest
invariant-loop-rest l = Counted l.v l.rest l.n

abbrev pub decreases-loop-rest : goal.decreases-loop-rest
decreases-loop-rest l = l.rest
