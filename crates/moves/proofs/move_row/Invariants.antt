-- `move_row` meets its contract. The invariant: the entries so far stand at their new place.
use Prim.Native.Nat.{◌*◌}
use Rattle.lists.proofs.Stores.{Stored}
use Rattle.moves.specs.Parts.{lowered}
use Rattle.moves.proofs.move_row.Given as goal

abbrev pub invariant-loop-p : goal.invariant-loop-p
invariant-loop-p l = Stored 16 (lowered l.initial.table l.from l.off) l.initial.table (l.to * 16) l.table l.p
