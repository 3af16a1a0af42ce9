-- `put_row` meets its contract. The invariant: the counters so far stand at their place.
use Prim.Native.Nat.{◌*◌}
use lib.ListN.{get_or}
use Rattle.lists.proofs.Stores.{Stored}
use Rattle.book.specs.Bounds.{row_width}
use Rattle.journal_reader.proofs.filling.put_row.Given as goal

abbrev pub invariant-loop-p : goal.invariant-loop-p
invariant-loop-p l = Stored row_width (λ q. get_or l.counters q 0) l.initial.table (l.row * row_width) l.table l.p
