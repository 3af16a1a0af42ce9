-- `test_row` meets its contract. The invariant: from the partners so far no more was received than is known to be
-- sent.
use Prim.Native.Nat.{◌≤◌}
use Rattle.book.specs.View.{counter_from}
use Rattle.lists.proofs.Before.{Before}
use Rattle.consistency.specs.Known.{counters}
use Rattle.consistency.proofs.test_row.Given as goal

abbrev pub invariant-loop-p : goal.invariant-loop-p
invariant-loop-p l = Before l.n (λ q. counter_from l.received l.first l.r.0 q ≤ counters l.known q) l.p
