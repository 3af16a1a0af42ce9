-- `must_step_back` meets its contract. The invariant: from the partners so far no more was received than they have sent.
use Prim.Native.Nat.{◌+◌, ◌*◌, ◌≤◌}
use lib.ListN.{get_or}
use Rattle.lists.proofs.Before.{Before}
use Rattle.finder.specs.Steps.{row_of}
use Rattle.finder.proofs.must_step_back.Given as goal

abbrev pub invariant-loop-p : goal.invariant-loop-p
invariant-loop-p l =
    Before l.n (λ q. get_or l.received (row_of l.at l.j * 16 + q) 0 ≤ get_or l.sent (row_of l.at q * 16 + l.j) 0) l.p
