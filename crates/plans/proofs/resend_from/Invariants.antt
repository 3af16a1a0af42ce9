-- `resend_from` meets its contract. The invariant: so many entries, row after row, are those of the two counts.
use Prim.Native.Nat.{◌*◌}
use Rattle.lists.proofs.Filling.{Filled}
use Rattle.book.proofs.Values.{tally}
use Rattle.consistency.specs.Known.{counters}
use Rattle.restart.specs.Plan.{first_missing, last_missing}
use Rattle.plans.proofs.resend_from.Given as goal

abbrev pub invariant-loop-i : goal.invariant-loop-i
invariant-loop-i l =
    Filled (tally 0) l.initial.first (l.n * 16) (λ k. tally (first_missing (counters l.received k) (counters l.sent k))) l.first l.i
    × Filled (tally 0) l.initial.last (l.n * 16) (λ k. tally (last_missing (counters l.received k) (counters l.sent k))) l.last l.i
