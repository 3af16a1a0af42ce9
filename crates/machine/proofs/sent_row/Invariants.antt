-- `sent_row` meets its contract. The invariant: the entries so far are the checkpoint's.
use Rattle.lists.proofs.Filling.{Filled}
use Rattle.book.specs.View.{counter_from}
use Rattle.book.proofs.Values.{tally}
use Rattle.machine.proofs.sent_row.Given as goal

abbrev pub invariant-loop-p : goal.invariant-loop-p
invariant-loop-p l =
    Filled (tally 0) l.initial.entries 16 (λ q. tally (counter_from l.sent l.first l.r.0 q)) l.entries l.p
