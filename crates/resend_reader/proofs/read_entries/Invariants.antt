-- `read_entries` meets its contract. The invariant: what is left to ask is asked of the numbers that follow.
use Rattle.resend_reader.proofs.EntryLoop.{Sofar}
use Rattle.resend_reader.proofs.read_entries.Given as goal

abbrev pub invariant-loop-k : goal.invariant-loop-k
invariant-loop-k l =
    Sofar l.n l.s l.at l.count l.list.first l.list.last l.sender l.receiver l.next l.k
