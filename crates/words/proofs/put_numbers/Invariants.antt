-- `put_numbers` meets its contract. The invariant: the numbers so far are stored.
use lib.ListN.{get_or}
use Rattle.book.specs.Bounds.{most_processes}
use Rattle.words.proofs.Storing.{Stored}
use Rattle.words.proofs.put_numbers.Given as goal

abbrev pub invariant-loop-i : goal.invariant-loop-i
invariant-loop-i l = Stored most_processes (λ k. get_or l.numbers k 0) l.initial.words l.at l.words l.i
