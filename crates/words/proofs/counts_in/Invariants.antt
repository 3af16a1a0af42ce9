-- `counts_in` meets its contract. The invariant: the counters so far are the entries.
use lib.ListN.{get_or}
use Rattle.book.specs.declared.Count.{Count}
use Rattle.book.specs.Bounds.{most_processes}
use Rattle.lists.proofs.Filling.{Filled}
use Rattle.words.proofs.counts_in.Given as goal

abbrev pub invariant-loop-i : goal.invariant-loop-i
invariant-loop-i l =
    Filled {A = Count} (record { 0 = 0 }) l.initial.counts most_processes (λ k. record { 0 = get_or l.entries k 0 }) l.counts l.i
