-- `counts_at` meets its contract. The invariant: the counters so far are those in the words.
use Prim.Native.Nat.{◌+◌}
use Rattle.book.specs.declared.Count.{Count}
use Rattle.words.specs.Words.{word, counter_in}
use Rattle.lists.proofs.Filling.{Filled}
use Rattle.words.proofs.counts_at.Given as goal

abbrev pub invariant-loop-i : goal.invariant-loop-i
invariant-loop-i g l =
    Filled {A = Count} (record { 0 = 0 }) l.initial.counts g.row.N (λ k. record { 0 = counter_in (word l.words (l.at + k)) }) l.counts l.i
