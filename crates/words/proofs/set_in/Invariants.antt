-- `set_in` meets its contract. The invariant: the numbers so far are the words.
use Rattle.book.specs.declared.Checkpoint.{Checkpoint}
use Rattle.book.specs.Bounds.{most_processes}
use Rattle.words.specs.Words.{word}
use Rattle.lists.proofs.Filling.{Filled}
use Rattle.words.proofs.set_in.Given as goal

abbrev pub invariant-loop-i : goal.invariant-loop-i
invariant-loop-i l = Filled {A = Checkpoint} (record { 0 = 0 }) l.initial.set most_processes (λ k. record { 0 = word l.words k }) l.set l.i
