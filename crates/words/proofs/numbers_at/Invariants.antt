-- `numbers_at` meets its contract. The invariant: the numbers so far are the words.
use Prim.Native.Nat.{◌+◌}
use Rattle.book.specs.Bounds.{most_processes}
use Rattle.words.specs.Words.{word}
use Rattle.lists.proofs.Filling.{Filled}
use Rattle.words.proofs.numbers_at.Given as goal

abbrev pub invariant-loop-i : goal.invariant-loop-i
invariant-loop-i l = Filled 0 l.initial.numbers most_processes (λ k. word l.words (l.at + k)) l.numbers l.i
