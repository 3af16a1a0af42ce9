-- `flags_at` meets its contract. The invariant: the flags so far are the words.
use mathlib.Core.Bool.{false}
use Prim.Native.Nat.{◌+◌}
use Rattle.book.specs.Bounds.{most_processes}
use Rattle.words.specs.Words.{word}
use Rattle.words.specs.Initiator.{flag_in}
use Rattle.lists.proofs.Filling.{Filled}
use Rattle.state_words.proofs.flags_at.Given as goal

abbrev pub invariant-loop-i : goal.invariant-loop-i
invariant-loop-i l = Filled false l.initial.flags most_processes (λ k. flag_in (word l.words (l.at + k))) l.flags l.i
