-- `put_flags` meets its contract. The invariant: the flags so far are stored.
use Rattle.book.specs.Bounds.{most_processes}
use Rattle.machine.specs.Flags.{flag}
use Rattle.words.specs.Initiator.{flag_word}
use Rattle.words.proofs.Storing.{Stored}
use Rattle.state_words.proofs.put_flags.Given as goal

abbrev pub invariant-loop-i : goal.invariant-loop-i
invariant-loop-i l = Stored most_processes (λ p. flag_word (flag l.flags p)) l.initial.words l.at l.words l.i
