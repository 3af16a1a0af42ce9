-- `put_set` meets its contract. The invariant: the checkpoint numbers so far are stored.
use Rattle.book.specs.Bounds.{most_processes}
use Rattle.consistency.specs.Set.{chosen}
use Rattle.words.proofs.Storing.{Stored}
use Rattle.words.proofs.put_set.Given as goal

abbrev pub invariant-loop-i : goal.invariant-loop-i
invariant-loop-i l = Stored most_processes (chosen l.set) l.initial.words l.at l.words l.i
