-- `put_counts` meets its contract. The invariant: the counters so far are stored.
use Rattle.consistency.specs.Known.{counters}
use Rattle.words.proofs.Storing.{Stored}
use Rattle.words.proofs.put_counts.Given as goal

abbrev pub invariant-loop-i : goal.invariant-loop-i
invariant-loop-i g l = Stored g.row.N (counters l.counts) l.initial.words l.at l.words l.i
