-- `pair_count` meets its contract. The invariant: the count so far.
use Rattle.consistency.specs.Known.{counters}
use Rattle.message.proofs.Pairs.{Counted}
use Rattle.message.proofs.pair_count.Given as goal

abbrev pub invariant-loop-p : goal.invariant-loop-p
invariant-loop-p l = Counted (counters l.news) l.p l.count
