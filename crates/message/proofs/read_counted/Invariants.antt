-- `read_counted` meets its contract. The invariant: what is left to ask is asked of the numbers that follow.
use Rattle.message.proofs.PairLoop.{Sofar}
use Rattle.message.specs.Parts.{end_number}
use Rattle.message.proofs.read_counted.Given as goal

abbrev pub invariant-loop-k : goal.invariant-loop-k
invariant-loop-k l = Sofar l.n (end_number l.end) l.s l.at l.count l.news l.last l.next l.k
