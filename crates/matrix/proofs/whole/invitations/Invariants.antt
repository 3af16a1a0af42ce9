-- `invitations` meets its contract. The invariant: the news so far are the own counters, and from there on nothing is known.
use Prim.Native.Nat.{◌/◌, ◌%◌}
use lib.Dec.{eqb}
use Rattle.lists.specs.Pick.{pick}
use Rattle.lists.proofs.Filling.{Filled}
use Rattle.book.specs.Bounds.{mark}
use Rattle.consistency.specs.Known.{counters}
use Rattle.book.proofs.Values.{tally}
use Rattle.matrix.proofs.whole.invitations.Given as goal

abbrev pub invariant-loop-i : goal.invariant-loop-i
invariant-loop-i l = Filled (tally 0) l.initial.news 256 (λ k. tally (pick (eqb (k % 16) l.own) (counters l.sent (k / 16)) mark)) l.news l.i
