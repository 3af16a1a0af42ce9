use mathlib.Core.Path.{ap}
use native.Mathlib.Omega.{arith}
use lib.ListN.{length-replicate}
use Rattle.book.specs.declared.Count.{Count}
use Rattle.words.specs.Words.{counts_at}
use Rattle.lists.proofs.Filling.{filled_none, filled_more, filled_all}
use Rattle.words.proofs.counts_at.Goals as goal

abbrev empty : Count
empty = record { 0 = 0 }

pub loop-i-init : goal.loop-i-init
loop-i-init g c = filled_none (omega (arith, length-replicate g.row.N empty))

pub loop-i-preserved : goal.loop-i-preserved
loop-i-preserved g c = filled_more c.loop-i.invariant c.loop-i-test.true (ap {B = Count} (λ v. record { 0 = v }) c.counter_in.ensures)

pub returns : goal.returns
unfolding counts_at
returns g c = filled_all c.loop-i.invariant (length-replicate g.row.N empty) c.loop-i-test.false
