-- `tables::none_mark` meets its contract: `known` is true only while no entry before i is the mark.
use Rattle.tables.specs.Sound.{Known}
use Rattle.tables.proofs.Sweeps.{Swept}
use Rattle.tables.proofs.quick.none_mark.Given as goal

abbrev pub invariant-loop-i : goal.invariant-loop-i
invariant-loop-i l = Swept (Known l.table) l.from l.to l.i l.known
