-- `tables::all_rising` meets its contract: `rising` is true only while no entry before i is lower than the one a row before.
use Rattle.tables.specs.Sound.{Rising}
use Rattle.tables.proofs.Sweeps.{Swept}
use Rattle.tables.proofs.quick.all_rising.Given as goal

abbrev pub invariant-loop-i : goal.invariant-loop-i
invariant-loop-i l = Swept (Rising l.table) l.from l.to l.i l.rising
