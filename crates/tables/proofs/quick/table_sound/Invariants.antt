-- `tables::table_sound` meets its contract: the rows of the processes before j are sound, and those of j begin at `first`.
use Rattle.tables.proofs.SoundLoop.{Sounded}
use Rattle.tables.proofs.quick.table_sound.Given as goal

abbrev pub invariant-loop-j : goal.invariant-loop-j
invariant-loop-j l = Sounded l.zeros l.n l.counts l.table l.first l.j
