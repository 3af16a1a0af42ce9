-- `reader::take_counters` meets its contract.
use native.Mathlib.Omega.{arith}
use Rattle.reader.proofs.CounterLoop.{sofar_begun, sofar_ended}
use Rattle.reader.proofs.take_counters.Goals as goal

pub returns-then-n-lt2 : goal.returns-then-n-lt2
returns-then-n-lt2 c = sofar_ended _ _ _ _ _ _ _ _ c.requires _ _ _ (sofar_begun _ _ _ _ _ _ _ _ c.requires) (omega (arith, c.if-n-lt2.true))

pub take_each_counter-requires : goal.take_each_counter-requires
take_each_counter-requires c = c.requires

pub returns : goal.returns
returns c = c.take_each_counter.ensures
