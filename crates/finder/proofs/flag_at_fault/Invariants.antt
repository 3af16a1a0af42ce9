-- `flag_at_fault` meets its contract. The invariant: the flags so far are set beside those that were.
use mathlib.Core.Bool.{false}
use Rattle.finder.specs.Steps.{row_of, by_row}
use Rattle.lists.proofs.Filling.{Filled}
use Rattle.finder.proofs.Flags.{beside}
use Rattle.finder.proofs.flag_at_fault.Given as goal

abbrev pub invariant-loop-p : goal.invariant-loop-p
invariant-loop-p l = Filled false l.initial.flags l.n (beside (by_row l.n l.sent l.received) (row_of l.at) l.j l.initial.flags) l.flags l.p
