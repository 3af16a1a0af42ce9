-- `flags_of` meets its contract. The invariant: the flags so far say who must step back.
use mathlib.Core.Bool.{false}
use Rattle.lists.proofs.Filling.{Filled}
use Rattle.finder.specs.Steps.{row_of, by_row, must_step_back}
use Rattle.finder.proofs.flags_of.Given as goal

abbrev pub invariant-loop-j : goal.invariant-loop-j
invariant-loop-j l =
    Filled false l.initial.flags l.n (must_step_back (by_row l.n l.sent l.received) (row_of l.at)) l.flags l.j
