-- `polled` meets its contract. The invariant: the flags so far are of participants whose column differs.
use mathlib.Core.Bool.{false}
use Rattle.lists.proofs.Filling.{Filled}
use Rattle.initiator.proofs.Polling.{asked}
use Rattle.initiator.proofs.Initiator.polled.Given as goal

abbrev pub invariant-loop-p : goal.invariant-loop-p
invariant-loop-p l = Filled false l.initial.flags 16 (asked l.n l.own l.differ) l.flags l.p
