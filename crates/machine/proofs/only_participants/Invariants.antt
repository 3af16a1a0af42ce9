-- `only_participants` meets its contract. The invariant: who is flagged so far is a participant.
use mathlib.Core.Path.{◌≡◌}
use mathlib.Core.Bool.{true, not, ◌||◌}
use Rattle.lists.proofs.Before.{Before}
use Rattle.machine.specs.Named.{is_participant}
use Rattle.machine.specs.Flags.{flag}
use Rattle.machine.proofs.only_participants.Given as goal

abbrev pub invariant-loop-p : goal.invariant-loop-p
invariant-loop-p l = Before 16 (λ k. (not (flag l.flags k) || is_participant l.n l.own k) ≡ true) l.p
