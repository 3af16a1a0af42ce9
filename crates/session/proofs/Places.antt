-- Places: the machine at one, as the code reads it, and who is at one.
use mathlib.Core.Path.{◌≡◌}
use mathlib.Core.Bool.{true, not}
use mathlib.Core.List.{[]}
use Prim.Native.Nat.{ℕ, ◌<◌}
use borrow.Author.Tests.{ltb-true}
use lib.Dec.{ltb, eqb}
use Rattle.lists.proofs.Tests.{and_both}
use Rattle.machine.specs.Named.{is_participant}
use Rattle.participant.specs.declared.Participant.{Participant}
use Rattle.participant.specs.declared.Stage.TheVariants.{Before}

-- what stands for a machine beyond the last place
abbrev pub beyond : Participant
beyond =
    record {
      n = 0;
      me = record { 0 = 0 };
      initiator = record { 0 = 0 };
      purpose = 0;
      stage = Before;
      candidate = record { 0 = 0 };
      row = [];
      column = [];
    }

-- a participant is a process that there is
pub participant_there : (n initiator k : ℕ) → is_participant n initiator k ≡ true → k < n
participant_there n initiator k h = ltb-true k n (and_both (ltb k n) (not (eqb k initiator)) h).0
