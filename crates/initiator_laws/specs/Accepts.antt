-- When the initiator accepts a message, as data.
use Rattle.std.specs.Prelude.{◌≡◌, Bool, true, ◌&&◌, not, ℕ, ◌-◌, ◌≤◌, ◌<◌}
use Rattle.book.specs.Bounds.{mark, most_processes}
use Rattle.matrix.specs.Matrix.{entry, row}
use Rattle.matrix.specs.Entries.{all_lower}
use Rattle.message.specs.declared.Message.{Message}
use Rattle.book.specs.Names.{is_named, is_purpose}
use Rattle.message_laws.specs.Formed.{IsFormed}
use Rattle.machine.specs.Own.{Own}
use Rattle.machine.specs.Flags.{someone}
use Rattle.machine_laws.specs.Own.{IsOwn}
use Rattle.initiator.specs.declared.Initiator.{Initiator}
use Rattle.initiator.specs.Fits.{fits}
use Rattle.initiator.specs.Step.{sender_of, awaits, take_report, step_back, polled}

-- questions 10, 11, 13 of the state and 14 to 16 of the message; where the initiator reads, the participant at the strand's
-- end is the sender
pub record Accepts (own : Own) (state : Initiator) (m : Message) : Type 0 where
  pub own_is : IsOwn own (state.me.0 - 1)
  pub named : is_named own.n state.me.0 ≡ true
  pub purpose : is_purpose state.purpose ≡ true
  pub fitting : fits own state ≡ true
  pub formed : IsFormed own.n m.head.sender.0 m
  pub awaited : awaits state m ≡ true
  pub lower : all_lower m.news (row state.matrix (sender_of m)) ≡ true

-- a poll is sent: no report is out any more, and some participant's column differs from the copy
abbrev pub sends_poll : Own → Initiator → Message → Bool
sends_poll own state m =
    not (someone (take_report state m).awaited) && someone (polled (step_back own (take_report state m)))

-- what process p was sent has only fallen since the copy was made
abbrev pub ColumnFell : Initiator → ℕ → Type 0
ColumnFell state p =
    (k : ℕ) → k < most_processes
    → (entry state.matrix k p ≤ entry state.copy k p) × (entry state.copy k p ≤ mark)
