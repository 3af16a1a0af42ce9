-- When a participant accepts a message, as data.
use Rattle.std.specs.Prelude.{◌≡◌, Bool, true, ◌||◌, ◌-◌, eqb}
use Rattle.matrix.specs.Entries.{all_lower}
use Rattle.message.specs.declared.Message.{Message}
use Rattle.book.specs.Names.{is_purpose}
use Rattle.message_laws.specs.Formed.{IsFormed}
use Rattle.machine.specs.Own.{Own}
use Rattle.machine.specs.Sends.{is_termination}
use Rattle.machine.specs.Named.{participant_named}
use Rattle.machine_laws.specs.Own.{IsOwn}
use Rattle.participant.specs.declared.Participant.{Participant}
use Rattle.participant.specs.Fits.{fits}
use Rattle.participant.specs.Step.{awaits}

-- questions 10, 11, 13 of the state and 14 to 16 of the message; where a participant reads, it is itself the one at the
-- strand's end
pub record Accepts (own : Own) (state : Participant) (m : Message) : Type 0 where
  pub own_is : IsOwn own (state.me.0 - 1)
  pub named : participant_named own.n state.me.0 state.initiator.0 ≡ true
  pub purpose : is_purpose state.purpose ≡ true
  pub fitting : fits own state ≡ true
  pub formed : IsFormed own.n state.me.0 m
  pub awaited : awaits state m ≡ true
  pub lower : all_lower m.news state.column ≡ true

-- the message ends the search: of purpose 2 the invitation does, of the others the termination
abbrev pub ends_it : Message → Bool
ends_it m = eqb m.head.purpose 2 || is_termination m
