-- What a value of each type meets: arrays have their length, counters are at most the mark, and tallies below their bound. Every
-- value that a program holds does, by its type.
use Rattle.std.specs.Prelude.{◌≡◌, List, ℕ, ◌<◌, length, get_or}
use Rattle.book.specs.declared.Count.{Count}
use Rattle.book.specs.Bounds.{most_processes}
use Rattle.consistency.specs.Known.{counters}
use Rattle.machine.specs.Named.{tally_bound}
use Rattle.participant.specs.declared.Participant.{Participant}
use Rattle.participant.specs.Calls.{no_participant}
use Rattle.initiator.specs.declared.Initiator.{Initiator}
use Rattle.session.specs.declared.Session.{Session}
use Rattle.words.specs.Words.{matrix_length, counter_bound}

pub record AreCounts (k : ℕ) (counts : List Count) : Type 0 where
  pub long : length counts ≡ k
  pub low : (i : ℕ) → i < k → counters counts i < counter_bound

pub record IsParticipant (state : Participant) : Type 0 where
  pub row : AreCounts most_processes state.row
  pub column : AreCounts most_processes state.column

pub record IsInitiator (state : Initiator) : Type 0 where
  pub rounds : state.rounds < tally_bound
  pub awaited : length state.awaited ≡ most_processes
  pub matrix : AreCounts matrix_length state.matrix
  pub copy : AreCounts matrix_length state.copy

pub record IsSession (session : Session) : Type 0 where
  pub machine : IsInitiator session.machine
  pub sixteen : length session.participants ≡ most_processes
  pub participants : (k : ℕ) → k < most_processes → IsParticipant (get_or session.participants k no_participant)
  pub lengths : length session.lengths ≡ most_processes
  pub delivered : session.delivered < tally_bound
