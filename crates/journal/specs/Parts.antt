-- What reading one event promises.
use Rattle.std.specs.Prelude.{◌≡◌, true, List, ℕ, ◌≤◌, ◌<◌, length, Option, Some, None}
use Rattle.book.specs.Bounds.{most_processes}
use Rattle.journal.specs.declared.Event.{Event}
use Rattle.journal.specs.declared.Placed.{Placed}
use Rattle.journal.specs.Events.{Begins, NoEvent, first_event, Events, events_in}
use Rattle.journal.specs.Questions.{event_named}
use Rattle.journal.specs.Calls.{numbers_logged, numbers_end}

-- the events from a place on
abbrev pub events_from : List ℕ → ℕ → Events
events_from s at = events_in (numbers_end s at) (numbers_logged s at).found

-- an event stands at a place, and the numbers go on at the next
pub record StandsAt (s : List ℕ) (at : ℕ) (e : Event) (next : ℕ) : Type 0 where
  pub begins : first_event (numbers_logged s at).found ≡ Begins e (numbers_logged s next).found
  pub stop : (numbers_logged s at).stop ≡ (numbers_logged s next).stop
  pub onward : at < next
  pub inside : next ≤ length s

abbrev pub EventFound : List ℕ → ℕ → Option Placed → Type 0
EventFound s at (Some placed) = StandsAt s at placed.event placed.next
EventFound s at None = first_event (numbers_logged s at).found ≡ NoEvent

-- the same, where nothing is said if none was found
abbrev pub ShortFound : List ℕ → ℕ → Option Placed → Type 0
ShortFound s at (Some placed) = StandsAt s at placed.event placed.next
ShortFound s at None = Unit {0}

-- an event of no more than sixteen processes stands at a place
pub record NamedAt (s : List ℕ) (at : ℕ) : Type 0 where
  pub n : ℕ
  pub few : n ≤ most_processes
  pub event : Event
  pub rest : List ℕ
  pub begins : first_event (numbers_logged s at).found ≡ Begins event rest
  pub named : event_named n event ≡ true
