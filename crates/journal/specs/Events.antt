-- Document 02, E1: "Workers will log events instead of keeping counters: a kind (1 sent, 2 received, 3 checkpoint), the process, and
-- for 1 and 2 the partner, as seven-bit numbers after a leading n".
use Rattle.std.specs.Prelude.{Bool, List, [], ◌∷◌, ℕ, zero, suc, length, eqb}
use Rattle.lists.specs.Pick.{pick}
use Rattle.book.specs.declared.Process.{Process}
use Rattle.book.specs.Questions.{nothing_follows}
use Rattle.journal.specs.declared.Event.{Event}
use Rattle.journal.specs.declared.Event.TheVariants.{Sent, Received, Checkpointed}

-- the numbers of an event
abbrev pub event_numbers : Event → List ℕ
event_numbers (Sent process partner) = 1 ∷ process.0 ∷ partner.0 ∷ []
event_numbers (Received process partner) = 2 ∷ process.0 ∷ partner.0 ∷ []
event_numbers (Checkpointed process) = 3 ∷ process.0 ∷ []

-- what begins a list of numbers: an event, with the numbers after it, or none
pub data Front : Type 0 where
  Begins : Event → List ℕ → Front
  NoEvent : Front

-- an event that has a partner: it must be there, and not "equal to the process"
abbrev pub with_partner : (Process → Process → Event) → ℕ → List ℕ → Front
with_partner event process [] = NoEvent
with_partner event process (partner ∷ vs) =
    pick (eqb process partner) NoEvent (Begins (event (record { 0 = process }) (record { 0 = partner })) vs)

-- an event by its kind; no other kind is one
abbrev pub of_kind : ℕ → ℕ → List ℕ → Front
of_kind kind process vs =
    pick (eqb kind 1) (with_partner Sent process vs)
    (pick (eqb kind 2) (with_partner Received process vs)
    (pick (eqb kind 3) (Begins (Checkpointed (record { 0 = process })) vs) NoEvent))

abbrev pub first_event : List ℕ → Front
first_event [] = NoEvent
first_event (kind ∷ []) = NoEvent
first_event (kind ∷ process ∷ vs) = of_kind kind process vs

-- the events found, up to the first place at which none stands; and whether the journal ends there
pub record Events : Type 0 where
  pub found : List Event
  pub whole : Bool

-- `ended`: the numbers end where the bytes end
unfoldable pub events_up_to : ℕ → Bool → List ℕ → Events
events_up_to zero ended vs = record { found = []; whole = nothing_follows ended vs }
events_up_to (suc fuel) ended vs =
    elim (first_event vs) [
      | Begins event rest ↦ let r = events_up_to fuel ended rest in record { found = event ∷ r.found; whole = r.whole }
      | NoEvent ↦ record { found = []; whole = nothing_follows ended vs }
    ]

-- an event has two numbers at least, so there are no more of them than numbers
unfoldable pub events_in : Bool → List ℕ → Events
events_in ended vs = events_up_to (length vs) ended vs
