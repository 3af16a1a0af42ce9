-- What holds of a session, and of the bytes that wait on each strand (`box`), after every list of turns.
use mathlib.Core.Path.{◌≡◌}
use mathlib.Core.Bool.{Bool, true, false}
use mathlib.Core.List.{List, []}
use Prim.Native.Nat.{ℕ, suc, ◌+◌, ◌-◌, ◌*◌, ◌≤◌, ◌<◌}
use lib.ListN.{length}
use lib.Dec.{eqb}
use Rattle.book.specs.Bounds.{mark, most_processes}
use Rattle.lists.specs.Over.{sum_to}
use Rattle.lists.specs.Pick.{pick}
use Rattle.matrix.specs.Matrix.{entry, row, column}
use Rattle.matrix.specs.Entries.{patch}
use Rattle.message.specs.declared.Message.{Message}
use Rattle.message.specs.Layout.{message_bytes}
use Rattle.mail.specs.declared.Outgoing.{Outgoing}
use Rattle.mail.specs.Outgoing.{goes_to, message_to, bytes_to}
use Rattle.machine.specs.Flags.{flag}
use Rattle.participant.specs.declared.Participant.{Participant}
use Rattle.participant.specs.declared.Stage.TheVariants.{Searching, Ended}
use Rattle.participant.specs.Fits as participant_fits
use Rattle.participant.specs.Step as participant
use Rattle.participant.specs.Calls as participant_calls
use Rattle.participant_laws.specs.Accepts.{Accepts, ends_it}
use Rattle.initiator.specs.Fits as initiator_fits
use Rattle.exchange_laws.specs.Ends.{SameEntries, WaitsFor}
use Rattle.strands.specs.Strands.{slot_size, strand_start, length_on}
use Rattle.session.specs.declared.Session.{Session}
use Rattle.session.specs.Workers.{participant_at, stands_on}
use Rattle.session.specs.Held.{waiting_bytes, ends_search}
use Rattle.session_theory.proofs.Search.{Search, size, lead, is_part, own_in, line_in, sent_in, passed_in, most, Between, height}

-- ---- who is where

-- participant k's machine
pub record Part (g : Search) (k : ℕ) (p : Participant) : Type 0 where
  pub me : p.me ≡ record { 0 = suc k }
  pub leader : p.initiator ≡ g.initiator
  pub purpose : p.purpose ≡ g.purpose
  pub fitting : participant_fits.fits (own_in g k) p ≡ true

-- "every machine fits; n, purpose and initiator agree"
pub record Placed (g : Search) (s : Session) : Type 0 where
  pub processes : s.n ≡ size g
  pub leader : s.initiator ≡ g.initiator
  pub purpose : s.purpose ≡ g.purpose
  pub machine_me : s.machine.me ≡ g.initiator
  pub machine_purpose : s.machine.purpose ≡ g.purpose
  pub machine_fits : initiator_fits.fits (own_in g (lead g)) s.machine ≡ true
  pub all_participants : length s.participants ≡ most_processes
  pub all_lengths : length s.lengths ≡ most_processes
  pub part : (k : ℕ) → is_part g k ≡ true → Part g k (participant_at s k)
  pub absent :
      (k : ℕ) → k < most_processes → is_part g k ≡ false
      → (participant_at s k ≡ participant_calls.no_participant) × (length_on s.lengths k ≡ 0)

-- ---- what waits, as bytes of the strands

-- participant k's strand holds these bytes
pub record LaidAt (g : Search) (s : Session) (strands : List ℕ) (k : ℕ) (b : List ℕ) : Type 0 where
  pub bytes : waiting_bytes (size g) s strands k ≡ b
  pub long : length_on s.lengths k ≡ length b
  pub short : length b ≤ slot_size (size g)
  pub within : 1 ≤ length b → strand_start (size g) (lead g) k + length b ≤ length strands

abbrev pub Laid : Search → Session → List ℕ → (ℕ → List ℕ) → Type 0
Laid g s strands box = (k : ℕ) → is_part g k ≡ true → LaidAt g s strands k (box k)

-- what waits after a call on p's strand that puts these messages on strands; after a start nothing waited
abbrev pub box_after : Outgoing → ℕ → (ℕ → List ℕ) → ℕ → List ℕ
box_after o p box k = pick (goes_to o k) (bytes_to o k) (pick (eqb k p) [] (box k))

-- ---- the three phases of a participant while the initiator waits

pub data Phase : Type 0 where
  -- nothing is on its way
  quiet : Phase
  -- a report is on its way to the initiator
  reported : Phase
  -- an invitation or a poll is on its way to the participant
  asked : Phase

-- how many messages are to be delivered before the wait ends, by this participant
abbrev pub weight : Phase → ℕ
weight quiet = 0
weight reported = 1
weight asked = 2

-- The participant's column will be the copy's, and its row is what the matrix has.
pub record IsAsked (g : Search) (s : Session) (k : ℕ) (b : List ℕ) : Type 0 where
  pub told : Message
  pub carries : b ≡ message_bytes told
  pub read : participant_calls.read_by (size g) (participant_at s k) b ≡ told
  pub passes : participant_calls.message_question (size g) (participant_at s k) b ≡ 0
  pub going : ends_search told ≡ false
  pub brings : SameEntries (patch (participant_at s k).column told.news) (column s.machine.copy k)
  pub awaited : flag s.machine.awaited k ≡ true
  pub row_held : SameEntries (row s.machine.matrix k) (participant_at s k).row

-- The participant has the copy's column; it stepped back from `sender` on a message that it accepted, and the initiator holds
-- the row that `sender` had.
pub record IsReported (g : Search) (s : Session) (k : ℕ) (b : List ℕ) : Type 0 where
  pub sender : Participant
  pub told : Message
  pub from : Part g k sender
  pub accepts : Accepts (own_in g k) sender told
  pub going : ends_it told ≡ false
  pub after : participant_at s k ≡ (participant.step (own_in g k) sender told).state
  pub carries : b ≡ message_bytes (message_to (participant.step (own_in g k) sender told).outgoing (lead g))
  pub waits : WaitsFor (size g) sender s.machine
  pub column_held : SameEntries (participant_at s k).column (column s.machine.copy k)

-- Both hold the same.
pub record IsQuiet (g : Search) (s : Session) (k : ℕ) (b : List ℕ) : Type 0 where
  pub empty : b ≡ []
  pub awaited : flag s.machine.awaited k ≡ false
  pub searching : (participant_at s k).stage ≡ Searching
  pub row_held : SameEntries (row s.machine.matrix k) (participant_at s k).row
  pub column_held : SameEntries (participant_at s k).column (column s.machine.copy k)

abbrev pub InPhase : Search → Session → ℕ → List ℕ → Phase → Type 0
InPhase g s k b quiet = IsQuiet g s k b
InPhase g s k b reported = IsReported g s k b
InPhase g s k b asked = IsAsked g s k b

-- ---- the search goes on

-- `ahead` bounds the waits to come
pub record Waits (g : Search) (s : Session) (box : ℕ → List ℕ) (phase : ℕ → Phase) (ahead : ℕ) : Type 0 where
  pub placed : Placed g s
  pub waiting : s.machine.ended ≡ false
  pub in_phase : (k : ℕ) → is_part g k ≡ true → InPhase g s k (box k) (phase k)
  pub rest : (k : ℕ) → k < most_processes → is_part g k ≡ false → phase k ≡ quiet
  -- no worker is below the line
  pub above : (j : ℕ) → j < size g → line_in g j ≤ stands_on s j
  -- the copy is at or above what the candidates have sent
  pub copied : (j p : ℕ) → j < size g → p < size g → sent_in g j (stands_on s j) p ≤ entry s.machine.copy j p
  pub marked : (j p : ℕ) → j < most_processes → p < most_processes → entry s.machine.copy j p ≤ mark
  -- where sent counters will differ from the copy, somebody has stepped back
  pub falls :
      (c : ℕ → ℕ) → Between g c (stands_on s) → (j p : ℕ) → j < size g → p < size g
      → (sent_in g j (c j) p ≡ entry s.machine.copy j p → ⊥) → height g c + 1 ≤ ahead
  pub rounds_left : s.machine.rounds + ahead ≤ passed_in g + 2
  pub deliveries_left :
      s.delivered + sum_to most_processes (λ k. weight (phase k)) + (size g - 1) * (2 * ahead + 1) ≤ most g

-- ---- the search is over: everybody is on the line

-- the termination is on its way
pub record IsEnding (g : Search) (s : Session) (k : ℕ) (b : List ℕ) : Type 0 where
  pub told : Message
  pub carries : b ≡ message_bytes told
  pub read : participant_calls.read_by (size g) (participant_at s k) b ≡ told
  pub passes : participant_calls.message_question (size g) (participant_at s k) b ≡ 0
  pub ending : ends_search told ≡ true

-- it has come
pub record IsOver (g : Search) (s : Session) (k : ℕ) (b : List ℕ) : Type 0 where
  pub empty : b ≡ []
  pub ended : (participant_at s k).stage ≡ Ended

-- is the termination (or a restart's invitation) still on its way?
abbrev pub Closing : Search → Session → ℕ → List ℕ → Bool → Type 0
Closing g s k b true = IsEnding g s k b
Closing g s k b false = IsOver g s k b

abbrev pub one : Bool → ℕ
one true = 1
one false = 0

-- the initiator has ended, and every other worker will, where it stands
pub record Ends (g : Search) (s : Session) (box : ℕ → List ℕ) (open' : ℕ → Bool) : Type 0 where
  pub placed : Placed g s
  pub ended : s.machine.ended ≡ true
  pub nobody : (k : ℕ) → k < most_processes → flag s.machine.awaited k ≡ false
  pub closing : (k : ℕ) → is_part g k ≡ true → Closing g s k (box k) (open' k)
  pub rest : (k : ℕ) → k < most_processes → is_part g k ≡ false → open' k ≡ false

pub record Finished (g : Search) (s : Session) (box : ℕ → List ℕ) (open' : ℕ → Bool) : Type 0 where
  pub ends : Ends g s box open'
  pub on_line : (j : ℕ) → j < size g → stands_on s j ≡ line_in g j
  pub few_rounds : s.machine.rounds ≤ passed_in g + 2
  pub deliveries_left : s.delivered + sum_to most_processes (λ k. one (open' k)) ≤ most g

-- ---- a bare restart: the invitation ends each participant on checkpoint 1

pub record Restarts (g : Search) (s : Session) (box : ℕ → List ℕ) (open' : ℕ → Bool) : Type 0 where
  pub ends : Ends g s box open'
  pub on_oldest : (j : ℕ) → j < size g → open' j ≡ false → stands_on s j ≡ 1
  pub no_round : s.machine.rounds ≡ 0
  pub deliveries : s.delivered + sum_to most_processes (λ k. one (open' k)) ≡ size g - 1

-- ---- a search, at any moment

abbrev pub Going : Search → Session → (ℕ → List ℕ) → Type 0
Going g s box = (phase : ℕ → Phase) × (ahead : ℕ) × Waits g s box phase ahead

abbrev pub Over : Search → Session → (ℕ → List ℕ) → Type 0
Over g s box = (open' : ℕ → Bool) × Finished g s box open'
