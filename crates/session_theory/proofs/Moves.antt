-- What each call does to what holds of a session: the statements that the proof of demand 3 is made of.
use mathlib.Core.Path.{◌≡◌}
use mathlib.Core.Bool.{Bool, true, false}
use mathlib.Core.List.{List}
use mathlib.Core.Logic.{◌⊎◌}
use Prim.Native.Nat.{ℕ, ◌≤◌, ◌<◌}
use lib.ListN.{length, set}
use lib.Dec.{eqb}
use Rattle.book.specs.Bounds.{most_processes}
use Rattle.lists.specs.Pick.{pick}
use Rattle.mail.specs.declared.Outgoing.{Outgoing}
use Rattle.mail.specs.Outgoing.{goes_to, bytes_to}
use Rattle.machine.specs.Named.{tally_limit}
use Rattle.exchange_laws.specs.Ends.{is_search}
use Rattle.strands.specs.Strands.{slot_size, room_for_all, have_room, posted}
use Rattle.session.specs.declared.Session.{Session}
use Rattle.session.specs.declared.Turned.{Turned}
use Rattle.session.specs.declared.Waiting.{Waiting}
use Rattle.session.specs.declared.Waiting.TheVariants.{Nothing, Asking, Ending, Report}
use Rattle.session.specs.Held.{held}
use Rattle.session.specs.Fits.{session_named, session_purposes, session_fits}
use Rattle.session.specs.Steps.{begun, deliver_down, deliver_up, with_posted}
use Rattle.session_theory.proofs.Search.{Search, IsSearch, size, lead, is_part}
use Rattle.session_theory.proofs.Invariant.{Laid, box_after, Phase, quiet, reported, asked, Waits, Ends, Finished, Restarts, Going, Over}

-- ---- the calls, on a search's tables

abbrev pub begins : Search → Turned
begins g = begun g.tables g.initiator g.purpose

abbrev pub goes_down : Search → Session → ℕ → List ℕ → Turned
goes_down g s k b = deliver_down g.tables s k b

abbrev pub goes_up : Search → Session → ℕ → List ℕ → Turned
goes_up g s k b = deliver_up g.tables s k b

-- messages go to participants alone
abbrev pub ToParticipants : Search → Outgoing → Type 0
ToParticipants g o = (k : ℕ) → k < most_processes → goes_to o k ≡ true → is_part g k ≡ true

-- the messages that a call puts on strands are no longer than a slot
abbrev pub Short : Search → Outgoing → Type 0
Short g o = (k : ℕ) → k < most_processes → goes_to o k ≡ true → length (bytes_to o k) ≤ slot_size (size g)

-- ---- strands

-- After a turn on p's strand each strand holds what was put on it, p's nothing else, and the others what they held.
abbrev pub LaidAfter : Type 0
LaidAfter =
    (g : Search) (s : Session) (t : Turned) (strands : List ℕ) (box : ℕ → List ℕ) (p : ℕ)
    → IsSearch g → is_part g p ≡ true → length s.lengths ≡ most_processes → Laid g s strands box
    → s.initiator.0 ≡ g.initiator.0 → t.session.initiator.0 ≡ g.initiator.0
    → t.session.lengths ≡ set s.lengths p 0
    → ToParticipants g t.outgoing → Short g t.outgoing → have_room (size g) (lead g) t.outgoing strands ≡ true
    → Laid g (with_posted t) (posted (size g) (lead g) t.outgoing strands) (box_after t.outgoing p box)
    × (length (posted (size g) (lead g) t.outgoing strands) ≡ length strands)

-- After a start they hold the invitations.
abbrev pub LaidBegun : Type 0
LaidBegun =
    (g : Search) (strands : List ℕ) → IsSearch g
    → let t : Turned = begins g in
    ToParticipants g t.outgoing → Short g t.outgoing → have_room (size g) (lead g) t.outgoing strands ≡ true
    → Laid g (with_posted t) (posted (size g) (lead g) t.outgoing strands) (bytes_to t.outgoing)
    × (length (posted (size g) (lead g) t.outgoing strands) ≡ length strands)

-- So many bytes have room for all that can wait at once.
abbrev pub RoomSuffices : Type 0
RoomSuffices =
    (g : Search) (o : Outgoing) (strands : List ℕ) → IsSearch g → ToParticipants g o → Short g o
    → room_for_all (size g) ≤ length strands → have_room (size g) (lead g) o strands ≡ true

-- ---- questions 10, 11 and 13

pub record Passes (g : Search) (s : Session) (strands : List ℕ) : Type 0 where
  pub named : session_named (size g) s ≡ true
  pub purposed : session_purposes s ≡ true
  pub fitting : session_fits g.tables s strands ≡ true

abbrev pub holding : Phase → Waiting
holding quiet = Nothing
holding reported = Report
holding asked = Asking

-- While the search goes on the session passes them; each strand holds what its phase says, within its slot.
pub record WaitsTell (g : Search) (s : Session) (strands : List ℕ) (box : ℕ → List ℕ) (phase : ℕ → Phase) : Type 0 where
  pub passes : Laid g s strands box → Passes g s strands
  pub holds : (k : ℕ) → is_part g k ≡ true → held (size g) s k (box k) ≡ holding (phase k)
  pub short : (k : ℕ) → is_part g k ≡ true → length (box k) ≤ slot_size (size g)
  pub some : (k : ℕ) → is_part g k ≡ true → (phase k ≡ quiet → ⊥) → 1 ≤ length (box k)

abbrev pub WaitsFit : Type 0
WaitsFit =
    (g : Search) (s : Session) (strands : List ℕ) (box : ℕ → List ℕ) (phase : ℕ → Phase) (ahead : ℕ) → IsSearch g
    → is_search g.purpose ≡ true → Waits g s box phase ahead → WaitsTell g s strands box phase

-- So it does once the initiator has ended, with any purpose.
pub record EndsTell (g : Search) (s : Session) (strands : List ℕ) (box : ℕ → List ℕ) (open' : ℕ → Bool) : Type 0 where
  pub passes : Laid g s strands box → Passes g s strands
  pub holds : (k : ℕ) → is_part g k ≡ true → held (size g) s k (box k) ≡ pick (open' k) Ending Nothing
  pub short : (k : ℕ) → is_part g k ≡ true → length (box k) ≤ slot_size (size g)
  pub some : (k : ℕ) → is_part g k ≡ true → open' k ≡ true → 1 ≤ length (box k)

abbrev pub EndsFit : Type 0
EndsFit =
    (g : Search) (s : Session) (strands : List ℕ) (box : ℕ → List ℕ) (open' : ℕ → Bool) → IsSearch g
    → s.delivered < tally_limit → Ends g s box open' → EndsTell g s strands box open'

-- ---- the start

-- A search begins: the initiator waits, or (n = 1) is on the line at once.
abbrev pub SearchBegins : Type 0
SearchBegins =
    (g : Search) → IsSearch g → is_search g.purpose ≡ true
    → let t : Turned = begins g in
    ToParticipants g t.outgoing
    × (Going g (with_posted t) (bytes_to t.outgoing) ⊎ Over g (with_posted t) (bytes_to t.outgoing))

-- A bare restart begins.
abbrev pub RestartBegins : Type 0
RestartBegins =
    (g : Search) → IsSearch g → g.purpose ≡ 2
    → let t : Turned = begins g in
    ToParticipants g t.outgoing
    × ((open' : ℕ → Bool) × Restarts g (with_posted t) (bytes_to t.outgoing) open')

-- ---- turns

-- An invitation or a poll is delivered: the participant reports.
abbrev pub DownGoes : Type 0
DownGoes =
    (g : Search) (s : Session) (box : ℕ → List ℕ) (phase : ℕ → Phase) (ahead k : ℕ) → IsSearch g
    → is_search g.purpose ≡ true → Waits g s box phase ahead → is_part g k ≡ true → phase k ≡ asked
    → let t : Turned = goes_down g s k (box k) in
    ToParticipants g t.outgoing
    × Waits g (with_posted t) (box_after t.outgoing k box) (λ q. pick (eqb q k) reported (phase q)) ahead

-- A report is delivered: the initiator waits on, polls, or ends with everybody on the line.
abbrev pub UpGoes : Type 0
UpGoes =
    (g : Search) (s : Session) (box : ℕ → List ℕ) (phase : ℕ → Phase) (ahead k : ℕ) → IsSearch g
    → is_search g.purpose ≡ true → Waits g s box phase ahead → is_part g k ≡ true → phase k ≡ reported
    → let t : Turned = goes_up g s k (box k) in
    ToParticipants g t.outgoing
    × (Going g (with_posted t) (box_after t.outgoing k box) ⊎ Over g (with_posted t) (box_after t.outgoing k box))

-- A termination, or a restart's invitation, is delivered: the participant has ended.
abbrev pub EndGoes : Type 0
EndGoes =
    (g : Search) (s : Session) (box : ℕ → List ℕ) (open' : ℕ → Bool) (k : ℕ) → IsSearch g
    → Ends g s box open' → is_part g k ≡ true → open' k ≡ true
    → let t : Turned = goes_down g s k (box k) in
    let closed : ℕ → Bool = λ q. pick (eqb q k) false (open' q) in
    ToParticipants g t.outgoing
    × Ends g (with_posted t) (box_after t.outgoing k box) closed
    × (is_search g.purpose ≡ true → Finished g s box open' → Finished g (with_posted t) (box_after t.outgoing k box) closed)
    × (g.purpose ≡ 2 → Restarts g s box open' → Restarts g (with_posted t) (box_after t.outgoing k box) closed)
