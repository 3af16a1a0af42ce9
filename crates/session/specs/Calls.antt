-- The session's calls: the questions of each in document 01's order, and what it answers.
use Rattle.std.specs.Prelude.{◌&&◌, List, ℕ, ◌-◌, replicate}
use Rattle.book.specs.Lent.{Tables}
use Rattle.book.specs.declared.Process.{Process}
use Rattle.book.specs.Bounds.{most_processes}
use Rattle.book.specs.InTurn.{◌then◌, ask, unless_refused}
use Rattle.book.specs.Check.{tables_question}
use Rattle.book.specs.Names.{is_named, is_purpose}
use Rattle.mail.specs.Outgoing.{no_lengths}
use Rattle.machine.specs.Named.{participant_named}
use Rattle.participant.specs.Calls.{no_participant}
use Rattle.initiator.specs.Calls.{no_initiator}
use Rattle.strands.specs.Strands.{have_room, posted}
use Rattle.session.specs.declared.Session.{Session}
use Rattle.session.specs.declared.Turned.{Turned}
use Rattle.session.specs.Workers.{initiator_of, waits_on}
use Rattle.session.specs.Held.{waiting_bytes, held}
use Rattle.session.specs.Fits.{session_named, session_purposes, session_fits}
use Rattle.session.specs.Steps.{begun, deliver, with_posted}

-- ---- a session starts

unfoldable pub start_question : Tables → Process → ℕ → List ℕ → ℕ
start_question tables initiator purpose strands =
    tables_question tables
    then λ _. ask 10 (is_named tables.shape.n initiator.0)
    then λ _. ask 11 (is_purpose purpose)
    then λ _. ask 17
    (have_room tables.shape.n (initiator.0 - 1) (begun tables initiator purpose).outgoing strands)

-- where none was started: all zero (and the initiator ended)
unfoldable pub no_session : Session
no_session =
    record {
      n = 0;
      initiator = record { 0 = 0 };
      purpose = 0;
      machine = no_initiator;
      participants = replicate most_processes no_participant;
      lengths = no_lengths;
      delivered = 0;
    }

unfoldable pub session_started : Tables → Process → ℕ → List ℕ → Session
session_started tables initiator purpose strands =
    unless_refused (start_question tables initiator purpose strands) no_session
    (with_posted (begun tables initiator purpose))

unfoldable pub strands_started : Tables → Process → ℕ → List ℕ → List ℕ
strands_started tables initiator purpose strands =
    unless_refused (start_question tables initiator purpose strands) strands
    (posted tables.shape.n (initiator.0 - 1) (begun tables initiator purpose).outgoing strands)

-- ---- a turn

-- what the turn that names process p comes to: the session after the delivery, and what is put on strands
abbrev pub turned : Tables → Session → Process → List ℕ → Turned
turned tables session p strands =
    let k : ℕ = p.0 - 1 in
    let s : List ℕ = waiting_bytes tables.shape.n session strands k in
    deliver tables session k s (held tables.shape.n session k s)

unfoldable pub turn_question : Tables → Session → Process → List ℕ → ℕ
turn_question tables session p strands =
    tables_question tables
    then λ _. ask 10 (participant_named tables.shape.n p.0 session.initiator.0 && session_named tables.shape.n session)
    then λ _. ask 11 (session_purposes session)
    then λ _. ask 13 (session_fits tables session strands)
    then λ _. ask 17
    (have_room tables.shape.n (initiator_of session) (turned tables session p strands).outgoing strands)
    then λ _. ask 18 (waits_on session (p.0 - 1))

unfoldable pub session_after : Tables → Session → Process → List ℕ → Session
session_after tables session p strands =
    unless_refused (turn_question tables session p strands) session
    (with_posted (turned tables session p strands))

unfoldable pub strands_after : Tables → Session → Process → List ℕ → List ℕ
strands_after tables session p strands =
    unless_refused (turn_question tables session p strands) strands
    (posted tables.shape.n (initiator_of session) (turned tables session p strands).outgoing strands)
