-- The call `run`: a book's bytes, two lent tables, an initiator, a purpose and a list of turns; the strands lie inside.
use Rattle.std.specs.Prelude.{◌≡◌, List, [], ◌∷◌, ℕ}
use Rattle.book.specs.declared.Shape.{Shape}
use Rattle.book.specs.declared.Process.{Process}
use Rattle.book.specs.InTurn.{◌then◌, ask, unless_refused}
use Rattle.book.specs.Read.{read_question, no_shape, shape_read, sent_read, received_read}
use Rattle.book.specs.Names.{is_named, is_purpose}
use Rattle.session.specs.declared.Session.{Session}
use Rattle.session.specs.Calls.{no_session}
use Rattle.demand3.specs.Statement.{Beginning, Searches, after, HoldsAfter}
use Rattle.searches.specs.declared.RunEnd.{RunEnd}
use Rattle.searches.specs.Lowest.{strands_inside}

-- the turns name these processes
unfoldable pub as_processes : List ℕ → List Process
as_processes [] = []
as_processes (p ∷ turns) = record { 0 = p } ∷ as_processes turns

-- questions 1 to 9, then 10 and 11: the tables are filled after that, so that a refusal changes nothing
unfoldable pub run_question : List ℕ → List ℕ → List ℕ → Process → ℕ → ℕ
run_question bytes sent received initiator purpose =
    read_question bytes sent received
    then λ _. ask 10 (is_named (shape_read bytes sent received).n initiator.0)
    then λ _. ask 11 (is_purpose purpose)

module _ (bytes sent received : List ℕ) (initiator : Process) (purpose : ℕ) where
  abbrev pub run_refusal : ℕ
  run_refusal = run_question bytes sent received initiator purpose

  -- what demand 3's list begins with
  abbrev pub beginning : Beginning
  beginning =
      record {
        bytes = bytes;
        sent = sent;
        received = received;
        initiator = initiator;
        purpose = purpose;
        strands = strands_inside;
      }

  unfoldable pub shape_run : Shape
  shape_run = unless_refused run_refusal no_shape (shape_read bytes sent received)

  unfoldable pub sent_run : List ℕ
  sent_run = unless_refused run_refusal sent (sent_read bytes sent received)

  unfoldable pub received_run : List ℕ
  received_run = unless_refused run_refusal received (received_read bytes sent received)

  -- demand 3 holds after the turns, where the run is accepted and searches
  abbrev pub CarriesDemand3 : List ℕ → Type 0
  CarriesDemand3 turns = run_refusal ≡ 0 → Searches beginning → HoldsAfter beginning (as_processes turns)

  unfoldable pub session_run : List ℕ → Session
  session_run turns = unless_refused run_refusal no_session (after beginning (as_processes turns)).session

  -- both
  abbrev pub run_end : List ℕ → RunEnd
  run_end turns = record { shape = shape_run; session = session_run turns }
