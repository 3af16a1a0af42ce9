-- What a session has come to.
use Rattle.std.specs.Prelude.{Bool, false, List, ℕ}
use Rattle.book.specs.Lent.{Tables}
use Rattle.book.specs.declared.Checkpoint.{Checkpoint}
use Rattle.book.specs.Read.{tables_read}
use Rattle.finder.specs.Line.{checkpoints}
use Rattle.session.specs.declared.Session.{Session}
use Rattle.session.specs.Workers.{stands_on}
use Rattle.demand3.specs.Statement.{message_waits, someone_goes_on}
use Rattle.searches.specs.Lowest.{searched}
use Rattle.session_examples.specs.Books.{blank, set_of}

pub record Outcome : Type 0 where
  -- where each worker stands, absent processes zero
  pub stand : List Checkpoint
  pub rounds : ℕ
  pub messages : ℕ
  -- some worker has not ended; a message waits
  pub goes_on : Bool
  pub waits : Bool

abbrev pub outcome_of : ℕ → Session → Outcome
outcome_of n s =
    record {
      stand = checkpoints (stands_on s);
      rounds = s.machine.rounds;
      messages = s.delivered;
      goes_on = someone_goes_on n s;
      waits = message_waits s;
    }

-- what the session comes to that purpose 3 begins in the tables of a book, lowest waiting strand first: the session itself,
-- turn by turn, on strands of bytes
abbrev pub searched_in : List ℕ → ℕ → Outcome
searched_in book initiator =
    let tables : Tables = tables_read book blank blank in
    outcome_of tables.shape.n (searched tables (record { 0 = initiator }) 3).session

-- everybody has ended on this line, after so many rounds and messages, and nothing waits
abbrev pub ended_on : List ℕ → ℕ → ℕ → Outcome
ended_on line rounds messages =
    record { stand = set_of line; rounds = rounds; messages = messages; goes_on = false; waits = false }
