-- Demand 3 for callers from other languages: over the definitions that the contracts of the exported functions
-- `recovery_line_read`, `recovery_line_find`, `recovery_line_session_start` and `recovery_line_session_turn` cite, words and
-- strands handed from call to call, with nobody else writing. Every claim is read off the session's words (`Read.antt`); whether a
-- turn brings a report, off the sender of the message on its strand (`Turns.antt`).
use Rattle.std.specs.Prelude.{◌≡◌, true, List, ◌⊎◌, ℕ, ◌+◌, ◌-◌, ◌*◌, ◌≤◌, ◌<◌, length}
use Rattle.book.specs.Lent.{lent}
use Rattle.book.specs.Bounds.{most_processes}
use Rattle.line_theory.specs.Sets.{View, IsSet, Consistent}
use Rattle.line_theory.specs.OfTables.{view_of}
use Rattle.lists.specs.Pick.{pick}
use Rattle.strands.specs.Strands.{room_for_all}
use Rattle.words.specs.Words.{word}
use Rattle.words.specs.Plain.{shape_in}
use Rattle.recovery_line.specs.Books.{read_answer, read_shape, read_sent, read_received}
use Rattle.recovery_line.specs.Lines.{find_answer, find_line, find_passed}
use Rattle.recovery_line.specs.Sessions.{start_answer, start_session, start_strands, turn_answer}
use Rattle.demand3_words.specs.Read.{waits_in_words, ended_in_words, stands_in_words, rounds_in_words, delivered_in_words, some_message_waits, some_worker_goes_on, some_report_awaited}
use Rattle.demand3_words.specs.Turns.{Handed, after_calls, accepted_calls, waits_begun_by}

-- what a caller lends: the bytes of a book, the words of a shape and two tables to read it into, the words of a line and a number to
-- find it, the words of a session and its strands; and who begins the search, with which purpose
pub record Lent : Type 0 where
  pub bytes : List ℕ
  pub shape : List ℕ
  pub sent : List ℕ
  pub received : List ℕ
  pub line : List ℕ
  pub passed : ℕ
  pub initiator : ℕ
  pub purpose : ℕ
  pub session : List ℕ
  pub strands : List ℕ

-- ---- the calls

module _ (b : Lent) where
  -- as the read leaves them
  abbrev pub shape_given : List ℕ
  shape_given = read_shape b.bytes b.shape b.sent b.received

  abbrev pub sent_given : List ℕ
  sent_given = read_sent b.bytes b.shape b.sent b.received

  abbrev pub received_given : List ℕ
  received_given = read_received b.bytes b.shape b.sent b.received

  abbrev pub size_given : ℕ
  size_given = word shape_given 0

  -- the line and T, as they are found
  abbrev pub line_given : List ℕ
  line_given = find_line shape_given sent_given received_given b.line

  abbrev pub passed_given : ℕ
  passed_given = find_passed shape_given sent_given received_given b.line b.passed

  -- the session and the strands as the start leaves them, and after a list of turns
  abbrev pub handed_by_start : Handed
  handed_by_start =
      record {
        session = start_session shape_given sent_given received_given b.initiator b.purpose b.session b.strands;
        strands = start_strands shape_given sent_given received_given b.initiator b.purpose b.session b.strands;
      }

  abbrev pub handed_after : List ℕ → Handed
  handed_after turns = after_calls shape_given sent_given received_given handed_by_start turns

  -- the answer of a turn naming p then
  abbrev pub next_answer : List ℕ → ℕ → ℕ
  next_answer turns p = turn_answer (handed_after turns).session shape_given sent_given received_given p (handed_after turns).strands

  -- the book that was read, as K 2.2 sees it
  abbrev pub view_given : View
  view_given = view_of (lent (shape_in shape_given) sent_given received_given)

-- each call returns 0
pub record AllAccept (b : Lent) : Type 0 where
  pub read : read_answer b.bytes b.shape b.sent b.received ≡ 0
  pub find : find_answer (shape_given b) (sent_given b) (received_given b) b.line ≡ 0
  pub start :
      start_answer (shape_given b) (sent_given b) (received_given b) b.initiator b.purpose b.session b.strands ≡ 0

-- "a search for the line (no bare restart)": "Purposes 1 and 3 search."
abbrev pub IsSearch : Lent → Type 0
IsSearch b = (b.purpose ≡ 1) ⊎ (b.purpose ≡ 3)

-- the start is one of the calls with which a wait begins, where somebody is awaited then
abbrev pub start_begins_wait : Lent → ℕ
start_begins_wait b = pick (some_report_awaited (handed_by_start b).session) 1 0

-- ---- after the list

pub record HoldsInWords (b : Lent) (turns : List ℕ) : Type 0 where
  -- "a message waits exactly when some worker has not ended"
  pub waits_exactly : some_message_waits (handed_after b turns).session ≡ some_worker_goes_on (size_given b) b.initiator (handed_after b turns).session
  -- "The messages delivered are the accepted turns of the list, and the session's count equals their number."
  pub delivered :
      delivered_in_words (handed_after b turns).session
      ≡ accepted_calls (shape_given b) (sent_given b) (received_given b) (handed_by_start b) turns
  -- "At most (n − 1) × (2T + 5) messages have been delivered,"
  pub few_delivered : delivered_in_words (handed_after b turns).session ≤ (size_given b - 1) * (2 * passed_given b + 5)
  -- "A round is one wait of at least one report, counted as the wait begins."
  pub rounds :
      rounds_in_words (handed_after b turns).session
      ≡ start_begins_wait b + waits_begun_by (shape_given b) (sent_given b) (received_given b) b.initiator (handed_by_start b) turns
  -- (not in demand 3's own words; 01 wants the count of rounds too "bounded in demand 3")
  pub few_rounds : rounds_in_words (handed_after b turns).session ≤ passed_given b + 2
  -- "No worker stands on a checkpoint earlier than the line's,"
  pub none_below : (j : ℕ) → j < size_given b → word (line_given b) j ≤ stands_in_words b.initiator (handed_after b turns).session j
  -- "and every worker that has ended stands on the line's."
  pub ended_on_line :
      (j : ℕ) → j < size_given b → ended_in_words b.initiator (handed_after b turns).session j ≡ true
      → stands_in_words b.initiator (handed_after b turns).session j ≡ word (line_given b) j
  -- The line is a consistent set. "Every other consistent set of that book has, at every worker, the line's checkpoint or an
  -- earlier one."
  pub line_set : IsSet (view_given b) (word (line_given b))
  pub line_consistent : Consistent (view_given b) (word (line_given b))
  pub latest :
      (c : ℕ → ℕ) → IsSet (view_given b) c → Consistent (view_given b) c → (j : ℕ) → j < size_given b → c j ≤ word (line_given b) j
  -- "a turn naming a strand on which a message waits is refused by question 17 or not at all,": of the sixteen whose lengths the
  -- words give
  pub accepted_or_full :
      (p : ℕ) → 1 ≤ p → p ≤ most_processes → waits_in_words (handed_after b turns).session (p - 1) ≡ true
      → (next_answer b turns p ≡ 0) ⊎ (next_answer b turns p ≡ 17)
  -- "and not by 17 where the bytes lent have room for the longest messages that this layout lets wait at once"
  pub with_room :
      (p : ℕ) → 1 ≤ p → p ≤ most_processes → waits_in_words (handed_after b turns).session (p - 1) ≡ true
      → room_for_all (size_given b) ≤ length b.strands → next_answer b turns p ≡ 0

-- Demand 3, one claim over every list of turns, any numbers.
abbrev pub Demand3InWords : Type 0
Demand3InWords = (b : Lent) → AllAccept b → IsSearch b → (turns : List ℕ) → HoldsInWords b turns
