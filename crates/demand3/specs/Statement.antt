-- Demand 3, over the definitions that the contracts of `read`, `start` and `turn` cite: "Take any accepted book of n processes,
-- a search for the line (no bare restart) begun on it by any one of them, and every list of turns from that start on, refused
-- ones included, each given what the call before it left, with nobody else writing meanwhile."
use Rattle.std.specs.Prelude.{◌≡◌, Bool, true, not, List, ◌⊎◌, ℕ, ◌+◌, ◌-◌, ◌*◌, ◌≤◌, ◌<◌, length}
use Rattle.book.specs.Lent.{Tables}
use Rattle.book.specs.declared.Shape.{Shape}
use Rattle.book.specs.declared.Process.{Process}
use Rattle.book.specs.Bounds.{most_processes}
use Rattle.book.specs.Read.{read_question, tables_read}
use Rattle.lists.specs.Over.{all_to}
use Rattle.line_theory.specs.Sets.{View, IsSet, Consistent}
use Rattle.line_theory.specs.Search.{line, passed}
use Rattle.line_theory.specs.OfTables.{view_of}
use Rattle.lists.specs.Pick.{pick}
use Rattle.machine.specs.Flags.{someone}
use Rattle.strands.specs.Strands.{room_for_all}
use Rattle.session.specs.declared.Session.{Session}
use Rattle.session.specs.Workers.{stands_on, has_ended, waits_on}
use Rattle.session.specs.Calls.{start_question, turn_question}
use Rattle.session.specs.Turns.{Ongoing, started, after_turns, accepted_turns, waits_begun}

-- what a list begins with: the bytes of a book and two tables lent to read it, who begins a search, with which purpose, and
-- the strands lent
pub record Beginning : Type 0 where
  pub bytes : List ℕ
  pub sent : List ℕ
  pub received : List ℕ
  pub initiator : Process
  pub purpose : ℕ
  pub strands : List ℕ

-- the tables that the read leaves
abbrev pub tables_left : Beginning → Tables
tables_left b = tables_read b.bytes b.sent b.received

abbrev pub shape_left : Beginning → Shape
shape_left b = (tables_left b).shape

abbrev pub view_left : Beginning → View
view_left b = view_of (tables_left b)

-- the read and the start are accepted
pub record IsAccepted (b : Beginning) : Type 0 where
  pub read : read_question b.bytes b.sent b.received ≡ 0
  pub start : start_question (tables_left b) b.initiator b.purpose b.strands ≡ 0

-- "a search for the line (no bare restart)": "Purposes 1 and 3 search."
abbrev pub Searches : Beginning → Type 0
Searches b = (b.purpose ≡ 1) ⊎ (b.purpose ≡ 3)

-- the session and the strands as the start leaves them, and after a list of turns
abbrev pub at_start : Beginning → Ongoing
at_start b = started (tables_left b) b.initiator b.purpose b.strands

abbrev pub after : Beginning → List Process → Ongoing
after b turns = after_turns (tables_left b) (at_start b) turns

-- the question that a turn naming p would fail then
abbrev pub next_question : Beginning → List Process → Process → ℕ
next_question b turns p = turn_question (tables_left b) (after b turns).session p (after b turns).strands

-- a message waits on some strand
abbrev pub message_waits : Session → Bool
message_waits session = not (all_to most_processes (λ k. not (waits_on session k)))

-- some worker has not ended
abbrev pub someone_goes_on : ℕ → Session → Bool
someone_goes_on n session = not (all_to n (has_ended session))

-- "At most (n − 1) × (2T + 5) messages have been delivered."
abbrev pub most_delivered : View → ℕ
most_delivered v = (v.n - 1) * (2 * passed v + 5)

-- the start is one of the calls with which a wait begins, where somebody is awaited then
abbrev pub start_waits : Beginning → ℕ
start_waits b = pick (someone (at_start b).session.machine.awaited) 1 0

-- after the list
pub record HoldsAfter (b : Beginning) (turns : List Process) : Type 0 where
  -- "a message waits exactly when some worker has not ended"
  pub waits_exactly : message_waits (after b turns).session ≡ someone_goes_on (shape_left b).n (after b turns).session
  -- "The messages delivered are the accepted turns of the list, and the session's count equals their number."
  pub delivered :
      (after b turns).session.delivered ≡ accepted_turns (tables_left b) (at_start b) turns
  -- "At most (n − 1) × (2T + 5) messages have been delivered,"
  pub few_delivered : (after b turns).session.delivered ≤ most_delivered (view_left b)
  -- "A round is one wait of at least one report, counted as the wait begins."
  pub rounds :
      (after b turns).session.machine.rounds
      ≡ start_waits b + waits_begun (tables_left b) (at_start b) turns
  -- (not in demand 3's own words; 01 wants the count of rounds too "bounded in demand 3")
  pub few_rounds : (after b turns).session.machine.rounds ≤ passed (view_left b) + 2
  -- "No worker stands on a checkpoint earlier than the line's,"
  pub none_below : (j : ℕ) → j < (shape_left b).n → line (view_left b) j ≤ stands_on (after b turns).session j
  -- "and every worker that has ended stands on the line's."
  pub ended_on_line :
      (j : ℕ) → j < (shape_left b).n → has_ended (after b turns).session j ≡ true
      → stands_on (after b turns).session j ≡ line (view_left b) j
  -- The line is a consistent set. "Every other consistent set of that book has, at every worker, the line's checkpoint or an
  -- earlier one."
  pub line_set : IsSet (view_left b) (line (view_left b))
  pub line_consistent : Consistent (view_left b) (line (view_left b))
  pub latest :
      (c : ℕ → ℕ) → IsSet (view_left b) c → Consistent (view_left b) c → (j : ℕ) → j < (shape_left b).n → c j ≤ line (view_left b) j
  -- "a turn naming a strand on which a message waits is refused by question 17 or not at all,"
  pub accepted_or_full :
      (p : Process) → 1 ≤ p.0 → waits_on (after b turns).session (p.0 - 1) ≡ true
      → (next_question b turns p ≡ 0) ⊎ (next_question b turns p ≡ 17)
  -- "and not by 17 where the bytes lent have room for the longest messages that this layout lets wait at once"
  pub with_room :
      (p : Process) → 1 ≤ p.0 → waits_on (after b turns).session (p.0 - 1) ≡ true
      → room_for_all (shape_left b).n ≤ length b.strands → next_question b turns p ≡ 0

-- Demand 3 is one claim over every such list.
abbrev pub Demand3 : Type 0
Demand3 = (b : Beginning) → IsAccepted b → Searches b → (turns : List Process) → HoldsAfter b turns
