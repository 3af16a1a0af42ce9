-- What users rely on beside demand 3: how many bytes suffice for the start, that a search comes to its end, that a turn leaves the
-- other strands alone, and what a bare restart comes to.
use Rattle.std.specs.Prelude.{◌≡◌, true, false, List, ◌++◌, ◌⊎◌, ℕ, suc, ◌+◌, ◌-◌, ◌≤◌, ◌<◌, length}
use Rattle.book.specs.declared.Process.{Process}
use Rattle.book.specs.Read.{read_question}
use Rattle.line_theory.specs.Search.{line}
use Rattle.book.specs.Names.{is_named, is_purpose}
use Rattle.machine.specs.Named.{is_participant}
use Rattle.strands.specs.Strands.{room_for_all}
use Rattle.session.specs.Workers.{stands_on, has_ended, waits_on}
use Rattle.session.specs.Held.{waiting_bytes}
use Rattle.session.specs.Calls.{start_question}
use Rattle.session.specs.Turns.{Ongoing, after_turn, accepted_turns, brings_last}
use Rattle.demand3.specs.Statement.{Beginning, shape_left, view_left, IsAccepted, Searches, at_start, after, next_question, message_waits, someone_goes_on, most_delivered, tables_left}

-- Room for all strands, (n − 1) × (6n − 2) bytes, suffices for the start too, with any purpose.
abbrev pub StartHasRoom : Type 0
StartHasRoom =
    (b : Beginning) → read_question b.bytes b.sent b.received ≡ 0
    → is_named (shape_left b).n b.initiator.0 ≡ true → is_purpose b.purpose ≡ true
    → room_for_all (shape_left b).n ≤ length b.strands
    → start_question (tables_left b) b.initiator b.purpose b.strands ≡ 0

-- With room, some turn is accepted for as long as some worker has not ended,
abbrev pub GoesOn : Type 0
GoesOn =
    (b : Beginning) → IsAccepted b → Searches b → room_for_all (shape_left b).n ≤ length b.strands → (turns : List Process)
    → ((j : ℕ) → j < (shape_left b).n → has_ended (after b turns).session j ≡ true)
    ⊎ ((p : Process) × (next_question b turns p ≡ 0))

-- after a list every worker has ended, on the line
abbrev pub AtEnd : Beginning → List Process → Type 0
AtEnd b turns =
    (j : ℕ) → j < (shape_left b).n
    → (has_ended (after b turns).session j ≡ true) × (stands_on (after b turns).session j ≡ line (view_left b) j)

abbrev pub accepted_in : Beginning → List Process → ℕ
accepted_in b turns = accepted_turns (tables_left b) (at_start b) turns

-- so that from every list on there are further turns, each of them accepted, after which every worker has ended, on the line.
-- With those accepted before they are at most as many as demand 3 allows.
abbrev pub EndIsReached : Type 0
EndIsReached =
    (b : Beginning) → IsAccepted b → Searches b → room_for_all (shape_left b).n ≤ length b.strands → (turns : List Process)
    → (more : List Process)
    × (accepted_in b (turns ++ more) ≡ accepted_in b turns + length more)
    × (accepted_in b turns + length more ≤ most_delivered (view_left b))
    × AtEnd b (turns ++ more)

-- after the list the turn naming p is accepted, and so delivers the message on the strand of process k, counted from 0
abbrev pub DeliversOn : Beginning → List Process → Process → ℕ → Type 0
DeliversOn b turns p k = (next_question b turns p ≡ 0) × (p.0 ≡ suc k)

-- "A message waits from the start or turn that writes it until the turn that delivers it": every other turn leaves it, with any
-- purpose.
abbrev pub StaysUntilDelivered : Type 0
StaysUntilDelivered =
    (b : Beginning) → IsAccepted b → (turns : List Process) (p : Process) (k : ℕ)
    → let n : ℕ = (shape_left b).n in
    let before : Ongoing = after b turns in
    let next : Ongoing = after_turn (tables_left b) before p in
    (DeliversOn b turns p k → ⊥) → waits_on before.session k ≡ true
    → (waits_on next.session k ≡ true)
    × (waiting_bytes n next.session next.strands k ≡ waiting_bytes n before.session before.strands k)

-- Nothing new appears on another participant's strand either, unless an accepted turn brings the initiator the last report, so
-- that it sends.
abbrev pub LeavesOthers : Type 0
LeavesOthers =
    (b : Beginning) → IsAccepted b → (turns : List Process) (p : Process) (k : ℕ)
    → let n : ℕ = (shape_left b).n in
    let before : Ongoing = after b turns in
    let next : Ongoing = after_turn (tables_left b) before p in
    is_participant n (b.initiator.0 - 1) k ≡ true → (DeliversOn b turns p k → ⊥)
    → (next_question b turns p ≡ 0 → brings_last (tables_left b) before p ≡ false)
    → waiting_bytes n next.session next.strands k ≡ waiting_bytes n before.session before.strands k

-- Purpose 2: after n − 1 accepted turns everybody has ended on checkpoint 1, and nothing waits. For as long as some worker has not
-- ended a message waits, and a turn on a strand where one waits is always accepted.
pub record RestartHolds (b : Beginning) (turns : List Process) : Type 0 where
  -- "a message waits exactly when some worker has not ended"
  pub waits_exactly : message_waits (after b turns).session ≡ someone_goes_on (shape_left b).n (after b turns).session
  pub few_delivered : accepted_turns (tables_left b) (at_start b) turns ≤ (shape_left b).n - 1
  pub delivered : (after b turns).session.delivered ≡ accepted_turns (tables_left b) (at_start b) turns
  pub no_round : (after b turns).session.machine.rounds ≡ 0
  pub on_oldest :
      (j : ℕ) → j < (shape_left b).n → has_ended (after b turns).session j ≡ true → stands_on (after b turns).session j ≡ 1
  pub all_ended :
      accepted_turns (tables_left b) (at_start b) turns ≡ (shape_left b).n - 1
      → ((j : ℕ) → j < (shape_left b).n → has_ended (after b turns).session j ≡ true)
      × (message_waits (after b turns).session ≡ false)
  pub accepted :
      (p : Process) → 1 ≤ p.0 → waits_on (after b turns).session (p.0 - 1) ≡ true → next_question b turns p ≡ 0

abbrev pub RestartEnds : Type 0
RestartEnds = (b : Beginning) → IsAccepted b → b.purpose ≡ 2 → (turns : List Process) → RestartHolds b turns
