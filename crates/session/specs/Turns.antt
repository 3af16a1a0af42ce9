-- Document 01, "The list of demand 3": a list of turns, refused ones included. "Each turn gets the session, strands and tables
-- as the call before returned or left them, and nothing else writes these."
use Rattle.std.specs.Prelude.{Bool, not, ◌&&◌, ◌||◌, List, [], ◌∷◌, ℕ, ◌+◌, ◌-◌, eqb}
use Rattle.book.specs.Lent.{Tables}
use Rattle.book.specs.declared.Process.{Process}
use Rattle.book.specs.Bounds.{most_processes}
use Rattle.lists.specs.Over.{all_to}
use Rattle.lists.specs.Pick.{pick}
use Rattle.machine.specs.Flags.{flag, someone}
use Rattle.session.specs.declared.Session.{Session}
use Rattle.session.specs.Held.{waiting_bytes, held, is_report}
use Rattle.session.specs.Calls.{session_started, strands_started, turn_question, session_after, strands_after}

-- a session and its strands
pub record Ongoing : Type 0 where
  pub session : Session
  pub strands : List ℕ

-- as a start leaves them
abbrev pub started : Tables → Process → ℕ → List ℕ → Ongoing
started tables initiator purpose strands =
    record {
      session = session_started tables initiator purpose strands;
      strands = strands_started tables initiator purpose strands;
    }

module _ (tables : Tables) where
  -- as a turn leaves them
  abbrev pub after_turn : Ongoing → Process → Ongoing
  after_turn o p =
      record {
        session = session_after tables o.session p o.strands;
        strands = strands_after tables o.session p o.strands;
      }

  -- after a list of turns
  unfoldable pub after_turns : Ongoing → List Process → Ongoing
  after_turns o [] = o
  after_turns o (p ∷ turns) = after_turns (after_turn o p) turns

  abbrev pub turn_accepted : Ongoing → Process → Bool
  turn_accepted o p = eqb (turn_question tables o.session p o.strands) 0

  -- "The messages delivered are the accepted turns of the list"
  unfoldable pub accepted_turns : Ongoing → List Process → ℕ
  accepted_turns o [] = 0
  accepted_turns o (p ∷ turns) = pick (turn_accepted o p) 1 0 + accepted_turns (after_turn o p) turns

  -- the turn that names p would deliver the only report that is awaited still
  abbrev pub brings_last : Ongoing → Process → Bool
  brings_last o p =
      let k : ℕ = p.0 - 1 in
      let session : Session = o.session in
      is_report (held tables.shape.n session k (waiting_bytes tables.shape.n session o.strands k))
      && all_to most_processes (λ q. not (flag session.machine.awaited q) || eqb q k)

  -- "A round is one wait of at least one report, counted as the wait begins": with an accepted turn one begins when it brings
  -- the last report, and somebody is awaited then
  abbrev pub wait_begins : Ongoing → Process → Bool
  wait_begins o p = turn_accepted o p && (brings_last o p && someone (after_turn o p).session.machine.awaited)

  -- the turns of a list with which a wait begins
  unfoldable pub waits_begun : Ongoing → List Process → ℕ
  waits_begun o [] = 0
  waits_begun o (p ∷ turns) = pick (wait_begins o p) 1 0 + waits_begun (after_turn o p) turns
