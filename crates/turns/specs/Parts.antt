-- What the functions of a turn are given, and what they promise one another.
use Rattle.std.specs.Prelude.{◌≡◌, List, ℕ, suc, ◌-◌, ◌≤◌, ◌<◌}
use Rattle.book.specs.declared.TableRows.{TableRows}
use Rattle.book.specs.InTurn.{ask}
use Rattle.book.specs.Accepted.{IsProcess}
use Rattle.machine.specs.Named.{tally_limit}
use Rattle.strands.specs.Strands.{have_room, posted}
use Rattle.session.specs.declared.Session.{Session}
use Rattle.session.specs.declared.Turned.{Turned}
use Rattle.session.specs.Workers.{participant_at}

-- a session at whose participant k a message can be delivered, either way
pub record Deliverable (rows : TableRows) (session : Session) (k : ℕ) : Type 0 where
  pub to_it : IsProcess rows (suc k)
  pub to_initiator : IsProcess rows session.initiator.0
  pub its_place : (participant_at session k).me.0 ≡ suc k
  pub its_initiator : (participant_at session k).initiator.0 ≡ session.initiator.0
  pub there : (1 ≤ session.initiator.0) × (session.initiator.0 ≤ 16)
  pub counted : (k < 16) × (session.delivered < tally_limit)
  pub own_place : session.machine.me.0 ≡ session.initiator.0
  pub rounds : session.machine.rounds < tally_limit

-- question 17 of what a step sends, and the strands with it
abbrev pub initiator_then : Turned → ℕ
initiator_then turned = turned.session.initiator.0 - 1

abbrev pub room_asked : ℕ → Turned → List ℕ → ℕ
room_asked n turned strands = ask 17 (have_room n (initiator_then turned) turned.outgoing strands)

abbrev pub strands_with : ℕ → Turned → List ℕ → List ℕ
strands_with n turned strands = posted n (initiator_then turned) turned.outgoing strands
