-- The statements of `specs/` hold.
-- Assumes nothing.
use Rattle.demand3_words.specs.Statement.{Demand3InWords}
use Rattle.demand3_words.specs.Beside.{AcceptsAsInside}
use Rattle.demand3_words.specs.Kept.{StartIsSession, TurnIsSession}
use Rattle.demand3_words.proofs.Kept
use Rattle.demand3_words.proofs.Accepting
use Rattle.demand3_words.proofs.Claims

pub demand_3_in_words : Demand3InWords
demand_3_in_words = Claims.demand_3_in_words

pub accepts_as_inside : AcceptsAsInside
accepts_as_inside = Accepting.accepts_as_inside

pub start_is_session : StartIsSession
start_is_session = Kept.start_is_session

pub turn_is_session : TurnIsSession
turn_is_session = Kept.turn_is_session
