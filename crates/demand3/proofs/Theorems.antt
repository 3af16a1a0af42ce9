-- Demand 3, and what users rely on beside it.
use Rattle.demand3.proofs.Start as start
use Rattle.demand3.proofs.Claims as claims
use Rattle.demand3.proofs.Others as others
use Rattle.demand3.proofs.Stays as stays
use Rattle.demand3.proofs.Restarting as restarting
use Rattle.demand3.proofs.Reached as ends
use Rattle.demand3.specs.Statement.{Demand3}
use Rattle.demand3.specs.Beside.{StartHasRoom, GoesOn, EndIsReached, StaysUntilDelivered, LeavesOthers, RestartEnds}

pub demand_3 : Demand3
demand_3 = claims.demand_3

pub start_has_room : StartHasRoom
start_has_room = start.start_has_room

pub goes_on : GoesOn
goes_on = claims.goes_on

pub end_is_reached : EndIsReached
end_is_reached = ends.end_is_reached

pub stays_until_delivered : StaysUntilDelivered
stays_until_delivered = stays.stays_until_delivered

pub leaves_others : LeavesOthers
leaves_others = others.leaves_others

pub restart_ends : RestartEnds
restart_ends = restarting.restart_ends
