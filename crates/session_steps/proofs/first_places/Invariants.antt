-- `first_places` meets its contract. The invariant: the machines so far are the first ones.
use mathlib.Core.List.{[]}
use Rattle.book.specs.Lent.{lent}
use Rattle.lists.proofs.Filling.{Filled}
use Rattle.participant.specs.Calls.{no_participant}
use Rattle.session.specs.Steps.{place_at_start}
use Rattle.session_steps.proofs.first_places.Given as goal

abbrev pub invariant-loop-k : goal.invariant-loop-k
invariant-loop-k l =
    Filled no_participant l.initial.places 16 (place_at_start (lent l.shape [] []) l.initiator l.purpose) l.places l.k
