-- `start_and_take` meets its contract.
use mathlib.Core.Path.{◌≡◌, ◌∙◌}
use Rattle.book.specs.Lent.{Tables, lent}
use Rattle.book.proofs.Refusals.{value_is}
use Rattle.session.specs.Calls.{session_started}
use Rattle.searches.specs.Run.{as_processes}
use Rattle.searches.proofs.Running.{start_refused}
use Rattle.searches.proofs.Finishing.{taken_inside}
use Rattle.searches.proofs.start_and_take.Goals as goal
use Rattle.searches.proofs.start_and_take.Goals.{in-Ok, in-Err}

pub returns : goal.returns
returns c = let a = c.args in
    let t : Tables = lent a.shape a.sent.now a.received.now in
    let inside = c.strands_inside-strands in
    let begun : c.match-start.begun ≡ session_started t a.initiator a.purpose inside.result = elim c.match-start.branch [
      | in-Ok w ↦ w.begun-is ∙ value_is _ _ c.start.ensures.answer w.in-Ok.is
      | in-Err w ↦ w.begun-is ∙ (w.no_session-begun.ensures ∙ start_refused t a.initiator a.purpose inside.result c.start.ensures.answer w.in-Err.is)
    ] in
    taken_inside t a.initiator a.purpose inside.result c.match-start.begun c.start.new.strands inside.ensures begun
    c.start.ensures.strands_after
    (as_processes a.list.now)
    c.take_turns.result
    c.take_turns.ensures.value
