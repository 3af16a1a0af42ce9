-- `UpGoes` of the session's theory holds: a report is delivered to the initiator.
-- Assumes nothing.
use mathlib.Core.Path.{◌≡◌, sym, ap, subst, ◌∙◌}
use Prim.Native.Nat.{◌-◌}
use Rattle.book.specs.declared.Process.{Process}
use Rattle.message.specs.declared.Message.{Message}
use Rattle.machine.specs.Own.{Own}
use Rattle.initiator.specs.Step.{step}
use Rattle.initiator.specs.Calls.{read_by}
use Rattle.session.specs.Steps.{deliver_up, with_posted}
use Rattle.session_theory.proofs.Search.{size, lead, own_in}
use Rattle.session_theory.proofs.Invariant.{InPhase, IsReported}
use Rattle.session_theory.proofs.Moves.{UpGoes}
use Rattle.search_rounds.proofs.Moved.{Moves, by_step}
use Rattle.search_rounds.proofs.Arrives.{Arrived, report, arrived}
use Rattle.search_rounds.proofs.StillOut
use Rattle.search_rounds.proofs.Ending
use Rattle.search_rounds.proofs.Polling

pub up_goes : UpGoes
unfolding deliver_up with_posted
up_goes g s box phase ahead k is searching w there is_reported =
    let rep : IsReported g s k (box k) = subst (InPhase g s k (box k)) is_reported (w.in_phase k there) in
    let m : Message = report g s k (box k) is w.placed there rep in
    let got : Arrived g s k (box k) m = arrived g s k (box k) is w.placed there rep in
    let own : Own = own_in g (lead g) in
    let taken : step (own_in g (s.initiator.0 - 1)) s.machine (read_by (size g) s.machine (box k)) ≡ step own s.machine m =
    ap (λ (p : Process). step (own_in g (p.0 - 1)) s.machine (read_by (size g) s.machine (box k))) w.placed.leader
    ∙ ap (step own s.machine) got.read in
    subst (Moves g s box k) (sym taken)
    (by_step (Moves g s box k) own s.machine m
    (λ out step_is. StillOut.goes_on g s box phase ahead k is w there rep is_reported m got out)
    (λ none somebody step_is.
    Polling.goes_on g s box phase ahead k is searching w there rep is_reported m got none somebody step_is)
    (λ none nobody step_is.
    Ending.goes_on g s box phase ahead k is searching w there rep is_reported m got none nobody step_is))
