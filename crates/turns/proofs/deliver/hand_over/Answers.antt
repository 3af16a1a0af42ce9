-- `hand_over` meets its contract.
use mathlib.Core.Path.{◌≡◌, refl, sym, ◌∙◌}
use native.Mathlib.Omega.{arith}
use borrow.Author.Rules.{rules}
use lib.ListN.{length}
use Rattle.accepted.specs.Holding.{tables_in}
use Rattle.lists.proofs.Over.{at_place}
use Rattle.line_theory.proofs.Accepted.{accepted_size}
use Rattle.participant.specs.Calls.{no_participant}
use Rattle.session.proofs.Places.{beyond}
use Rattle.session_steps.proofs.Steps.{down_is}
use Rattle.turns.proofs.Delivering.{report_passes, down_passes, down_there, down_read, handed_down}
use Rattle.turns.proofs.deliver.hand_over.Goals as goal

pub read_message-requires : goal.read_message-requires
read_message-requires c = omega (arith, accepted_size c.args.tables.now.passed.accepted)

pub unwrap-message-requires : goal.unwrap-message-requires
unwrap-message-requires c = let a = c.args in
    let pre = c.requires in
    let long : length a.session.participants ≡ 16 = search rules in
    down_there a.tables.now.rows.shape.n a.session a.k a.s.now _
    (at_place beyond no_participant a.session.participants a.k (omega (arith, long, pre.deliverable.counted.0)))
    c.read_message.ensures
    (down_passes a.tables.now.rows.shape.n a.session a.k a.s.now pre.w_value c.in-Asking.is)

pub deliver_up-requires : goal.deliver_up-requires
deliver_up-requires c = let a = c.args in
    let pre = c.requires in
    let at = pre.deliverable in
    let passes = report_passes a.tables.now.rows.shape.n a.session a.k a.s.now (sym pre.w_value ∙ c.in-Report.is) in
    record { is_process = at.to_initiator; me_value = at.own_place; s_value = passes; rounds_lt_tally_limit = at.rounds; k_bound = at.counted }

pub returns-in-Asking : goal.returns-in-Asking
returns-in-Asking c = let a = c.args in
    let long : length a.session.participants ≡ 16 = search rules in
    handed_down (tables_in a.tables.now) a.session a.k a.s.now c.in-Asking.is
    (down_is (tables_in a.tables.now) a.session a.k a.s.now _ _ refl
    (down_read a.tables.now.rows.shape.n a.session a.k a.s.now _
    (at_place beyond no_participant a.session.participants a.k (omega (arith, long, c.requires.deliverable.counted.0)))
    c.read_message.ensures
    c.unwrap-message.ensures)
    c.deliver_message.ensures)
