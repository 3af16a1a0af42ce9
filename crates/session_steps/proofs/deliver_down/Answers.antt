-- `deliver_down` meets its contract.
use mathlib.Core.Path.{◌≡◌, ap, ◌∙◌}
use native.Mathlib.Omega.{arith}
use borrow.Author.Rules.{rules}
use lib.ListN.{length, get_or}
use Rattle.accepted.specs.Holding.{tables_in}
use Rattle.line_theory.proofs.Accepted.{rows_few}
use Rattle.participant.specs.Calls.{no_participant}
use Rattle.session.specs.Workers.{participant_at}
use Rattle.lists.proofs.Over.{at_place}
use Rattle.session_steps.proofs.Steps.{beyond, down_is}
use Rattle.session_steps.proofs.deliver_down.Goals as goal

pub offset_bounds-participants-k : goal.offset_bounds-participants-k
offset_bounds-participants-k c = omega (arith, c.requires.k_bound.0)

pub bounds-participants-k : goal.bounds-participants-k
bounds-participants-k c = c.requires.k_bound.0

pub read_for-message-requires : goal.read_for-message-requires
read_for-message-requires c = rows_few c.args.tables.now.passed

pub deliver_message-requires : goal.deliver_message-requires
deliver_message-requires c = c.requires

pub returns : goal.returns
returns c =
    let a = c.args in
    let long : length a.session.participants ≡ 16 = search rules in
    let taken : get_or a.session.participants a.k beyond ≡ participant_at a.session a.k =
    at_place beyond no_participant a.session.participants a.k (omega (arith, long, c.requires.k_bound.0)) in
    down_is (tables_in a.tables.now) a.session a.k a.s.now _ _ taken c.read_for-message.ensures c.deliver_message.ensures
