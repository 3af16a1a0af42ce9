-- `deliver_message` meets its contract.
use mathlib.Core.Path.{◌≡◌}
use native.Mathlib.Omega.{arith}
use lib.ListN.{length, get_or}
use Rattle.accepted.specs.Holding.{tables_in}
use Rattle.participant.specs.Calls.{no_participant}
use Rattle.session.specs.Workers.{participant_at}
use Rattle.lists.proofs.Over.{at_place}
use Rattle.session_steps.proofs.Steps.{beyond, names_down, message_is}
use borrow.Author.Rules.{rules}
use Rattle.session_steps.proofs.deliver_message.Goals as goal

pub step-next-requires : goal.step-next-requires
step-next-requires c = let long : length c.args.session.participants ≡ 16 = search rules in
    let taken : let a = c.args in get_or a.session.participants a.k beyond ≡ participant_at a.session a.k = let a = c.args in
    at_place beyond no_participant a.session.participants a.k (omega (arith, long, c.requires.k_bound.0)) in
    let a = c.args in
    let pre = c.requires in
    let names = names_down a.tables.now.rows a.k a.session.initiator.0 _ (participant_at a.session a.k) (taken) pre.k_value pre.k_value_2 pre.is_process pre.le_initiator in
    record { is_process = names.0; le_initiator = names.1 }

pub offset_bounds-participants-k-2 : goal.offset_bounds-participants-k-2
offset_bounds-participants-k-2 c = omega (arith, c.requires.k_bound.0)

pub bounds-participants-k-2 : goal.bounds-participants-k-2
bounds-participants-k-2 c = c.requires.k_bound.0

pub delivered_on-requires : goal.delivered_on-requires
delivered_on-requires c = c.requires.k_bound

pub overflow_sub-initiator : goal.overflow_sub-initiator
overflow_sub-initiator c = c.requires.le_initiator.0

pub on_strand-requires : goal.on_strand-requires
on_strand-requires c = let pre = c.requires in
    (pre.k_bound.0, omega (arith, pre.le_initiator))

pub returns : goal.returns
returns c = let long : length c.args.session.participants ≡ 16 = search rules in
    let taken : let a = c.args in get_or a.session.participants a.k beyond ≡ participant_at a.session a.k = let a = c.args in
    at_place beyond no_participant a.session.participants a.k (omega (arith, long, c.requires.k_bound.0)) in
    let a = c.args in
    let next = c.step-next in
    message_is (tables_in a.tables.now) a.session a.k _ a.message next.result
    c.delivered_on.result
    c.on_strand.result
    (taken)
    c.requires.k_value
    next.ensures
    c.delivered_on.ensures
    c.on_strand.ensures
