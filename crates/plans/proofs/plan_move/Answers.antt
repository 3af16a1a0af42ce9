-- `plan_move` meets its contract.
use mathlib.Core.Path.{refl, ◌∙◌}
use Rattle.consistency.proofs.Calls.{received_whole, sent_whole}
use Rattle.plans.proofs.Given.{few_processes, line_among}
use Rattle.plans.proofs.Plans.{resend_is, order_is, plan_is}
use Rattle.plans.proofs.plan_move.Goals as goal

pub kept_from-kept-requires : goal.kept_from-kept-requires
kept_from-kept-requires c = line_among c.args.tables.now.passed.accepted c.args.purpose c.line_checkpoints-line.result c.line_checkpoints-line.ensures

pub line_rows-off_received-requires : goal.line_rows-off_received-requires
line_rows-off_received-requires c = let found = c.line_checkpoints-line in
    (received_whole c.args.tables.now.passed, (line_among c.args.tables.now.passed.accepted c.args.purpose found.result found.ensures).1)

pub by_sender-off_sent-requires : goal.by_sender-off_sent-requires
by_sender-off_sent-requires c = few_processes c.args.tables.now.passed.accepted

pub line_rows-sent_rows-requires : goal.line_rows-sent_rows-requires
line_rows-sent_rows-requires c = let found = c.line_checkpoints-line in
    (sent_whole c.args.tables.now.passed, (line_among c.args.tables.now.passed.accepted c.args.purpose found.result found.ensures).1)

pub resend_from-resend-requires : goal.resend_from-resend-requires
resend_from-resend-requires c = few_processes c.args.tables.now.passed.accepted

pub order_to-order-requires : goal.order_to-order-requires
order_to-order-requires c = let found = c.line_checkpoints-line in
    line_among c.args.tables.now.passed.accepted c.args.purpose found.result found.ensures

pub returns : goal.returns
returns c = let found = c.line_checkpoints-line in
    let accepted = c.args.tables.now.passed.accepted in
    let purpose = c.args.purpose in
    let received = c.line_rows-off_received.ensures in
    let across = c.by_sender-off_sent.ensures in
    let resend = c.resend_from-resend in
    let order = c.order_to-order in
    let again
    = resend_is accepted purpose found.result found.ensures received across c.line_rows-sent_rows.ensures resend.result
    resend.ensures.first_value resend.ensures.last_value in
    plan_is accepted purpose found.result found.ensures _ refl c.kept_from-kept.ensures received across
    (order_is accepted purpose found.result found.ensures order.result order.ensures.from_value.0 (order.ensures.from_value.1 ∙ again)
    order.ensures.before_value order.ensures.after_value)
