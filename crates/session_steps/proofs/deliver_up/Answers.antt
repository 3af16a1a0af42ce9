-- `deliver_up` meets its contract.
use native.Mathlib.Omega.{arith}
use Rattle.accepted.specs.Holding.{tables_in}
use Rattle.line_theory.proofs.Accepted.{rows_few}
use Rattle.session_steps.proofs.Steps.{report_there, report_read, report_sender, up_is}
use Rattle.session_steps.proofs.deliver_up.Goals as goal

pub read_message-requires : goal.read_message-requires
read_message-requires c = omega (arith, rows_few)

pub unwrap-message-requires : goal.unwrap-message-requires
unwrap-message-requires c = let a = c.args in report_there a.tables.now.rows.shape.n a.session.machine a.s.now c.requires.s_value c.read_message.ensures

pub step-next-requires : goal.step-next-requires
step-next-requires c = let a = c.args in
    let pre = c.requires in
    record {
      is_process = rw pre.me_value pre.is_process;
      le_sender = report_sender a.tables.now.rows.shape.n a.session.machine a.s.now c.unwrap-message.result (rows_few a.tables.now.passed) pre.s_value
          (report_read a.tables.now.rows.shape.n a.session.machine a.s.now c.read_message.ensures c.unwrap-message.ensures);
      rounds_lt_tally_limit = pre.rounds_lt_tally_limit;
    }

pub delivered_on-requires : goal.delivered_on-requires
delivered_on-requires c = c.requires.k_bound

pub returns : goal.returns
returns c = let a = c.args in
    let next = c.step-next in
    up_is (tables_in a.tables.now) a.session a.k a.s.now c.unwrap-message.result next.result c.delivered_on.result
    c.requires.me_value
    (report_read a.tables.now.rows.shape.n a.session.machine a.s.now c.read_message.ensures c.unwrap-message.ensures)
    next.ensures
    c.delivered_on.ensures
