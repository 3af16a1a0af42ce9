use Rattle.reader.proofs.CheckpointLoop.{passed_begun, sent_fits, received_fits, sent_refused, received_refused, passed_more, passed_ended}
use Rattle.reader.proofs.Answers.{exit}
use Rattle.reader.proofs.take_checkpoints.Goals as goal

pub loop-r-init : goal.loop-r-init
loop-r-init c = passed_begun _ _ _ _ _ _ _ _

pub take_counters-requires : goal.take_counters-requires
take_counters-requires c = let pre = c.requires in
    sent_fits _ _ _ _ _ _ _ _ _ _ _ _ c.loop-r.invariant pre.rows_clear pre.rows_clear_2 c.loop-r-test.true

pub returns-in_err-middle : goal.returns-in_err-middle
returns-in_err-middle c = let pre = c.requires in
    sent_refused _ _ _ _ _ _ _ _ _ _ _ _ c.loop-r.invariant pre.rows_clear pre.rows_clear_2 c.loop-r-test.true
    _ c.sent_zeros-zeros.ensures _ _ c.take_counters.ensures _ c.in_err-middle.was
    (exit _ c.in_err-middle.field-0.0 c.from_residual.ensures.1 (λ f same. same))

pub take_counters-requires-in-loop-r : goal.take_counters-requires-in-loop-r
take_counters-requires-in-loop-r c = let pre = c.requires in
    received_fits _ _ _ _ _ _ _ _ _ _ _ _ c.loop-r.invariant pre.rows_clear pre.rows_clear_2 c.loop-r-test.true

pub returns-in_err-next : goal.returns-in_err-next
returns-in_err-next c = let pre = c.requires in
    received_refused _ _ _ _ _ _ _ _ _ _ _ _ c.loop-r.invariant pre.rows_clear pre.rows_clear_2 c.loop-r-test.true
    _ c.sent_zeros-zeros.ensures _ _ c.take_counters.ensures _ c.in_ok-middle.was
    _ c.received_zeros-zeros.ensures _ _ c.take_counters-in-loop-r.ensures _ c.in_err-next.was
    (exit _ c.in_err-next.field-0.0 c.from_residual-in_err-next.ensures.1 (λ f same. same))

pub loop-r-preserved : goal.loop-r-preserved
loop-r-preserved c = let pre = c.requires in
    passed_more _ _ _ _ _ _ _ _ _ _ _ _ c.loop-r.invariant pre.rows_clear pre.rows_clear_2 c.loop-r-test.true
    _ c.sent_zeros-zeros.ensures _ _ c.take_counters.ensures _ c.in_ok-middle.was
    _ c.received_zeros-zeros.ensures _ _ c.take_counters-in-loop-r.ensures _ c.in_ok-next.was

pub returns : goal.returns
returns c = passed_ended _ _ _ _ _ _ _ _ _ _ _ _ c.loop-r.invariant c.loop-r-test.false
