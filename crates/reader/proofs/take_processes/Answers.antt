use native.Mathlib.Omega.{arith}
use Rattle.reader.proofs.Answers.{exit}
use Rattle.reader.proofs.ProcessesTurns.{met_begun, sent_clear, received_clear, met_refused, met_more, met_more_follows, met_ended}
use Rattle.reader.proofs.take_processes.Goals as goal

pub loop-j-init : goal.loop-j-init
loop-j-init c = met_begun _ _ _ _ _ c.requires.sent_value.0 c.requires.sent_value.1

pub take_process-requires : goal.take_process-requires
take_process-requires c = record {
  rows_clear = sent_clear _ _ _ _ _ _ _ _ _ c.loop-j.invariant c.loop-j-test.true (omega arith);
  rows_clear_2 = received_clear _ _ _ _ _ _ _ _ _ c.loop-j.invariant c.loop-j-test.true (omega arith);
}

pub returns-in_err-count : goal.returns-in_err-count
returns-in_err-count c = met_refused _ _ _ _ _ _ _ _ _ c.loop-j.invariant c.loop-j-test.true (omega arith) _ _ _
    c.take_process.ensures _ c.in_err-count.was
    (exit _ c.in_err-count.field-0.0 c.from_residual.ensures.1 (λ f same. same))

pub overflow_add-sum : goal.overflow_add-sum
overflow_add-sum c = omega (arith, c.take_process.ensures.within _ _ c.in_ok-count.was)

pub loop-j-preserved : goal.loop-j-preserved
loop-j-preserved c = met_more _ _ _ _ _ _ _ _ _ c.loop-j.invariant c.loop-j-test.true (omega arith) _ _ _
    c.take_process.ensures _ _ c.in_ok-count.was

pub returns-then-next-s : goal.returns-then-next-s
returns-then-next-s c = met_more_follows _ _ _ _ _ _ _ _ _ c.loop-j.invariant c.loop-j-test.false c.if-next-s.true

pub returns : goal.returns
returns c = met_ended _ _ _ _ _ _ _ _ _ c.loop-j.invariant c.loop-j-test.false c.if-next-s.false
