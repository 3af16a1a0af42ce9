-- `resend_writer::write` meets its contract: at each return the tests that led there say which question fails first.
use mathlib.Core.Path.{◌∙◌}
use native.Mathlib.Omega.{arith}
use lib.ListN.{length}
use Rattle.book.specs.Lent.{lent}
use Rattle.book.specs.declared.Question.TheVariants.{Room}
use Rattle.book.proofs.Refusals.{refused_by, is_refused, is_accepted, value_is, hands_on, refuses, accepts}
use Rattle.resend.specs.Calls.{bytes_to_resend}
use Rattle.resend_writer.proofs.Answers.{answered, refused, full, written}
use Rattle.resend_writer.proofs.write.Goals as goal

pub returns-in_err-order : goal.returns-in_err-order
returns-in_err-order c = let a = c.args in
    let h = c.restart_order.ensures in
    let was = c.in_err-order.was in
    let t = lent a.shape a.sent.now a.received.now in
    let both = refused t a.purpose a.out.now (is_refused _ _ h was) in
    record {
      answer = answered t a.purpose a.out.now
          (hands_on _ c.in_err-order.field-0.0 (length (bytes_to_resend t a.purpose)) c.from_residual.ensures.1 (λ f same. same)
          (both.0 ∙ refused_by _ _ h was));
      bytes = both.1;
    }

pub returns-then-out-list_size : goal.returns-then-out-list_size
returns-then-out-list_size c = let a = c.args in
    let h = c.restart_order.ensures in
    let was = c.in_ok-order.was in
    let t = lent a.shape a.sent.now a.received.now in
    let both = full t a.purpose a.out.now (is_accepted _ _ h was) (value_is _ _ h was) c.list_size.ensures c.if-out-list_size.true in
    record { answer = answered t a.purpose a.out.now (refuses Room _ both.0); bytes = both.1 }

pub returns : goal.returns
returns c = let a = c.args in
    let h = c.restart_order.ensures in
    let was = c.in_ok-order.was in
    let t = lent a.shape a.sent.now a.received.now in
    let put = c.put_list.ensures in
    let all
    = written t a.purpose a.out.now (is_accepted _ _ h was) (value_is _ _ h was)
    (omega (arith, put.value, c.list_size.ensures, c.if-out-list_size.false)) put.value put.out_after in
    record { answer = answered t a.purpose a.out.now (accepts all.0 all.1.0); bytes = all.1.1 }
