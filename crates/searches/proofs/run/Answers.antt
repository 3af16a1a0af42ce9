-- `run` meets its contract: the questions decide, and only an accepted book is filled in; demand 3 holds of the session.
use mathlib.Core.Path.{◌≡◌, ◌∙◌}
use Rattle.book.proofs.Refusals.{refused_by, is_accepted, value_is, hands_on, accepts}
use Rattle.searches.specs.Run.{run_question}
use Rattle.searches.proofs.Running.{carries, read_refuses, read_passes, run_refused, run_answered, run_filled}
use Rattle.searches.proofs.run.Goals as goal

pub returns-in_err-shape : goal.returns-in_err-shape
returns-in_err-shape c = let a = c.args in
    let e = c.in_err-shape.field-0.0 in
    let fails = read_refuses a.bytes.now a.sent.now a.received.now a.initiator a.purpose a.list.now e (refused_by _ _ c.check.ensures c.in_err-shape.was) in
    let same = run_refused a.bytes.now a.sent.now a.received.now a.initiator a.purpose a.list.now e fails in
    record {
      answer = hands_on _ e _ c.from_residual.ensures.1 (λ f same. same) fails;
      sent_after = same.0;
      received_after = same.1;
      carries_demand3 = carries a.bytes.now a.sent.now a.received.now a.initiator a.purpose a.list.now;
    }

pub returns-in_err-begin_question : goal.returns-in_err-begin_question
returns-in_err-begin_question c = let a = c.args in
    let e = c.in_err-begin_question.field-0.0 in
    let h = c.check.ensures in
    let was = c.in_ok-shape.was in
    let fails = read_passes a.bytes.now a.sent.now a.received.now a.initiator a.purpose a.list.now _ (is_accepted _ _ h was) (value_is _ _ h was)
    ∙ refused_by _ _ c.begin_question.ensures c.in_err-begin_question.was in
    let same = run_refused a.bytes.now a.sent.now a.received.now a.initiator a.purpose a.list.now e fails in
    record {
      answer = hands_on _ e _ c.from_residual-in_err-begin_question.ensures.1 (λ f same. same) fails;
      sent_after = same.0;
      received_after = same.1;
      carries_demand3 = carries a.bytes.now a.sent.now a.received.now a.initiator a.purpose a.list.now;
    }

pub fill-requires : goal.fill-requires
fill-requires c = is_accepted _ _ c.check.ensures c.in_ok-shape.was

pub returns : goal.returns
returns c = let a = c.args in
    let h = c.check.ensures in
    let was = c.in_ok-shape.was in
    let same = value_is _ _ h was in
    let none : run_question a.bytes.now a.sent.now a.received.now a.initiator a.purpose ≡ 0 =
    read_passes a.bytes.now a.sent.now a.received.now a.initiator a.purpose a.list.now _ (is_accepted _ _ h was) same
    ∙ is_accepted _ _ c.begin_question.ensures c.in_ok-begin_question.was in
    let filled = run_filled a.bytes.now a.sent.now a.received.now a.initiator a.purpose a.list.now none _ _ _ c.start_and_take-session.result same
    c.fill.ensures.sent
    c.fill.ensures.received
    c.start_and_take-session.ensures in
    record {
      answer = accepts none (run_answered a.bytes.now a.sent.now a.received.now a.initiator a.purpose a.list.now none _ _ _ c.start_and_take-session.result same
          c.fill.ensures.sent
          c.fill.ensures.received
          c.start_and_take-session.ensures);
      sent_after = filled.0;
      received_after = filled.1;
      carries_demand3 = carries a.bytes.now a.sent.now a.received.now a.initiator a.purpose a.list.now;
    }
