-- `held_up` meets its contract.
use mathlib.Core.Path.{◌≡◌, sym, ◌∙◌}
use native.Mathlib.Omega.{arith}
use Rattle.initiator.specs.Calls.{message_question}
use Rattle.initiator.proofs.Calls.{sender_there, not_formed, is_formed, formed_asked}
use Rattle.session_check.proofs.Holding.{refuses_one, refuses_none, up_stray, up_report}
use Rattle.session_check.proofs.held.held_up.Goals as goal

pub returns-in_default : goal.returns-in_default
returns-in_default c =
    let a = c.args in
    let asks : message_question a.n a.machine a.s.now ≡ 14 = not_formed a.n a.machine a.s.now _ c.read_message.ensures c.in_default.is in
    up_stray a.n a.machine a.s.now (λ z. absurd (omega arith))

pub awaited_question-requires : goal.awaited_question-requires
awaited_question-requires c =
    let a = c.args in
    let found = is_formed a.n a.machine a.s.now _ _ c.read_message.ensures c.in-Some.is in
    let named = sender_there a.n a.machine.me.0 a.machine.me.0 a.s.now _ found.0 found.1 in
    record { le_sender = (named.0, omega (arith, named, c.requires)); le_n = omega (arith, named, c.requires) }

pub returns-then-is_err : goal.returns-then-is_err
returns-then-is_err c =
    let a = c.args in
    let found = is_formed a.n a.machine a.s.now _ _ c.read_message.ensures c.in-Some.is in
    up_stray a.n a.machine a.s.now
    (λ z. refuses_one _ tt _ c.awaited_question.ensures (sym c.is_err.ensures.value ∙ c.if-is_err.true)
    (formed_asked a.n a.machine a.s.now _ found.0 found.1 ∙ z))

pub returns : goal.returns
returns c =
    let a = c.args in
    let found = is_formed a.n a.machine a.s.now _ _ c.read_message.ensures c.in-Some.is in
    up_report a.n a.machine a.s.now
    (sym (formed_asked a.n a.machine a.s.now _ found.0 found.1)
    ∙ refuses_none _ tt _ c.awaited_question.ensures (sym c.is_err.ensures.value ∙ c.if-is_err.false))
