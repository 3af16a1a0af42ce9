-- `held_down` meets its contract.
use mathlib.Core.Path.{◌≡◌, ◌∙◌}
use Rattle.book.specs.InTurn.{answer_with}
use Rattle.book.specs.Numbers.{by_number}
use Rattle.book.proofs.Refusals.{is_refused, is_accepted, value_is}
use Rattle.participant.specs.Calls.{message_question, read_by}
use Rattle.participant.proofs.Calls.{message_asked}
use Rattle.session_check.proofs.Holding.{down_stray, down_ending, down_asking}
use Rattle.session_check.proofs.held.held_down.Goals as goal
use Rattle.session_check.proofs.held.held_down.Goals.{After-message_question}

-- what is answered of the bytes
asked : (c : After-message_question)
    → let a = c.args in
    by_number c.message_question.result ≡ answer_with (message_question a.n a.p a.s.now) (read_by a.n a.p a.s.now)
asked c = c.message_question.ensures ∙ message_asked c.args.p _ _ _ c.read_message-read.ensures

pub returns-in_default : goal.returns-in_default
returns-in_default c =
    let a = c.args in
    down_stray a.n a.p a.s.now (is_refused _ _ (asked (goal.at.returns-in_default c).After-message_question) c.in_default.is)

pub returns-then-ends_search : goal.returns-then-ends_search
returns-then-ends_search c =
    let a = c.args in
    let h = asked (goal.at.returns-then-ends_search c).After-message_question in
    down_ending a.n a.p a.s.now (is_accepted _ _ h c.in-Ok.is) _ (value_is _ _ h c.in-Ok.is) c.ends_search.ensures c.if-ends_search.true

pub returns : goal.returns
returns c =
    let a = c.args in
    let h = asked (goal.at.returns c).After-message_question in
    down_asking a.n a.p a.s.now (is_accepted _ _ h c.in-Ok.is) _ (value_is _ _ h c.in-Ok.is) c.ends_search.ensures c.if-ends_search.false
