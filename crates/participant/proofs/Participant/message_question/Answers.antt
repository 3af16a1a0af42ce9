-- `message_question` meets its contract.
use mathlib.Core.Path.{◌≡◌, refl, sym, ap, ◌∙◌}
use mathlib.Core.Bool.{true}
use native.Mathlib.Omega.{arith}
use Rattle.std.specs.Prelude.{Option}
use Rattle.book.specs.declared.Question.TheVariants.{Awaited, Lower}
use Rattle.book.specs.InTurn.{◌then◌, ask, answer_with}
use Rattle.book.proofs.Refusals.{refuses, accepts}
use Rattle.matrix.specs.Entries.{all_lower}
use Rattle.message.specs.declared.Message.{Message}
use Rattle.machine.proofs.Answers.{second_no, third_no, all_yes}
use Rattle.participant.specs.Step.{awaits}
use Rattle.participant.specs.Calls.{message_answer}
use Rattle.participant.proofs.Participant.message_question.Goals as goal
use Rattle.participant.proofs.Participant.message_question.Goals.{In-Some}

-- a message that is there is asked 15 and 16
asked : (c : In-Some)
    → let a = c.args in
    let m = c.in-Some.message in
    answer_with (ask 15 (awaits a.self m) then λ _. ask 16 (all_lower m.news a.self.column)) m ≡ message_answer a.self a.read
asked c = sym (ap (λ (r : Option Message). message_answer c.args.self r) c.in-Some.is)

pub returns-then-not-awaits : goal.returns-then-not-awaits
returns-then-not-awaits c =
    let a = c.args in
    let m = c.in-Some.message in
    refuses Awaited m
    (sym (second_no 14 15 16 true (awaits a.self m) (all_lower m.news a.self.column) refl (omega arith)
    (sym c.awaits.ensures ∙ c.if-not-awaits.true)))
    ∙ asked (goal.at.returns-then-not-awaits c).In-Some

pub returns-then-not-all_lower : goal.returns-then-not-all_lower
returns-then-not-all_lower c =
    let a = c.args in
    let m = c.in-Some.message in
    refuses Lower m
    (sym (third_no 14 15 16 true (awaits a.self m) (all_lower m.news a.self.column) refl
    (sym c.awaits.ensures ∙ c.if-not-awaits.false)
    (sym c.all_lower.ensures ∙ c.if-not-all_lower.true)))
    ∙ asked (goal.at.returns-then-not-all_lower c).In-Some

pub returns : goal.returns
returns c =
    let a = c.args in
    let m = c.in-Some.message in
    accepts
    (sym (all_yes 14 15 16 true (awaits a.self m) (all_lower m.news a.self.column) refl
    (sym c.awaits.ensures ∙ c.if-not-awaits.false)
    (sym c.all_lower.ensures ∙ c.if-not-all_lower.false)))
    refl
    ∙ asked (goal.at.returns c).In-Some
