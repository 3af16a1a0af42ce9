-- `awaited_question` meets its contract.
use mathlib.Core.Path.{◌≡◌, refl, sym, ap, ◌∙◌}
use mathlib.Core.List.{List}
use native.Mathlib.Omega.{arith}
use Rattle.book.specs.declared.Count.{Count}
use Rattle.book.specs.declared.Question.TheVariants.{Awaited, Lower}
use Rattle.book.proofs.Refusals.{refuses, accepts}
use Rattle.matrix.specs.Matrix.{row}
use Rattle.matrix.specs.Entries.{all_lower}
use Rattle.initiator.specs.Step.{sender_of, awaits}
use Rattle.initiator.proofs.Calls.{first_fails, second_fails, none_fails}
use Rattle.initiator.proofs.Initiator.awaited_question.Goals as goal
use Rattle.initiator.proofs.Initiator.awaited_question.Goals.{After-all_lower}

pub returns-then-not-awaits : goal.returns-then-not-awaits
returns-then-not-awaits c =
    let a = c.args in
    refuses Awaited tt (sym (first_fails 15 16 (awaits a.self a.message) (all_lower a.message.news (row a.self.matrix (sender_of a.message))) (omega arith)
    (sym c.awaits.ensures ∙ c.if-not-awaits.true)))

is-lower : (c : After-all_lower) → let a = c.args in all_lower a.message.news (row a.self.matrix (sender_of a.message)) ≡ c.all_lower.result
is-lower c =
    sym (c.all_lower.ensures ∙ ap (λ (l : List Count). all_lower c.args.message.news l) c.row-held.ensures)

pub returns-then-not-all_lower : goal.returns-then-not-all_lower
returns-then-not-all_lower c =
    let a = c.args in
    refuses Lower tt (sym (second_fails 15 16 (awaits a.self a.message) (all_lower a.message.news (row a.self.matrix (sender_of a.message)))
    (sym c.awaits.ensures ∙ c.if-not-awaits.false)
    (is-lower (goal.at.returns-then-not-all_lower c).After-all_lower ∙ c.if-not-all_lower.true)))

pub returns : goal.returns
returns c =
    let a = c.args in
    accepts (sym (none_fails 15 16 (awaits a.self a.message) (all_lower a.message.news (row a.self.matrix (sender_of a.message)))
    (sym c.awaits.ensures ∙ c.if-not-awaits.false) (is-lower (goal.at.returns c).After-all_lower ∙ c.if-not-all_lower.false))) refl
