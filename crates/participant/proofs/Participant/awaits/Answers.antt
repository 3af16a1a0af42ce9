-- `awaits` meets its contract.
use mathlib.Core.Path.{sym, ◌∙◌}
use borrow.Author.Tests.{not-true, not-false}
use Rattle.participant.proofs.Steps.{other_sender, other_purpose, by_kind}
use Rattle.participant.proofs.Participant.awaits.Goals as goal

pub returns-then-ne : goal.returns-then-ne
returns-then-ne c = let a = c.args in
    other_sender a.self a.message (not-true _ (sym c.ne.ensures ∙ c.if-ne.true))

pub returns-then-head-self : goal.returns-then-head-self
returns-then-head-self c = let a = c.args in
    other_purpose a.self a.message (not-false _ (sym c.ne.ensures ∙ c.if-ne.false)) c.if-head-self.true

pub returns : goal.returns
returns c = let a = c.args in
    c.kind_awaited.ensures ∙ by_kind a.self a.message (not-false _ (sym c.ne.ensures ∙ c.if-ne.false)) c.if-head-self.false
