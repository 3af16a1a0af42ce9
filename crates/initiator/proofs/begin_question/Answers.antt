-- `begin_question` meets its contract.
use mathlib.Core.Path.{refl, sym, ◌∙◌}
use native.Mathlib.Omega.{arith}
use Rattle.book.specs.Names.{is_named, is_purpose}
use Rattle.book.specs.declared.Question.TheVariants.{Named, Purpose}
use Rattle.book.proofs.Refusals.{refuses, accepts}
use Rattle.initiator.proofs.Calls.{first_fails, second_fails, none_fails}
use Rattle.initiator.proofs.begin_question.Goals as goal

pub returns-then-not-is_named : goal.returns-then-not-is_named
returns-then-not-is_named c =
    let a = c.args in
    let named = c.is_named in
    refuses Named tt (sym (first_fails 10 11 (is_named a.n a.me.0) (is_purpose a.purpose) (omega arith)
    (sym named.ensures ∙ c.if-not-is_named.true)))

pub returns-then-not-is_purpose : goal.returns-then-not-is_purpose
returns-then-not-is_purpose c =
    let a = c.args in
    let named = c.is_named in
    let purposed = c.is_purpose in
    refuses Purpose tt (sym (second_fails 10 11 (is_named a.n a.me.0) (is_purpose a.purpose)
    (sym named.ensures ∙ c.if-not-is_named.false)
    (sym purposed.ensures ∙ c.if-not-is_purpose.true)))

pub returns : goal.returns
returns c =
    let a = c.args in
    let named = c.is_named in
    let purposed = c.is_purpose in
    accepts (sym (none_fails 10 11 (is_named a.n a.me.0) (is_purpose a.purpose)
    (sym named.ensures ∙ c.if-not-is_named.false)
    (sym purposed.ensures ∙ c.if-not-is_purpose.false))) refl
