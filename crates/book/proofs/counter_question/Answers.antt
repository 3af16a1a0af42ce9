-- `book::counter_question` meets its contract: at each return the tests that led there say which question fails first.
use mathlib.Core.Path.{refl, sym, ◌∙◌}
use Rattle.book.specs.declared.Question.TheVariants.{Mark, OldestZero, NoLower}
use Rattle.book.proofs.Counters.{is_mark, not_zero, fell, good}
use Rattle.book.proofs.Refusals.{refuses, accepts}
use Rattle.book.proofs.counter_question.Goals as goal

pub returns-then-mark-v : goal.returns-then-mark-v
returns-then-mark-v c = refuses Mark tt (sym (is_mark _ _ _ _ c.if-mark-v.true))

pub returns-then-not-is_zero : goal.returns-then-not-is_zero
returns-then-not-is_zero c =
    refuses OldestZero tt (sym (not_zero _ _ _ _ c.if-mark-v.false (sym c.zero_if_asked-is_zero.ensures ∙ c.if-not-is_zero.true)))

pub returns-then-v-before : goal.returns-then-v-before
returns-then-v-before c =
    refuses NoLower tt (sym (fell _ _ _ _ c.if-mark-v.false (sym c.zero_if_asked-is_zero.ensures ∙ c.if-not-is_zero.false) c.if-v-before.true))

pub returns : goal.returns
returns c =
    accepts (sym (good _ _ _ _ c.if-mark-v.false (sym c.zero_if_asked-is_zero.ensures ∙ c.if-not-is_zero.false) c.if-v-before.false)) refl
