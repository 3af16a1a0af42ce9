use mathlib.Core.Path.{◌≡◌, refl, sym, ◌∙◌}
use Prim.Native.Nat.{◌+◌, ◌<◌}
use native.Mathlib.Omega.{arith}
use borrow.Author.Rules.{rules}
use lib.ListN.{get_or}
use Rattle.book.specs.Bounds.{mark}
use Rattle.book.specs.Tables.{partner_column}
use Rattle.book.specs.Questions.{counter_question}
use Rattle.book.specs.Before.{entry_before}
use Rattle.book.proofs.Rows.{column_within}
use Rattle.book.proofs.Refusals.{refused_by, is_refused, is_accepted, hands_on, accepts}
use Rattle.tables.proofs.RowLoop.{asked_fail, asked_more, asked_end}
use Rattle.tables.proofs.row_question.Goals as goal
use Rattle.tables.proofs.row_question.Goals.{After-partner_column, After-counter_question}

pub loop-k-init : goal.loop-k-init
loop-k-init c = record { passed = search rules; rest = refl }

-- the entry lies in the row
within : (c : After-partner_column) → c.partner_column.result < c.args.n
within c =
    omega (arith, c.partner_column.ensures, column_within c.args.j c.loop-k.k)

pub overflow_add-at : goal.overflow_add-at
overflow_add-at c = omega (arith, within (goal.at.overflow_add-at c).After-partner_column)

pub offset_bounds-table-at : goal.offset_bounds-table-at
offset_bounds-table-at c = omega (arith, within (goal.at.offset_bounds-table-at c).After-partner_column)

pub bounds-table-at : goal.bounds-table-at
bounds-table-at c = omega (arith, within (goal.at.bounds-table-at c).After-partner_column)

pub entry_before-before-requires : goal.entry_before-before-requires
entry_before-before-requires c = (omega (arith, within (goal.at.entry_before-before-requires c).After-partner_column), λ e. omega (arith, c.requires.later e))

-- the answer is that of the k-th counter
found : (c : After-counter_question)
    → let a = c.args in
    let at = a.start + partner_column a.j c.loop-k.k in
    counter_question mark a.zeros c.entry_before-before.result c.from-v.result
    ≡ counter_question mark a.zeros (entry_before a.oldest at a.table.now) (get_or a.table.now at 0)
found c = rw (← c.partner_column.ensures, ← c.entry_before-before.ensures, ← c.from-v.ensures) refl

pub returns-in_err-counter_question : goal.returns-in_err-counter_question
returns-in_err-counter_question c =
    let h = c.counter_question.ensures in
    let was = c.in_err-counter_question.was in
    hands_on _ c.in_err-counter_question.field-0.0 tt c.from_residual.ensures.1 (λ f same. same)
    (sym (asked_fail _ _ _ _ _ c.requires _ _ _ _ c.loop-k.invariant _
    (found (goal.at.returns-in_err-counter_question c).After-counter_question) c.loop-k-test.true (is_refused _ _ h was))
    ∙ refused_by _ _ h was)

pub loop-k-preserved : goal.loop-k-preserved
loop-k-preserved c =
    asked_more _ _ _ _ _ c.requires _ _ _ _ c.loop-k.invariant _
    (found (goal.at.loop-k-preserved c).After-counter_question) c.loop-k-test.true
    (is_accepted _ _ c.counter_question.ensures c.in_ok-counter_question.was)

pub returns : goal.returns
returns c = accepts (sym (asked_end _ _ _ _ _ c.requires _ _ _ _ c.loop-k.invariant c.loop-k-test.false)) refl
