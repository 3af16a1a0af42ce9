use mathlib.Core.Path.{◌≡◌, refl, sym, ◌∙◌}
use native.Mathlib.Omega.{arith}
use borrow.Author.Rules.{rules}
use lib.ListN.{length}
use Rattle.book.proofs.Fits.{rows_fit}
use Rattle.book.proofs.Refusals.{refused_by, is_refused, is_accepted, hands_on, accepts}
use Rattle.tables.proofs.BookLoop.{walked_none, walked_fails, walked_more, walked_end}
use Rattle.tables.proofs.rows_question.Goals as goal

pub loop-j-init : goal.loop-j-init
loop-j-init c = let a = c.args.shape in
    let long : length a.counts ≡ 16 = search rules in
    walked_none _ _ _ _ _ c.requires.book_fits c.requires.book_fits_2 long

pub process_question-requires : goal.process_question-requires
process_question-requires c = let w = c.loop-j.invariant in
    let h = c.loop-j-test.true in
    record { rows_fit = rows_fit w.in_sent h w.placed.starts; rows_fit_2 = rows_fit w.in_received h w.placed.starts }

pub returns-in_err-process_question : goal.returns-in_err-process_question
returns-in_err-process_question c =
    let h = c.process_question.ensures in
    let was = c.in_err-process_question.was in
    hands_on _ c.in_err-process_question.field-0.0 tt c.from_residual.ensures.1 (λ f same. same)
    (sym (walked_fails _ _ _ _ _ _ _ _ c.loop-j.invariant c.loop-j-test.true _ refl (is_refused _ _ h was)) ∙ refused_by _ _ h was)

pub overflow_add-first : goal.overflow_add-first
overflow_add-first c = let w = c.loop-j.invariant in
    let fits = rows_fit w.in_sent c.loop-j-test.true w.placed.starts in
    omega (arith, fits.inside)

pub loop-j-preserved : goal.loop-j-preserved
loop-j-preserved c =
    walked_more _ _ _ _ _ _ _ _ c.loop-j.invariant c.loop-j-test.true _ refl
    (is_accepted _ _ c.process_question.ensures c.in_ok-process_question.was)

pub returns : goal.returns
returns c = accepts (sym (walked_end _ _ _ _ _ _ _ _ c.loop-j.invariant c.loop-j-test.false)) refl
