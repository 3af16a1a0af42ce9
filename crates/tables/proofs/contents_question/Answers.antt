-- `tables::contents_question` meets its contract: each answer is that of the first question that fails.
use mathlib.Core.Path.{refl, sym, ◌∙◌}
use Rattle.book.specs.Fits.{BookFits}
use Rattle.book.specs.declared.Question.TheVariants.{Processes, Unused}
use Rattle.book.proofs.Refusals.{refused_by, is_refused, is_accepted, hands_on, refuses, accepts}
use Rattle.tables.proofs.Order.{Sized, too_few, too_many, counts_fail, counts_fit, rows_fail, unused_fails, all_passed, all_sound}
use Rattle.tables.proofs.contents_question.Goals as goal
use Rattle.tables.proofs.contents_question.Goals.{Else-n-gt-MOST_PROCESSES, In_ok-counts_question}

pub returns-then-n-lt1 : goal.returns-then-n-lt1
returns-then-n-lt1 c = refuses Processes tt (sym (too_few _ c.if-n-lt1.true))

pub returns-then-n-gt-MOST_PROCESSES : goal.returns-then-n-gt-MOST_PROCESSES
returns-then-n-gt-MOST_PROCESSES c = refuses Processes tt (sym (too_many _ c.if-n-lt1.false c.if-n-gt-MOST_PROCESSES.true))

-- after question 4
sized : (c : Else-n-gt-MOST_PROCESSES) → Sized c.args.shape.n
sized c = record { one = c.if-n-lt1.false; most = c.if-n-gt-MOST_PROCESSES.false }

pub returns-in_err-counts_question : goal.returns-in_err-counts_question
returns-in_err-counts_question c =
    let h = c.counts_question.ensures in
    let was = c.in_err-counts_question.was in
    hands_on _ c.in_err-counts_question.field-0.0 tt c.from_residual.ensures.1 (λ f same. same)
    (sym (counts_fail _ (sized (goal.at.returns-in_err-counts_question c).Else-n-gt-MOST_PROCESSES) _ refl (is_refused _ _ h was))
    ∙ refused_by _ _ h was)

-- after question 5
rows_in : (c : In_ok-counts_question)
    → let a = c.args in
    BookFits a.shape.n a.shape.counts a.sent.now × BookFits a.shape.n a.shape.counts a.received.now
rows_in c =
    let inside = counts_fit c.args.shape _ refl (is_accepted _ _ c.counts_question.ensures c.in_ok-counts_question.was) in
    (record { most = c.if-n-gt-MOST_PROCESSES.false; inside = inside; whole = c.requires.0 }, record { most = c.if-n-gt-MOST_PROCESSES.false; inside = inside; whole = c.requires.1 })

pub sound-requires : goal.sound-requires
sound-requires c = let fits = rows_in (goal.at.sound-requires c).In_ok-counts_question in record { book_fits = fits.0; book_fits_2 = fits.1; counts_value = is_accepted _ _ c.counts_question.ensures c.in_ok-counts_question.was }

pub returns-then-sound : goal.returns-then-sound
returns-then-sound c = accepts (sym (all_sound _ (sized (goal.at.returns-then-sound c).Else-n-gt-MOST_PROCESSES) _ refl (is_accepted _ _ c.counts_question.ensures c.in_ok-counts_question.was)
    (c.sound.ensures c.if-sound.true))) refl

pub rows_question-requires : goal.rows_question-requires
rows_question-requires c = let both = rows_in (goal.at.rows_question-requires c).In_ok-counts_question in record { book_fits = both.0; book_fits_2 = both.1 }

pub returns-in_err-rows_question : goal.returns-in_err-rows_question
returns-in_err-rows_question c =
    let h = c.rows_question.ensures in
    let was = c.in_err-rows_question.was in
    hands_on _ c.in_err-rows_question.field-0.0 tt c.from_residual-in_err-rows_question.ensures.1 (λ f same. same)
    (sym (rows_fail _ (sized (goal.at.returns-in_err-rows_question c).Else-n-gt-MOST_PROCESSES) _ refl (is_accepted _ _ c.counts_question.ensures c.in_ok-counts_question.was)
    _ refl (is_refused _ _ h was))
    ∙ refused_by _ _ h was)

pub everything_unused_zero-is_zero-requires : goal.everything_unused_zero-is_zero-requires
everything_unused_zero-is_zero-requires c = let both = rows_in (goal.at.everything_unused_zero-is_zero-requires c).In_ok-counts_question in record { book_fits = both.0; book_fits_2 = both.1 }

pub returns-then-not-is_zero : goal.returns-then-not-is_zero
returns-then-not-is_zero c = refuses Unused tt (sym (unused_fails _ (sized (goal.at.returns-then-not-is_zero c).Else-n-gt-MOST_PROCESSES) _ refl (is_accepted _ _ c.counts_question.ensures c.in_ok-counts_question.was)
    _ refl (is_accepted _ _ c.rows_question.ensures c.in_ok-rows_question.was) _ c.everything_unused_zero-is_zero.ensures c.if-not-is_zero.true))

pub returns : goal.returns
returns c = accepts (sym (all_passed _ (sized (goal.at.returns c).Else-n-gt-MOST_PROCESSES) _ refl (is_accepted _ _ c.counts_question.ensures c.in_ok-counts_question.was)
    _ refl (is_accepted _ _ c.rows_question.ensures c.in_ok-rows_question.was) _ c.everything_unused_zero-is_zero.ensures c.if-not-is_zero.false)) refl
