-- The journals tried are as claimed, by computation.
-- Assumes nothing.
use mathlib.Core.Path.{refl}
use Rattle.book.specs.Tables as tables
use Rattle.shown.specs.Shown as shown
use Rattle.journal.specs.Events as events
use Rattle.journal.specs.Counting as counting
use Rattle.journal.specs.Questions as questions
use Rattle.journal.specs.Built as built
use Rattle.journal.specs.Calls as calls
use Rattle.session_examples.proofs.Computing.{computing}
use Rattle.journal_examples.specs.Journals.{Journals, times, ◌also◌, none}

pub journals_hold : Journals
unfolding computing times tables.partner_column shown.book_shown events.events_up_to events.events_in counting.how_many counting.underway questions.event_question questions.events_question questions.journal_numbers_question built.up_to_checkpoint calls.journal_question calls.shape_built calls.sent_built calls.received_built
journals_hold =
    refl
    also refl
    also refl
    also refl
    also refl
    also refl
    also refl
    also refl
    also none
