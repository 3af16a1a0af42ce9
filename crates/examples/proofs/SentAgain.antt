-- It holds, by computation.
-- Assumes nothing.
use mathlib.Core.Path.{refl}
use Rattle.book.specs.Tables as tables
use Rattle.restart.specs.Plan as plan
use Rattle.restart.specs.Values as values
use Rattle.restart.specs.Calls as calls
use Rattle.resend.specs.Layout as layout
use Rattle.resend.specs.Questions as questions
use Rattle.session_examples.proofs.Computing.{computing}
use Rattle.examples.specs.SentAgain.{SentAgain}

pub sent_again : SentAgain
unfolding computing plan.planned values.order_of values.resend_of values.rows_of values.numbers calls.move_question calls.order_given layout.entries_to layout.list_bytes questions.entry_question questions.entries_question questions.list_question tables.partner_column
sent_again =
    record {
      k_line = refl;
      k_oldest = refl;
      half = refl;
      moved = refl;
      largest = refl;
      no_process = refl;
      no_channel = refl;
      missing = refl;
      twice = refl;
      left_over = refl;
    }
