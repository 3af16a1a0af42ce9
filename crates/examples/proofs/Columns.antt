-- They hold, by computation.
-- Assumes nothing.
use mathlib.Core.Path.{refl}
use Rattle.consistency.specs.Known as known
use Rattle.session_examples.proofs.Computing.{computing}
use Rattle.examples.specs.Columns.{Columns}

pub columns_hold : Columns
unfolding computing known.column_question known.answer_to_column
columns_hold =
    record {
      newest = refl;
      both = refl;
      third = refl;
      neither = refl;
      not_known = refl;
      no_process = refl;
      no_checkpoint = refl;
    }
