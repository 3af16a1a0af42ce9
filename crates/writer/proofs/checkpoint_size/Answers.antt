-- `writer::checkpoint_size` meets its contract: one row, then the other.
use native.Mathlib.Omega.{arith}
use Rattle.writer.proofs.Parts.{both_rows}
use Rattle.writer.proofs.Turns.{long}
use Rattle.writer.proofs.checkpoint_size.Goals as goal

pub returns : goal.returns
returns c = record {
  value = omega (arith, long (both_rows c.requires.rows_fit c.requires.rows_fit_2));
  upper_bound = omega arith;
}
