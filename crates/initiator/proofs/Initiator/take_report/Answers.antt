-- `take_report` meets its contract.
use Rattle.initiator.specs.Step.{take_report}
use Rattle.initiator.proofs.Initiator.take_report.Goals as goal

pub returns : goal.returns
unfolding take_report
returns c = rw (c.without-awaited.ensures, c.with_row-matrix.ensures, c.patch-row.ensures, c.row.ensures)
