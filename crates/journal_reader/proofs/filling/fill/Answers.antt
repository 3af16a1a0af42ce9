-- `fill` meets its contract: the tables are cleared, and then filled event by event.
use mathlib.Core.Path.{sym}
use native.Mathlib.Omega.{arith}
use Rattle.journal.proofs.Accepted.{journal_passed, journal_leads}
use Rattle.journal_reader.proofs.FillKnown.{shape_fits, to_fill}
use Rattle.journal_reader.proofs.filling.fill.Goals as goal

pub clear-requires : goal.clear-requires
clear-requires c = (omega arith, omega (arith, journal_passed _ _ _ c.requires.received_value))

pub clear-requires-2 : goal.clear-requires-2
clear-requires-2 c = (omega arith, omega (arith, journal_passed _ _ _ c.requires.received_value))

pub rows_of-requires : goal.rows_of-requires
rows_of-requires c = shape_fits _ _ _ _ c.requires.received_value c.requires.shape_value

-- an accepted journal has a leading n
pub returns-in_default : goal.returns-in_default
returns-in_default c =
    let passed = (journal_passed _ _ _ c.requires.received_value).numbers in absurd (journal_leads _ passed (sym c.in_default.ensures))

pub put_events-requires : goal.put_events-requires
put_events-requires c = to_fill _ _ _ _ c.requires.received_value c.requires.shape_value _ _ (sym c.in-Some.ensures) _
    c.rows_of.ensures.1 _ _ c.clear.ensures c.clear-2.ensures
