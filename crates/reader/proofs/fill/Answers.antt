-- `reader::fill` meets its contract: the tables of an accepted book are those of a read.
use mathlib.Core.Path.{◌∙◌}
use Rattle.reader.proofs.ReadTurns.{filled}
use Rattle.reader.proofs.fill.Goals as goal

pub returns : goal.returns
returns c = let a = c.args in
    let both = filled a.bytes.now a.sent.now a.received.now c.requires in
    record { sent = c.read.ensures.sent ∙ both.0; received = c.read.ensures.received ∙ both.1 }
