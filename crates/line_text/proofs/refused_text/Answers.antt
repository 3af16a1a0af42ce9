-- `line_text::refused_text` meets its contract.
-- Assumes nothing.
use Rattle.line_text.specs.Text.{refused_text}
use Rattle.line_text.proofs.Grows.{holds_grown}
use Rattle.line_text.proofs.refused_text.Goals as goal

pub returns : goal.returns
unfolding refused_text
returns c = holds_grown c.empty-text.ensures c.labelled.ensures
