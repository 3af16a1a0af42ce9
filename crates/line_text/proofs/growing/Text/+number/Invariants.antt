-- The measure of `number` is the number.
-- Assumes nothing.
use Rattle.line_text.proofs.growing.Text.+number.Given as goal

abbrev pub decreases-number : goal.decreases-number
decreases-number l = l.v
