-- `Text::checkpoint_numbers` meets its contract. The invariant: the numbers of the first j processes are behind.
-- Assumes nothing.
use Rattle.line_text.proofs.Grows.{Listed}
use Rattle.line_text.proofs.growing.Text.checkpoint_numbers.Given as goal

abbrev pub invariant-loop-j : goal.invariant-loop-j
invariant-loop-j l = Listed l.n l.set l.initial.self l.self l.j
