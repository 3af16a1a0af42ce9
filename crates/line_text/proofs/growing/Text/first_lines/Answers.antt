-- `Text::first_lines` meets its contract.
-- Assumes nothing.
use Prim.Native.Nat.{◌≤◌}
use native.Mathlib.Omega.{arith}
use Rattle.line_text.specs.Text.{first_lines}
use Rattle.line_text.proofs.Decimal.{numbers_most}
use Rattle.line_text.proofs.Grows.{grown_more, row_room}
use borrow.Author.Rules.{rules}
use Rattle.line_text.proofs.growing.Text.first_lines.Goals as goal

pub word-requires : goal.word-requires
word-requires c = let one_line : c.labelled.new.self.len ≤ 171 = omega (arith, row_room _ _ c.labelled.ensures) in
    omega (arith, one_line)

pub checkpoint_numbers-requires : goal.checkpoint_numbers-requires
checkpoint_numbers-requires c = let one_line : c.labelled.new.self.len ≤ 171 = omega (arith, row_room _ _ c.labelled.ensures) in
    let word-placed : c.word.new.self.len ≤ 175 = omega (arith, one_line, c.word.ensures.long) in
    (search rules, omega (arith, word-placed))

pub push-requires : goal.push-requires
push-requires c = let one_line : c.labelled.new.self.len ≤ 171 = omega (arith, row_room _ _ c.labelled.ensures) in
    let word-placed : c.word.new.self.len ≤ 175 = omega (arith, one_line, c.word.ensures.long) in
    omega (arith, word-placed, c.checkpoint_numbers.ensures.long, numbers_most c.args.n c.args.set)

pub returns : goal.returns
unfolding first_lines
returns c = grown_more (grown_more (grown_more c.labelled.ensures c.word.ensures) c.checkpoint_numbers.ensures) c.push.ensures
