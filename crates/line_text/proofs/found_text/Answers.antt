-- `line_text::found_text` meets its contract.
-- Assumes nothing.
use Prim.Native.Nat.{◌≤◌}
use native.Mathlib.Omega.{arith}
use Rattle.line_text.specs.Text.{found_text}
use Rattle.line_text.proofs.Decimal.{first_lines_most}
use Rattle.line_text.proofs.Grows.{grown_more, holds_grown, row_room}
use Rattle.line_text.proofs.found_text.Goals as goal

pub labelled-requires : goal.labelled-requires
labelled-requires c = let two-lines : c.first_lines.new.self.len ≤ 372 = omega (arith, c.first_lines.ensures.long, first_lines_most c.args.n c.args.set c.requires) in
    omega (arith, two-lines)

pub labelled-requires-2 : goal.labelled-requires-2
labelled-requires-2 c =
    let two-lines : c.first_lines.new.self.len ≤ 372 = omega (arith, c.first_lines.ensures.long, first_lines_most c.args.n c.args.set c.requires) in
    let three-lines : c.labelled.new.self.len ≤ 400 = omega (arith, two-lines, row_room _ _ c.labelled.ensures) in
    omega (arith, three-lines)

pub labelled-requires-3 : goal.labelled-requires-3
labelled-requires-3 c =
    let two-lines : c.first_lines.new.self.len ≤ 372 = omega (arith, c.first_lines.ensures.long, first_lines_most c.args.n c.args.set c.requires) in
    let three-lines : c.labelled.new.self.len ≤ 400 = omega (arith, two-lines, row_room _ _ c.labelled.ensures) in
    let four-lines : c.labelled-2.new.self.len ≤ 428 = omega (arith, three-lines, row_room _ _ c.labelled-2.ensures) in
    omega (arith, four-lines)

pub returns : goal.returns
unfolding found_text
returns c = let grown = grown_more (grown_more (grown_more c.first_lines.ensures c.labelled.ensures) c.labelled-2.ensures) c.labelled-3.ensures in
    holds_grown c.empty-text.ensures grown
