use native.Mathlib.Omega.{arith}
use Rattle.line_text.proofs.Grows.{list_begun, list_room, list_more, list_ended}
use Rattle.line_text.proofs.growing.Text.checkpoint_numbers.Goals as goal

pub loop-j-init : goal.loop-j-init
loop-j-init c = list_begun _ _ _

pub spaced-requires : goal.spaced-requires
spaced-requires c = list_room c.loop-j.invariant c.requires.1 c.requires.0 c.loop-j-test.true

pub loop-j-preserved : goal.loop-j-preserved
loop-j-preserved c = list_more c.loop-j.invariant c.loop-j-test.true c.spaced.ensures

pub returns : goal.returns
returns c = list_ended c.loop-j.invariant (omega arith)
