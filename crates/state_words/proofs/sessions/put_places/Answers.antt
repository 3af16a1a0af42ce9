use native.Mathlib.Omega.{arith}
use Rattle.session.proofs.Places.{beyond}
use Rattle.state_words.proofs.Places.{placed_none, placed_more, placed_all}
use Rattle.state_words.proofs.sessions.put_places.Goals as goal

pub loop-k-init : goal.loop-k-init
loop-k-init c = placed_none

pub loop-k-preserved : goal.loop-k-preserved
loop-k-preserved c = placed_more c.loop-k.invariant c.loop-k-test.true (omega arith) beyond c.place_start-at.ensures c.put_participant.ensures

pub shape_of-words : goal.shape_of-words
shape_of-words c = c.loop-k.invariant.same

pub returns : goal.returns
returns c = placed_all c.loop-k.invariant c.loop-k-test.false
