use mathlib.Core.Path.{refl}
use native.Mathlib.Omega.{arith}
use Rattle.words.specs.Session.{places_at}
use Rattle.lists.proofs.Filling.{filled_none, filled_more, filled_all}
use Rattle.state_words.proofs.sessions.places_at.Goals as goal

pub loop-k-init : goal.loop-k-init
loop-k-init c = filled_none (omega arith)

pub loop-k-preserved : goal.loop-k-preserved
loop-k-preserved c = filled_more c.loop-k.invariant c.loop-k-test.true
    (rw c.place_start-at.ensures at c.participant_at.ensures)

pub returns : goal.returns
unfolding places_at
returns c = filled_all c.loop-k.invariant refl c.loop-k-test.false
