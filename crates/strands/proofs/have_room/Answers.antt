use Rattle.lists.proofs.Before.{before_none, before_more, all_pass, one_fails}
use Rattle.strands.specs.Strands.{have_room}
use Rattle.std.proofs.Common.{sym, ◌∙◌}
use Rattle.strands.proofs.have_room.Goals as goal

pub loop-k-init : goal.loop-k-init
loop-k-init c = before_none

pub returns-then-not-has_room : goal.returns-then-not-has_room
unfolding have_room
returns-then-not-has_room c = one_fails c.loop-k.invariant c.loop-k-test.true ((sym c.has_room.ensures ∙ c.if-not-has_room.true))

pub loop-k-preserved : goal.loop-k-preserved
loop-k-preserved c = before_more c.loop-k.invariant c.loop-k-test.true ((sym c.has_room.ensures ∙ c.if-not-has_room.false))

pub returns : goal.returns
unfolding have_room
returns c = all_pass c.loop-k.invariant c.loop-k-test.false
