use Rattle.std.proofs.Common.{sym, ◌∙◌}
use Rattle.lists.proofs.Before.{before_none, before_more, all_pass, one_fails}
use Rattle.words.specs.Session.{places_decode}
use Rattle.state_words.proofs.sessions.places_decode.Goals as goal

pub loop-k-init : goal.loop-k-init
loop-k-init c = before_none

pub returns-then-not-participant_decodes : goal.returns-then-not-participant_decodes
unfolding places_decode
returns-then-not-participant_decodes c = let decodes = sym c.participant_decodes.ensures ∙ c.if-not-participant_decodes.true in
    one_fails c.loop-k.invariant c.loop-k-test.true (rw c.place_start-at.ensures at decodes)

pub loop-k-preserved : goal.loop-k-preserved
loop-k-preserved c = let decodes = sym c.participant_decodes.ensures ∙ c.if-not-participant_decodes.false in
    before_more c.loop-k.invariant c.loop-k-test.true (rw c.place_start-at.ensures at decodes)

pub returns : goal.returns
unfolding places_decode
returns c = all_pass c.loop-k.invariant c.loop-k-test.false
