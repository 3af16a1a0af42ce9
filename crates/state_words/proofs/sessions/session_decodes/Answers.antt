-- `session_decodes` meets its contract.
use mathlib.Core.Path.{sym, ◌∙◌}
use Rattle.words.specs.Session.{session_decodes}
use Rattle.state_words.proofs.sessions.session_decodes.Goals as goal

pub returns-then-not-initiator_decodes : goal.returns-then-not-initiator_decodes
unfolding session_decodes
returns-then-not-initiator_decodes c = let machine = c.initiator_decodes in
    rw (sym machine.ensures ∙ c.if-not-initiator_decodes.true)

pub returns-then-not-places_decode : goal.returns-then-not-places_decode
unfolding session_decodes
returns-then-not-places_decode c = let places = c.places_decode in
    let machine = c.initiator_decodes in
    rw (sym machine.ensures ∙ c.if-not-initiator_decodes.false, sym places.ensures ∙ c.if-not-places_decode.true)

pub returns : goal.returns
unfolding session_decodes
returns c = let places = c.places_decode in
    let machine = c.initiator_decodes in
    rw (sym machine.ensures ∙ c.if-not-initiator_decodes.false, sym places.ensures ∙ c.if-not-places_decode.false)
