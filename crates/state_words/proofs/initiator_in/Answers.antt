-- `initiator_in` meets its contract.
use mathlib.Core.Path.{sym, ◌∙◌}
use Rattle.words.specs.Initiator.{initiator_in}
use Rattle.state_words.proofs.initiator_in.Goals as goal

pub returns-then-not-initiator_decodes : goal.returns-then-not-initiator_decodes
unfolding initiator_in
returns-then-not-initiator_decodes c = let decodes = c.initiator_decodes in
    rw (sym decodes.ensures ∙ c.if-not-initiator_decodes.true) c.initiator_at.ensures

pub returns : goal.returns
unfolding initiator_in
returns c = let decodes = c.initiator_decodes in
    rw (sym decodes.ensures ∙ c.if-not-initiator_decodes.false) c.initiator_at-2.ensures
