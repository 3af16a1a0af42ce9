-- `participant_in` meets its contract.
use mathlib.Core.Path.{sym, ◌∙◌}
use Rattle.words.specs.Participant.{participant_in}
use Rattle.state_words.proofs.participant_in.Goals as goal

pub returns-then-not-participant_decodes : goal.returns-then-not-participant_decodes
unfolding participant_in
returns-then-not-participant_decodes c = let decodes = c.participant_decodes in
    rw (sym decodes.ensures ∙ c.if-not-participant_decodes.true) c.participant_at.ensures

pub returns : goal.returns
unfolding participant_in
returns c = let decodes = c.participant_decodes in
    rw (sym decodes.ensures ∙ c.if-not-participant_decodes.false) c.participant_at-2.ensures
