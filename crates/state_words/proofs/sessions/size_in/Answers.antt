-- `size_in` meets its contract.
use mathlib.Core.Path.{sym, ◌∙◌}
use Rattle.words.specs.Session.{session_in}
use Rattle.state_words.proofs.sessions.size_in.Goals as goal

pub returns-then-not-session_decodes : goal.returns-then-not-session_decodes
unfolding session_in
returns-then-not-session_decodes c = let decodes = c.session_decodes in
    rw (sym decodes.ensures ∙ c.if-not-session_decodes.true)

pub returns : goal.returns
unfolding session_in
returns c = let decodes = c.session_decodes in
    rw (sym decodes.ensures ∙ c.if-not-session_decodes.false)
