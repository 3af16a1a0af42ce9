-- `session_in` meets its contract.
use Rattle.words.specs.Session.{session_in}
use Rattle.state_words.proofs.sessions.session_in.Goals as goal

pub returns : goal.returns
unfolding session_in
returns c = rw (
  c.tally_in.ensures,
  c.numbers_at-lengths.ensures,
  c.places_at-participants.ensures,
  c.initiator_at-machine.ensures,
  c.size_in-n.ensures,
)
