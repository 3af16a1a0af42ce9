-- `put_places` meets its contract. The invariant: the participants so far stand at their places.
use Rattle.state_words.proofs.Places.{Placed}
use Rattle.state_words.proofs.sessions.put_places.Given as goal

abbrev pub invariant-loop-k : goal.invariant-loop-k
invariant-loop-k l = Placed l.places l.initial.words l.words l.k
