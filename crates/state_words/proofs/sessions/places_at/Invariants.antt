-- `places_at` meets its contract. The invariant: the participants so far are those in the words.
use Rattle.book.specs.Bounds.{most_processes}
use Rattle.participant.specs.Calls.{no_participant}
use Rattle.words.specs.Words.{word}
use Rattle.words.specs.Session.{place_start}
use Rattle.words.specs.Participant.{participant_from}
use Rattle.lists.proofs.Filling.{Filled}
use Rattle.state_words.proofs.sessions.places_at.Given as goal

abbrev pub invariant-loop-k : goal.invariant-loop-k
invariant-loop-k l =
    Filled no_participant l.initial.places most_processes (λ j. participant_from (word l.words (place_start j)) l.words (place_start j)) l.places l.k
