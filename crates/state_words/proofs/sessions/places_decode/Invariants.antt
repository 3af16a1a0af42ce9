-- `places_decode` meets its contract. The invariant: the participants so far decode.
use mathlib.Core.Path.{◌≡◌}
use mathlib.Core.Bool.{true}
use Rattle.book.specs.Bounds.{most_processes}
use Rattle.lists.proofs.Before.{Before}
use Rattle.words.specs.Session.{place_start}
use Rattle.words.specs.Participant.{participant_decodes}
use Rattle.state_words.proofs.sessions.places_decode.Given as goal

abbrev pub invariant-loop-k : goal.invariant-loop-k
invariant-loop-k l = Before most_processes (λ j. participant_decodes l.words (place_start j) ≡ true) l.k
