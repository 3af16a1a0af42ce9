-- Document 02, E1: "Per event, a shape not as above .. gives 19, then question 10 is put, then a receipt with nothing underway gives
-- 20, then question 5." Where no event stands, there is none to put the others to.
use Rattle.std.specs.Prelude.{Bool, true, ◌&&◌, List, [], ◌∷◌, ◌++◌, ℕ, suc, leb}
use Rattle.lists.specs.Over.{sum_to}
use Rattle.book.specs.Bounds.{most_checkpoints}
use Rattle.book.specs.Names.{is_named}
use Rattle.book.specs.InTurn.{◌then◌, ask}
use Rattle.book.specs.Questions.{size_question}
use Rattle.journal.specs.declared.Event.{Event}
use Rattle.journal.specs.declared.Event.TheVariants.{Sent, Received, Checkpointed}
use Rattle.journal.specs.Events.{events_in}
use Rattle.journal.specs.Counting.{checkpoint_count, underway}

-- 10: is each process named from 1 to n?
abbrev pub event_named : ℕ → Event → Bool
event_named n (Sent process partner) = is_named n process.0 && is_named n partner.0
event_named n (Received process partner) = is_named n process.0 && is_named n partner.0
event_named n (Checkpointed process) = is_named n process.0

-- 20: a receipt, after these events: is a message underway to the process from the partner?
abbrev pub something_underway : List Event → Event → Bool
something_underway before (Sent process partner) = true
something_underway before (Received process partner) = leb 1 (underway partner.0 process.0 before)
something_underway before (Checkpointed process) = true

-- how many checkpoints all processes have
abbrev pub checkpoints_in_all : ℕ → List Event → ℕ
checkpoints_in_all n es = sum_to n (λ j. checkpoint_count (suc j) es)

-- the questions of an event, after those before it; 5: is the sum so far at most 256? (Each count is at least 1 by definition.)
unfoldable pub event_question : ℕ → List Event → Event → ℕ
event_question n before e =
    ask 10 (event_named n e)
    then λ _. ask 20 (something_underway before e)
    then λ _. ask 5 (leb (checkpoints_in_all n (before ++ e ∷ [])) most_checkpoints)

-- event by event; 19: where no event stands any more, has the journal ended?
unfoldable pub events_question : ℕ → List Event → List Event → Bool → ℕ
events_question n before [] whole = ask 19 whole
events_question n before (e ∷ es) whole = event_question n before e then λ _. events_question n (before ++ e ∷ []) es whole

-- along the journal's numbers: 3 and 4 to the leading n, then its events
unfoldable pub journal_numbers_question : Bool → List ℕ → ℕ
journal_numbers_question ended [] = 3
journal_numbers_question ended (n ∷ vs) =
    size_question n then λ _. events_question n [] (events_in ended vs).found (events_in ended vs).whole
