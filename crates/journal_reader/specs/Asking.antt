-- What the pass of questions keeps from event to event, and what it promises.
use Rattle.std.specs.Prelude.{◌≡◌, Bool, ◌&&◌, List, [], ◌∷◌, ◌++◌, ℕ, suc, ◌+◌, ◌*◌, ◌-◌, ◌≤◌, ◌<◌, length, get_or, set, replicate, leb, Result}
use Rattle.lists.specs.Over.{tab}
use Rattle.book.specs.declared.Question.{Question}
use Rattle.book.specs.declared.Shape.{Shape}
use Rattle.book.specs.Bounds.{most_processes, most_checkpoints, most_bytes, row_width}
use Rattle.book.specs.Names.{is_named}
use Rattle.book.specs.Tables.{padded, shape_of}
use Rattle.book.specs.InTurn.{◌then◌, ask, answer_to, answer_with}
use Rattle.book.specs.Numbers.{by_number}
use Rattle.journal.specs.declared.Event.{Event}
use Rattle.journal.specs.Counting.{sendings, receipts, checkpoint_count}
use Rattle.journal.specs.Questions.{checkpoints_in_all, event_question, events_question, journal_numbers_question}
use Rattle.journal.specs.Built.{book_built}
use Rattle.journal.specs.Calls.{numbers_logged, numbers_end, journal_book}
use Rattle.journal.specs.Parts.{events_from}

-- ---- what is kept

-- the place of a channel among those underway: a row for each sender
abbrev pub channel_place : ℕ → ℕ → ℕ
channel_place sender receiver = (sender - 1) * row_width + (receiver - 1)

abbrev pub channels : ℕ
channels = most_processes * row_width

-- a process that has channels there
abbrev pub HasChannels : ℕ → Type 0
HasChannels process = (1 ≤ process) × (process ≤ most_processes)

-- the place of a channel was found, and the kept list reaches to it
pub record ChannelFound (sender receiver place : ℕ) : Type 0 where
  pub at : place ≡ channel_place sender receiver
  pub inside : place < channels

-- what is kept after these events: for each channel how many messages are underway, and the checkpoints of each process and of all
pub record Kept (n : ℕ) (before : List Event) (underway counts : List ℕ) (total : ℕ) : Type 0 where
  pub messages :
      (p j : ℕ) → HasChannels p → HasChannels j → get_or underway (channel_place p j) 0 + receipts j p before ≡ sendings p j before
  pub checkpoints : counts ≡ padded most_processes (tab n (λ j. checkpoint_count (suc j) before))
  pub in_all : total ≡ checkpoints_in_all n before

-- before any event: nothing is underway, and "Checkpoint 1 of every process is there from the start."
unfoldable pub none_underway : List ℕ
none_underway = replicate channels 0

abbrev pub first_counts : ℕ → List ℕ
first_counts n = padded most_processes (tab n (λ j. 1))

-- room for one message more on each channel, and for one checkpoint more of each process
pub record MessagesFit (underway : List ℕ) : Type 0 where
  pub long : length underway ≡ channels
  pub room : (i : ℕ) → i < channels → get_or underway i 0 < most_bytes

pub record CountsFit (counts : List ℕ) : Type 0 where
  pub long : length counts ≡ most_processes
  pub room : (j : ℕ) → j < most_processes → get_or counts j 0 ≤ most_checkpoints

-- room for one more of each
pub record HasRoom (underway counts : List ℕ) (total : ℕ) : Type 0 where
  pub messages : MessagesFit underway
  pub checkpoints : CountsFit counts
  pub in_all : total ≤ most_checkpoints

-- ---- one event

-- one more and one less at a place
abbrev pub raised : ℕ → List ℕ → List ℕ
raised i l = set l i (get_or l i 0 + 1)

abbrev pub lowered : ℕ → List ℕ → List ℕ
lowered i l = set l i (get_or l i 0 - 1)

-- 10, of a message: is each process named from 1 to n?
abbrev pub are_named : ℕ → ℕ → ℕ → Bool
are_named n process partner = is_named n process && is_named n partner

-- a sending was taken: one more is underway
pub record SendingTaken (n process partner : ℕ) (underway₀ : List ℕ) (answer : Result (Unit {0}) Question) (underway : List ℕ) : Type 0 where
  pub asked : by_number answer ≡ answer_to (ask 10 (are_named n process partner))
  pub taken : ask 10 (are_named n process partner) ≡ 0 → underway ≡ raised (channel_place process partner) underway₀

-- the questions of a receipt and of a checkpoint, by what is kept
abbrev pub receipt_question : ℕ → ℕ → ℕ → List ℕ → ℕ
receipt_question n process partner underway =
    ask 10 (are_named n process partner) then λ _. ask 20 (leb 1 (get_or underway (channel_place partner process) 0))

abbrev pub checkpoint_event_question : ℕ → ℕ → ℕ → ℕ
checkpoint_event_question n process total = ask 10 (is_named n process) then λ _. ask 5 (leb (total + 1) most_checkpoints)

-- a receipt was taken: one less is underway, where there was one
pub record ReceiptTaken (n process partner : ℕ) (underway₀ : List ℕ) (answer : Result (Unit {0}) Question) (underway : List ℕ) : Type 0 where
  pub asked : by_number answer ≡ answer_to (receipt_question n process partner underway₀)
  pub taken : receipt_question n process partner underway₀ ≡ 0 → underway ≡ lowered (channel_place partner process) underway₀

-- a checkpoint was taken: the process has one more
pub record CheckpointTaken (n process : ℕ) (counts₀ : List ℕ) (total : ℕ) (answer : Result (Unit {0}) Question) (counts : List ℕ) : Type 0 where
  pub asked : by_number answer ≡ answer_to (checkpoint_event_question n process total)
  pub taken : checkpoint_event_question n process total ≡ 0 → counts ≡ raised (process - 1) counts₀

-- how many checkpoints there are after one event more
abbrev pub total_after : ℕ → List Event → Event → ℕ
total_after n before e = checkpoints_in_all n (before ++ e ∷ [])

-- one event was taken, whatever events came before it
pub record EventTaken (n : ℕ) (e : Event) (underway₀ counts₀ : List ℕ) (total₀ : ℕ) (answer : Result ℕ Question) (underway counts : List ℕ) : Type 0 where
  pub asked :
      (before : List Event) → Kept n before underway₀ counts₀ total₀
      → by_number answer ≡ answer_with (event_question n before e) (total_after n before e)
  pub kept :
      (before : List Event) → Kept n before underway₀ counts₀ total₀ → event_question n before e ≡ 0
      → Kept n (before ++ e ∷ []) underway counts (total_after n before e)

-- ---- all events

-- the events from a place on were taken
abbrev pub EventsTaken : ℕ → List ℕ → ℕ → Result Shape Question → Type 0
EventsTaken n s at answer =
    by_number answer
    ≡ answer_with (events_question n [] (events_from s at).found (events_from s at).whole)
    (shape_of (book_built n (events_from s at).found))

-- a whole journal was taken, whatever tables are lent
abbrev pub JournalTaken : List ℕ → Result Shape Question → Type 0
JournalTaken s answer =
    by_number answer ≡ answer_with (journal_numbers_question (numbers_end s 0) (numbers_logged s 0).found) (shape_of (journal_book s))
