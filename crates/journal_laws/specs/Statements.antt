-- What is proved of journals (document 02, E1), of the definitions that the contract of the reader of journals cites. A slice of bytes
-- holds numbers below 256.
-- `T b` is the library's "b is true", not document 01's T.
use Rattle.std.specs.Prelude.{◌≡◌, true, List, [], ◌∷◌, ◌++◌, ℕ, ◌+◌, ◌≤◌, length, take, drop, T}
use Rattle.std.proofs.Math.Pow.{are_bytes}
use Rattle.book.specs.Bounds.{most_processes, most_bytes, entries}
use Rattle.book.specs.Lent.{Tables}
use Rattle.book.specs.Accepted.{AreAccepted}
use Rattle.book.specs.InTurn.{◌then◌}
use Rattle.book.specs.Questions.{bytes_question, length_question, size_question}
use Rattle.book.specs.Read.{read_question, tables_read}
use Rattle.book.specs.Write.{bytes_of}
use Rattle.journal.specs.declared.Event.{Event}
use Rattle.journal.specs.Bounds.{journal_largest}
use Rattle.journal.specs.Events.{events_in}
use Rattle.journal.specs.Counting.{sendings, receipts, underway}
use Rattle.journal.specs.Questions.{event_named, events_question}
use Rattle.journal.specs.Running.{process_of, no_counts, counts_after, running_counts, counts_over}
use Rattle.journal.specs.Calls.{numbers_logged, numbers_end, journal_question, leading_n, events_logged, tables_built}
use Rattle.journal_laws.specs.Written.{journal_bytes, AllWritable}

-- "The book built is always one that the reader accepts": as tables,
abbrev pub BuiltIsAccepted : Type 0
BuiltIsAccepted =
    (bytes sent received : List ℕ) → journal_question bytes sent received ≡ 0 → AreAccepted (tables_built bytes sent received)

-- and written as bytes and read, into any two tables of 4,096 entries: no question refuses, and the tables are those built.
abbrev pub BuiltIsRead : Type 0
BuiltIsRead =
    (bytes sent received into into' : List ℕ) → journal_question bytes sent received ≡ 0 → length into ≡ entries → length into' ≡ entries
    → let tables : Tables = tables_built bytes sent received in
    (length (bytes_of tables) ≤ most_bytes)
    × (read_question (bytes_of tables) into into' ≡ 0)
    × (tables_read (bytes_of tables) into into' ≡ tables)

-- "On each channel, messages sent equal those received plus those underway, each counted over the journal's events": after the first m
-- of them, for every m, on the channel from process p to process j.
abbrev pub ChannelLaw : Type 0
ChannelLaw =
    (bytes sent received : List ℕ) (m p j : ℕ) → journal_question bytes sent received ≡ 0
    → let es : List Event = take m (events_logged bytes) in
    sendings p j es ≡ receipts j p es + underway p j es

-- The running counts, changed event by event, are those counted over the events: after the first m events, for every m and process.
abbrev pub RunningIsCounted : Type 0
RunningIsCounted =
    (bytes sent received : List ℕ) (m j : ℕ) → journal_question bytes sent received ≡ 0
    → let es : List Event = take m (events_logged bytes) in
    running_counts j es no_counts ≡ counts_over j es

-- Event by event: before the first they are zeros, with checkpoint 1;
abbrev pub CountsBegin : Type 0
CountsBegin = (j : ℕ) → counts_over j [] ≡ no_counts

-- "One process's running counts are changed by each event that names it" (by one that names processes from 1 to 16: a partner above
-- sixteen, or 0, has no place in the sixteen counts),
abbrev pub OwnCountsChange : Type 0
OwnCountsChange =
    (es : List Event) (e : Event) → event_named most_processes e ≡ true
    → counts_over (process_of e) (es ++ e ∷ []) ≡ counts_after e (counts_over (process_of e) es)

-- and nobody else's: "The partner's counts stay."
abbrev pub OtherCountsStay : Type 0
OtherCountsStay = (es : List Event) (e : Event) (j : ℕ) → (j ≡ process_of e → ⊥) → counts_over j (es ++ e ∷ []) ≡ counts_over j es

-- A journal written and read: its leading n and just these events, whatever they are, up to the end of the bytes, with no number left
-- over.
abbrev pub EventsReadBack : Type 0
EventsReadBack =
    (n : ℕ) (es : List Event) → n ≤ journal_largest → AllWritable es
    → let bytes : List ℕ = journal_bytes n es in
    (leading_n bytes ≡ n)
    × (events_logged bytes ≡ es)
    × ((events_in (numbers_end bytes 0) (drop 1 (numbers_logged bytes 0).found)).whole ≡ true)

-- The questions of a journal written so are put to its bytes, the tables, n and just these events.
abbrev pub QuestionOfWritten : Type 0
QuestionOfWritten =
    (n : ℕ) (es : List Event) (sent received : List ℕ) → n ≤ journal_largest → AllWritable es
    → let bytes : List ℕ = journal_bytes n es in
    journal_question bytes sent received
    ≡ (bytes_question bytes
    then λ _. length_question sent received
    then λ _. size_question n
    then λ _. events_question n [] es true)

-- An accepted journal is the bytes of its leading n and its events, and of nothing else.
abbrev pub AcceptedIsWritten : Type 0
AcceptedIsWritten =
    (bytes sent received : List ℕ) → T (are_bytes bytes) → journal_question bytes sent received ≡ 0
    → bytes ≡ journal_bytes (leading_n bytes) (events_logged bytes)
