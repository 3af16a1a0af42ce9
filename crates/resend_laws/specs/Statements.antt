-- What is proved of lists of what to send again (document 02, E5). A slice of bytes holds numbers below 256.
-- `T b` is the library's "b is true", not document 01's T.
use Rattle.std.specs.Prelude.{◌≡◌, true, false, List, ℕ, ◌+◌, ◌≤◌, ◌<◌, length, T}
use Rattle.std.proofs.Math.Pow.{are_bytes}
use Rattle.book.specs.Bounds.{most_processes}
use Rattle.restart.specs.declared.Resend.{Resend}
use Rattle.resend.specs.Layout.{has_entry, list_bytes, longest_list}
use Rattle.resend.specs.Questions.{list_question}
use Rattle.resend.specs.Calls.{bytes_to_resend, list_read}
use Rattle.move_laws.specs.Moves.{Move, IsAccepted, view_after, order_with, again}
use Rattle.resend_laws.specs.Lists.{IsList, first_on, last_on, Completes, order_sent, order_received, counted_from_one}

-- ---- the list of a restart order

-- It is a list among the tables' processes.
abbrev pub OrderHasList : Type 0
OrderHasList = (m : Move) → IsAccepted m → IsList m.tables.shape.n (order_with m).resend

-- "With it repeated, every channel has received what was sent", whatever the purpose.
abbrev pub AllReceived : Type 0
AllReceived = (m : Move) → IsAccepted m → Completes m.tables.shape.n (order_received m) (order_sent m) (order_with m).resend

-- "For each channel whose line (with purpose 2, checkpoints 1) sent more than was received, from one past the received count to the sent
-- count": an entry just there; without one, all that was sent was received.
abbrev pub EntryExactly : Type 0
EntryExactly =
    (m : Move) (a b : ℕ) → IsAccepted m → a < m.tables.shape.n → b < m.tables.shape.n
    → let list : Resend = (order_with m).resend in
    (has_entry (first_on list a b) ≡ true
    → (order_received m a b < order_sent m a b)
    × (first_on list a b ≡ order_received m a b + 1)
    × (last_on list a b ≡ order_sent m a b))
    × (has_entry (first_on list a b) ≡ false → order_received m a b ≡ order_sent m a b)

-- With E4, whatever the purpose: how many messages are sent again, last − first + 1, is the moved book's oldest sent counter,
abbrev pub OldestSentIsSentAgain : Type 0
OldestSentIsSentAgain =
    (m : Move) (a b : ℕ) → IsAccepted m → a < m.tables.shape.n → b < m.tables.shape.n
    → let list : Resend = (order_with m).resend in
    (has_entry (first_on list a b) ≡ true → (view_after m).S a 1 b + first_on list a b ≡ last_on list a b + 1)
    × (has_entry (first_on list a b) ≡ false → (view_after m).S a 1 b ≡ 0)

-- and the moved book's own list for purpose 2 is the same, counted from 1.
abbrev pub MovedHasSameList : Type 0
MovedHasSameList =
    (m : Move) → IsAccepted m → IsAccepted (again m 2) × ((order_with (again m 2)).resend ≡ counted_from_one (order_with m).resend)

-- ---- lists as bytes

-- A list written and then read is accepted, and is the list.
abbrev pub WrittenThenRead : Type 0
WrittenThenRead =
    (n : ℕ) (list : Resend) → 1 ≤ n → n ≤ most_processes → IsList n list
    → (list_question n (list_bytes list) ≡ 0) × (list_read n (list_bytes list) ≡ list)

-- Bytes that the reader accepts, read and then written, are the old bytes.
abbrev pub ReadThenWritten : Type 0
ReadThenWritten = (n : ℕ) (bytes : List ℕ) → T (are_bytes bytes) → list_question n bytes ≡ 0 → list_bytes (list_read n bytes) ≡ bytes

-- The reader accepts lists alone.
abbrev pub ReadIsList : Type 0
ReadIsList = (n : ℕ) (bytes : List ℕ) → list_question n bytes ≡ 0 → IsList n (list_read n bytes)

-- "A given line has one such list": that of its restart order, written, is accepted and read again; and all bytes that the reader accepts,
-- and whose repetition completes what the same checkpoints received to what they sent, are its bytes.
abbrev pub LineHasOneList : Type 0
LineHasOneList =
    (m : Move) → IsAccepted m
    → let n : ℕ = m.tables.shape.n in
    let own : List ℕ = bytes_to_resend m.tables m.purpose in
    (list_question n own ≡ 0)
    × (list_read n own ≡ (order_with m).resend)
    × ((bytes : List ℕ) → T (are_bytes bytes) → list_question n bytes ≡ 0
    → Completes n (order_received m) (order_sent m) (list_read n bytes)
    → bytes ≡ own)

-- Of any received and sent counts: bytes that the reader accepts, and whose repetition completes what was received to what was sent, are
-- the same bytes.
abbrev pub OneList : Type 0
OneList =
    (n : ℕ) (received sent : ℕ → ℕ → ℕ) (bytes bytes' : List ℕ) → T (are_bytes bytes) → T (are_bytes bytes') → list_question n bytes ≡ 0
    → list_question n bytes' ≡ 0
    → Completes n received sent (list_read n bytes)
    → Completes n received sent (list_read n bytes')
    → bytes ≡ bytes'

-- No list is longer than a count of two bytes, and for each channel two processes of one byte and two counters.
abbrev pub Longest : Type 0
Longest = (n : ℕ) (list : Resend) → n ≤ most_processes → IsList n list → length (list_bytes list) ≤ longest_list n
