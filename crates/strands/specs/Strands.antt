-- Document 01, "Session": "each participant has one strand to the initiator, with at most one message waiting on it." 01
-- leaves open where the bytes lie. Ours: one lent buffer, a slot for each participant, in rising order, as long as the longest
-- message. Processes and the initiator count from 0.
use Rattle.std.specs.Prelude.{Bool, not, ◌||◌, List, ℕ, zero, suc, ◌+◌, ◌-◌, ◌*◌, length, take, drop, get_or, ltb, leb}
use Rattle.std.proofs.lemmas.List.Edits.{sets}
use Rattle.book.specs.Bounds.{most_processes}
use Rattle.lists.specs.Over.{all_to, tab}
use Rattle.lists.specs.Pick.{pick}
use Rattle.message.specs.Layout.{longest_message}
use Rattle.mail.specs.declared.Outgoing.{Outgoing}
use Rattle.mail.specs.Outgoing.{goes_to, bytes_to}

-- a slot is as long as the longest message
abbrev pub slot_size : ℕ → ℕ
slot_size n = longest_message n

-- where process k's slot begins; the initiator has none, and the value for it is never used
abbrev pub strand_start : ℕ → ℕ → ℕ → ℕ
strand_start n initiator k = pick (ltb initiator k) (k - 1) k * slot_size n

-- room for all strands: "the longest messages that this layout lets wait at once"
abbrev pub room_for_all : ℕ → ℕ
room_for_all n = (n - 1) * slot_size n

-- how many bytes wait on k's strand, 0 for no message
abbrev pub length_on : List ℕ → ℕ → ℕ
length_on lengths k = get_or lengths k 0

-- and which
unfoldable pub strand_bytes : ℕ → ℕ → List ℕ → List ℕ → ℕ → List ℕ
strand_bytes n initiator lengths strands k = take (length_on lengths k) (drop (strand_start n initiator k) strands)

-- question 17, asked of each message that a call puts on a strand: "Do the bytes to be written fit the buffer?" Messages are
-- addressed by strand here: the one `to` k is put on k's strand.
unfoldable pub have_room : ℕ → ℕ → Outgoing → List ℕ → Bool
have_room n initiator o strands =
    all_to most_processes
    (λ k. not (goes_to o k) || leb (strand_start n initiator k + length (bytes_to o k)) (length strands))

-- the buffer with the messages to the first k processes, each at the start of its slot; nothing else is touched
unfoldable pub posted_to : ℕ → ℕ → ℕ → Outgoing → List ℕ → List ℕ
posted_to zero n initiator o strands = strands
posted_to (suc k) n initiator o strands = sets (posted_to k n initiator o strands) (strand_start n initiator k) (bytes_to o k)

abbrev pub posted : ℕ → ℕ → Outgoing → List ℕ → List ℕ
posted n initiator o strands = posted_to most_processes n initiator o strands

-- the lengths then: "a message waits from the start or turn that writes it"
unfoldable pub lengths_posted : Outgoing → List ℕ → List ℕ
lengths_posted o lengths = tab most_processes (λ k. pick (goes_to o k) (length (bytes_to o k)) (length_on lengths k))
