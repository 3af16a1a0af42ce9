-- The laws of messages, for every number of processes up to sixteen, every message and all bytes.
-- `T b` is the library's "b is true", not document 01's T.
use Rattle.std.specs.Prelude.{◌≡◌, true, List, ℕ, ◌≤◌, length, T}
use Rattle.std.proofs.Math.Pow.{are_bytes}
use Rattle.book.specs.Bounds.{most_processes}
use Rattle.message.specs.declared.Message.{Message}
use Rattle.message.specs.Layout.{message_bytes, longest_message}
use Rattle.message.specs.Formed.{participant_end, message_formed}
use Rattle.message.specs.Read.{message_read}
use Rattle.message_laws.specs.Formed.{IsFormed}

-- A formed message written and then read is formed, and is the message.
abbrev pub WrittenIsRead : Type 0
WrittenIsRead =
    (n me initiator : ℕ) (m : Message) → n ≤ most_processes
    → IsFormed n (participant_end me initiator m.head.sender.0) m
    → (message_formed n me initiator (message_bytes m) ≡ true) × (message_read n me initiator (message_bytes m) ≡ m)

-- Bytes that are a formed message, read and then written, are the old bytes.
abbrev pub ReadIsWritten : Type 0
ReadIsWritten =
    (n me initiator : ℕ) (s : List ℕ) → n ≤ most_processes → T (are_bytes s) → message_formed n me initiator s ≡ true
    → message_bytes (message_read n me initiator s) ≡ s

-- Question 14 passes formed messages alone: what was read is one. (That it passes all of them: `WrittenIsRead`.)
abbrev pub ReadIsFormed : Type 0
ReadIsFormed =
    (n me initiator : ℕ) (s : List ℕ) → n ≤ most_processes → message_formed n me initiator s ≡ true
    → let m : Message = message_read n me initiator s in IsFormed n (participant_end me initiator m.head.sender.0) m

-- The longest message: four numbers of one byte, and n − 1 pairs of a process of one byte and a counter.
abbrev pub Longest : Type 0
Longest =
    (n end : ℕ) (m : Message) → n ≤ most_processes → 1 ≤ end → end ≤ n → IsFormed n end m
    → length (message_bytes m) ≤ longest_message n
