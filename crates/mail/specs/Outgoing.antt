-- Document 01, "Message (own)": "Messages sent in one step are written one after another, rising by receiver; the answer
-- gives the length for each process, 0 for none." Question 17: "Do the bytes to be written fit the buffer?"
use Rattle.std.specs.Prelude.{Bool, false, List, [], ◌++◌, ℕ, zero, suc, length, get_or, replicate, leb}
use Rattle.std.proofs.lemmas.List.Edits.{sets}
use Rattle.book.specs.Bounds.{most_processes}
use Rattle.book.specs.InTurn.{ask, unless_refused}
use Rattle.lists.specs.Over.{tab}
use Rattle.lists.specs.Pick.{pick}
use Rattle.matrix.specs.Matrix.{row}
use Rattle.message.specs.declared.Message.{Message}
use Rattle.message.specs.Layout.{message_bytes}
use Rattle.mail.specs.declared.Outgoing.{Outgoing}

-- does process p, counted from 0, get a message?
abbrev pub goes_to : Outgoing → ℕ → Bool
goes_to o p = get_or o.to p false

-- the message to process p: the messages of one step have one head, and row p of the news
abbrev pub message_to : Outgoing → ℕ → Message
message_to o p = record { head = o.head; news = row o.news p }

-- its bytes, none where it gets no message
abbrev pub bytes_to : Outgoing → ℕ → List ℕ
bytes_to o p = pick (goes_to o p) (message_bytes (message_to o p)) []

-- the bytes to the first k processes, "one after another, rising by receiver"
unfoldable pub mail_to : ℕ → Outgoing → List ℕ
mail_to zero o = []
mail_to (suc k) o = mail_to k o ++ bytes_to o k

abbrev pub mail : Outgoing → List ℕ
mail o = mail_to most_processes o

-- "the length for each process, 0 for none"
abbrev pub lengths : Outgoing → List ℕ
lengths o = tab most_processes (λ p. length (bytes_to o p))

abbrev pub no_lengths : List ℕ
no_lengths = replicate most_processes 0

-- question 17
abbrev pub room_question : Outgoing → List ℕ → ℕ
room_question o out = ask 17 (leb (length (mail o)) (length out))

-- the buffer afterwards, the bytes after the messages untouched
abbrev pub sent_bytes : ℕ → Outgoing → List ℕ → List ℕ
sent_bytes question o out = unless_refused question out (sets out 0 (mail o))

abbrev pub sent_lengths : ℕ → Outgoing → List ℕ
sent_lengths question o = unless_refused question no_lengths (lengths o)
