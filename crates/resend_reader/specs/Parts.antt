-- What the functions that read a list's parts promise the one that reads it whole.
use Rattle.std.specs.Prelude.{◌≡◌, List, ◌∷◌, ℕ, ◌≤◌, ◌<◌, length, eqb, Option, Some, None}
use Rattle.book.specs.Bounds.{largest}
use Rattle.book.specs.Read.{numbers_from}
use Rattle.restart.specs.declared.Resend.{Resend}
use Rattle.restart.specs.Calls.{no_resend}
use Rattle.resend.specs.Layout.{entries_in}
use Rattle.resend.specs.Questions.{entries_question}
use Rattle.resend_reader.specs.declared.Entry.{Entry}

-- the numbers from a place on are an entry and those from the next place on; or there are not four
abbrev pub EntryFound : List ℕ → ℕ → Option (Entry × ℕ) → Type 0
EntryFound s at (Some (entry, next)) =
    (numbers_from s at
    ≡ record {
      found = entry.sender ∷ entry.receiver ∷ entry.first ∷ entry.last ∷ (numbers_from s next).found;
      stop = (numbers_from s next).stop;
    })
    × (entry.first ≤ largest)
    × (entry.last ≤ largest)
EntryFound s at None = length (numbers_from s at).found < 4

-- the question that so many entries from a place on fail, up to the end of the bytes
abbrev pub question_from : ℕ → List ℕ → ℕ → ℕ → ℕ
question_from n s at count =
    entries_question n 0 0 count (eqb (numbers_from s at).stop (length s)) (numbers_from s at).found

-- the list that the entries from a place on make
abbrev pub entries_from : List ℕ → ℕ → Resend
entries_from s at = entries_in no_resend (numbers_from s at).found
