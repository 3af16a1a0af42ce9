-- Journals tried (document 02, E1), in one list, and what each of them claims of the definitions that the contracts cite: K's examples
-- 1 and 6, logged event by event, build the books known from document 01.
use Rattle.std.specs.Prelude.{◌≡◌, List, [], ◌∷◌, ◌++◌, ℕ, zero, suc, Result, Ok, Err}
use Rattle.book.specs.InTurn.{answer_to, answer_with}
use Rattle.book.specs.Write.{bytes_of}
use Rattle.journal.specs.declared.Event.{Event}
use Rattle.journal.specs.Calls.{journal_question, leading_n, events_logged, tables_built}
use Rattle.session_examples.specs.Books.{blank, k1, k6}

-- ---- what can be claimed

pub data Example : Type 0 where
  -- a journal is accepted, and the tables built hold the book with these bytes
  Builds : List ℕ → List ℕ → Example
  -- a journal is accepted, with this n and these events
  HasEvents : List ℕ → ℕ → List Event → Example
  -- a journal is refused by this question
  RefusedBy : List ℕ → ℕ → Example

-- what taking a journal answers, into tables of zeros
abbrev pub answered : List ℕ → Result (Unit {0}) ℕ
answered journal = answer_to (journal_question journal blank blank)

-- with the bytes of the book in the tables
abbrev pub built : List ℕ → Result (List ℕ) ℕ
built journal = answer_with (journal_question journal blank blank) (bytes_of (tables_built journal blank blank))

-- with its n and its events
abbrev pub logged : List ℕ → Result (ℕ × List Event) ℕ
logged journal = answer_with (journal_question journal blank blank) (leading_n journal, events_logged journal)

abbrev pub Holds : Example → Type 0
Holds (Builds journal book) = built journal ≡ Ok book
Holds (HasEvents journal n events) = logged journal ≡ Ok (n, events)
Holds (RefusedBy journal question) = answered journal ≡ Err question

-- all of a list hold
infixr 5 ◌also◌
pub data Hold : List Example → Type 0 where
  none : Hold []
  ◌also◌ : {example : Example} {more : List Example} → Holds example → Hold more → Hold (example ∷ more)

-- ---- the journals

-- so many times the same bytes
unfoldable pub times : ℕ → List ℕ → List ℕ
times zero bytes = []
times (suc k) bytes = bytes ++ times k bytes

-- K example 1, steps 2 to 4: each message is received right after it is sent
abbrev pub logged1 : List ℕ
logged1 =
    0x03
    ∷ times 3 (0x01 ∷ 0x02 ∷ 0x01 ∷ 0x02 ∷ 0x01 ∷ 0x02 ∷ [])
    ++ (0x03 ∷ 0x02 ∷ [])
    ++ (0x01 ∷ 0x02 ∷ 0x01 ∷ 0x02 ∷ 0x01 ∷ 0x02 ∷ [])
    ++ times 5 (0x01 ∷ 0x03 ∷ 0x01 ∷ 0x02 ∷ 0x01 ∷ 0x03 ∷ [])
    ++ (0x03 ∷ 0x01 ∷ [])
    ++ times 2 (0x01 ∷ 0x03 ∷ 0x01 ∷ 0x02 ∷ 0x01 ∷ 0x03 ∷ [])
    ++ (0x03 ∷ 0x03 ∷ [])

-- K example 6, steps 2 to 8
abbrev pub logged6 : List ℕ
logged6 =
    0x03
    ∷ (0x01 ∷ 0x01 ∷ 0x03 ∷ 0x03 ∷ 0x01 ∷ [])
    ++ (0x02 ∷ 0x03 ∷ 0x01 ∷ 0x03 ∷ 0x03 ∷ [])
    ++ (0x01 ∷ 0x01 ∷ 0x02 ∷ 0x02 ∷ 0x02 ∷ 0x01 ∷ 0x03 ∷ 0x02 ∷ [])
    ++ (0x01 ∷ 0x02 ∷ 0x01 ∷ 0x02 ∷ 0x01 ∷ 0x02 ∷ 0x03 ∷ 0x01 ∷ [])
    ++ (0x01 ∷ 0x01 ∷ 0x02 ∷ 0x02 ∷ 0x02 ∷ 0x01 ∷ 0x03 ∷ 0x02 ∷ [])
    ++ (0x01 ∷ 0x02 ∷ 0x01 ∷ 0x02 ∷ 0x01 ∷ 0x02 ∷ 0x03 ∷ 0x01 ∷ [])
    ++ (0x01 ∷ 0x01 ∷ 0x02 ∷ 0x02 ∷ 0x02 ∷ 0x01 ∷ 0x03 ∷ 0x02 ∷ [])

-- ---- the examples

abbrev pub journals : List Example
journals =
    Builds logged1 k1
    ∷ Builds logged6 k6
    -- "Checkpoint 1 of every process is there from the start": one process, no event
    ∷ Builds (0x01 ∷ []) (0x01 ∷ 0x01 ∷ [])
    ∷ HasEvents (0x10 ∷ []) 16 []
    ∷ RefusedBy (0x02 ∷ 0x01 ∷ 0x63 ∷ []) 19
    -- a partner equal to the process, and above n: 19 comes before 10
    ∷ RefusedBy (0x02 ∷ 0x01 ∷ 0x03 ∷ 0x03 ∷ []) 19
    -- a partner above n
    ∷ RefusedBy (0x01 ∷ 0x01 ∷ 0x01 ∷ 0x02 ∷ []) 10
    -- the channel of a receipt is the one from the partner to the process: what is underway the other way does not count
    ∷ RefusedBy (0x02 ∷ 0x01 ∷ 0x01 ∷ 0x02 ∷ 0x02 ∷ 0x01 ∷ 0x02 ∷ []) 20
    ∷ []

-- The journals tried are as claimed.
abbrev pub Journals : Type 0
Journals = Hold journals
