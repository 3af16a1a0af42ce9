-- Document 01: "Lent tables meet 2, 4, all of 5, then 6 to 8 in book order, then 9."
use Rattle.std.specs.Prelude.{List, [], ◌∷◌, ℕ, ◌+◌, length, take}
use Rattle.book.specs.Lent.{Tables}
use Rattle.book.specs.Bounds.{mark}
use Rattle.book.specs.Layout.{joined}
use Rattle.book.specs.Tables.{book_of}
use Rattle.book.specs.InTurn.{◌then◌, ask}
use Rattle.book.specs.Questions.{length_question, size_question, count_question, unused_zero}
use Rattle.book.specs.Along.{process_question}

-- all of 5
unfoldable pub counts_question : ℕ → List ℕ → ℕ
counts_question sum [] = 0
counts_question sum (count ∷ counts) = count_question sum count then λ _. counts_question (sum + count) counts

-- 6 to 8 in book order
unfoldable pub rows_question : ℕ → ℕ → List (List (List ℕ)) → ℕ
rows_question mark' n [] = 0
rows_question mark' n (checkpoints ∷ more) =
    process_question mark' n (length checkpoints) (joined checkpoints) then λ _. rows_question mark' n more

-- the questions after 2
unfoldable pub contents_question : Tables → ℕ
contents_question tables =
    size_question tables.shape.n
    then λ _. counts_question 0 (take tables.shape.n tables.shape.counts)
    then λ _. rows_question mark tables.shape.n (book_of tables).processes
    then λ _. ask 9 (unused_zero tables)

-- the first question that lent tables fail
unfoldable pub tables_question : Tables → ℕ
tables_question tables = length_question tables.sent tables.received then λ _. contents_question tables
