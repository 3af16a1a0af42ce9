-- Document 02, E5: "The reader of a list puts question 4 to the n lent with it and 3 to the count. Each entry in turn then meets 3 in all
-- four numbers, then 10, and then gives 21 if out of order, with an equal sender and receiver, or with a first that is zero or past its
-- last; bytes left over give 21 at the end." No other question is put: 1 and 6 are not.
use Rattle.std.specs.Prelude.{Bool, ◌&&◌, ◌||◌, not, List, [], ◌∷◌, ℕ, zero, suc, ltb, leb, eqb}
use Rattle.book.specs.Names.{is_named}
use Rattle.book.specs.InTurn.{◌then◌, ask}
use Rattle.book.specs.Questions.{size_question, nothing_follows}
use Rattle.book.specs.Read.{numbers_found, end_with_bytes}

-- "strictly rising by sender, then receiver": after an entry of the channel from process s to process r
abbrev pub rises : ℕ → ℕ → ℕ → ℕ → Bool
rises s r sender receiver = ltb s sender || (eqb s sender && ltb r receiver)

-- question 21 of one entry
abbrev pub entry_formed : ℕ → ℕ → ℕ → ℕ → ℕ → ℕ → Bool
entry_formed s r sender receiver first last =
    rises s r sender receiver && (not (eqb sender receiver) && (leb 1 first && leb first last))

-- "then 10, and then gives 21"
unfoldable pub entry_question : ℕ → ℕ → ℕ → ℕ → ℕ → ℕ → ℕ → ℕ
entry_question n s r sender receiver first last =
    ask 10 (is_named n sender && is_named n receiver) then λ _. ask 21 (entry_formed s r sender receiver first last)

-- so many entries, after one of the channel from s to r, and then the end; where a number is missing, question 3 fails
unfoldable pub entries_question : ℕ → ℕ → ℕ → ℕ → Bool → List ℕ → ℕ
entries_question n s r zero ended numbers = ask 21 (nothing_follows ended numbers)
entries_question n s r (suc count) ended [] = 3
entries_question n s r (suc count) ended (sender ∷ []) = 3
entries_question n s r (suc count) ended (sender ∷ receiver ∷ []) = 3
entries_question n s r (suc count) ended (sender ∷ receiver ∷ first ∷ []) = 3
entries_question n s r (suc count) ended (sender ∷ receiver ∷ first ∷ last ∷ numbers) =
    entry_question n s r sender receiver first last then λ _. entries_question n sender receiver count ended numbers

-- the count, and the entries; before the first there is none, and every process is above 0
abbrev pub counted_question : ℕ → Bool → List ℕ → ℕ
counted_question n ended [] = 3
counted_question n ended (count ∷ numbers) = entries_question n 0 0 count ended numbers

-- the first question that a list fails, lent with n
unfoldable pub list_question : ℕ → List ℕ → ℕ
list_question n bytes = size_question n then λ _. counted_question n (end_with_bytes bytes) (numbers_found bytes)
