-- Document 01: "Then along the book, number by number": questions 3 to 9. The mark of question 6 is an argument.
use Rattle.std.specs.Prelude.{Bool, true, false, List, [], ◌∷◌, ℕ, zero, suc, ◌+◌, ◌-◌, ◌*◌, take, drop, replicate}
use Rattle.book.specs.Layout.{width}
use Rattle.book.specs.InTurn.{◌then◌, ask}
use Rattle.book.specs.Questions.{size_question, count_question, counter_question, nothing_follows}

-- one half of a checkpoint, its sent or its received counters, one for each of the same half one checkpoint before; where no
-- number is left, question 3 fails
unfoldable pub counters_question : ℕ → Bool → List ℕ → List ℕ → ℕ
counters_question mark zeros [] vs = 0
counters_question mark zeros (b ∷ before) [] = 3
counters_question mark zeros (b ∷ before) (v ∷ vs) =
    counter_question mark zeros b v then λ _. counters_question mark zeros before vs

-- "the oldest checkpoint holds zeros", and document 02, E4: "An oldest checkpoint may thus have sent counters above zero, and
-- question 7 applies to received counters only". Which half of a checkpoint question 7 asks: the sent one never,
unfoldable pub sent_zeros : Bool → Bool
sent_zeros oldest = false

-- the received one in an oldest checkpoint
unfoldable pub received_zeros : Bool → Bool
received_zeros oldest = oldest

-- one checkpoint, given the one before: its sent half, then its received half
unfoldable pub checkpoint_question : ℕ → ℕ → Bool → List ℕ → List ℕ → ℕ
checkpoint_question mark n oldest before vs =
    counters_question mark (sent_zeros oldest) (take (n - 1) before) vs
    then λ _. counters_question mark (received_zeros oldest) (drop (n - 1) before) (drop (n - 1) vs)

-- the checkpoints of one process, oldest first
unfoldable pub checkpoints_question : ℕ → ℕ → Bool → List ℕ → ℕ → List ℕ → ℕ
checkpoints_question mark n oldest before zero vs = 0
checkpoints_question mark n oldest before (suc left) vs =
    checkpoint_question mark n oldest before vs
    then λ _. checkpoints_question mark n false (take (width n) vs) left (drop (width n) vs)

-- all checkpoints of a process with `count` of them: before the oldest there is nothing to be lower than
abbrev pub process_question : ℕ → ℕ → ℕ → List ℕ → ℕ
process_question mark n count vs = checkpoints_question mark n true (replicate (width n) 0) count vs

-- the processes that are left, after those with `sum` checkpoints
unfoldable pub processes_question : ℕ → ℕ → ℕ → ℕ → Bool → List ℕ → ℕ
processes_question mark n zero sum ended vs = ask 9 (nothing_follows ended vs)
processes_question mark n (suc left) sum ended [] = 3
processes_question mark n (suc left) sum ended (count ∷ vs) =
    count_question sum count
    then λ _. process_question mark n count vs
    then λ _. processes_question mark n left (sum + count) ended (drop (count * width n) vs)

-- the whole book
unfoldable pub book_question : ℕ → Bool → List ℕ → ℕ
book_question mark ended [] = 3
book_question mark ended (n ∷ vs) = size_question n then λ _. processes_question mark n n 0 ended vs
