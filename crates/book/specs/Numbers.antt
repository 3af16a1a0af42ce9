-- The questions as the program names them, each by its number in the documents.
use Rattle.std.specs.Prelude.{ℕ, Result, Ok, Err}
use Rattle.book.specs.declared.Question.{Question}
use Rattle.book.specs.declared.Question.TheVariants.{BookBytes, TableEntries, Number, Processes, Checkpoints, Mark, OldestZero, NoLower, Unused, Named, Purpose, Exists, StateFits, MessageFormed, Awaited, Lower, Room, Waiting, EventFormed, Underway, ListFormed}

abbrev pub number : Question → ℕ
number BookBytes = 1
number TableEntries = 2
number Number = 3
number Processes = 4
number Checkpoints = 5
number Mark = 6
number OldestZero = 7
number NoLower = 8
number Unused = 9
number Named = 10
number Purpose = 11
number Exists = 12
number StateFits = 13
number MessageFormed = 14
number Awaited = 15
number Lower = 16
number Room = 17
number Waiting = 18
number EventFormed = 19
number Underway = 20
number ListFormed = 21

-- what a call answers, a question that refuses by its number
abbrev pub by_number : {A : Type 0} → Result A Question → Result A ℕ
by_number (Ok value) = Ok value
by_number (Err question) = Err (number question)
