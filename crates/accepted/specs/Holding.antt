-- What accepted tables hold, as the definitions speak of tables.
use Rattle.std.specs.Prelude.{ℕ, Result, Ok, Err}
use Rattle.accepted.specs.declared.lent.Accepted.{Accepted}
use Rattle.book.specs.declared.Question.{Question}
use Rattle.book.specs.Lent.{Tables, lent}
use Rattle.book.specs.Numbers.{number}

abbrev pub tables_in : Accepted → Tables
tables_in accepted = lent accepted.rows.shape accepted.sent.now accepted.received.now

-- the tables of an answer, a question that refuses by its number
abbrev pub accepted_in : Result Accepted Question → Result Tables ℕ
accepted_in (Ok accepted) = Ok (tables_in accepted)
accepted_in (Err question) = Err (number question)
