-- Document 02, E1: the bounds of a journal's numbers. They are a journal's own: where the numbers of books become longer, journals
-- read as before.
use Rattle.std.specs.Prelude.{ℕ}

-- a number has at most 5 bytes and is at most 4,294,967,295
abbrev pub journal_groups : ℕ
journal_groups = 5

abbrev pub journal_largest : ℕ
journal_largest = 4294967295
