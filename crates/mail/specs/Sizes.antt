-- How many bytes a message of any numbers takes at most, for sums of sizes to fit. (A formed one is much shorter:
-- `message/specs/Layout.antt`, `longest_message`.)
use Rattle.std.specs.Prelude.{ℕ, ◌+◌, ◌*◌}
use Rattle.book.specs.Bounds.{most_processes}

-- a number of 64 bits
abbrev pub number_most : ℕ
number_most = 10

abbrev pub head_most : ℕ
head_most = 3 * number_most

abbrev pub pair_most : ℕ
pair_most = 2 * number_most

abbrev pub pairs_most : ℕ
pairs_most = pair_most * most_processes

-- a head, the count of pairs, and the pairs
abbrev pub message_most : ℕ
message_most = head_most + number_most + pairs_most
