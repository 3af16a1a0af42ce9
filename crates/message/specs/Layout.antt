-- Document 01, "Message (own)": "each field a number as above: kind (1 invitation, 2 other), purpose, sender, count of pairs,
-- then pairs (process, counter), rising by process. .. Nothing follows the pairs."
--
-- As data a message is its head (kind, purpose, sender) and its news: pairs that rise by process name none twice, and a
-- counter is never the mark, so they are a row of sixteen entries, with the mark for each process that no pair names.
use Rattle.std.specs.Prelude.{Bool, true, false, List, [], ◌∷◌, ◌++◌, ℕ, zero, suc, ◌+◌, ◌-◌, ◌*◌}
use Rattle.varint.specs.Sequence.{encode_all}
use Rattle.book.specs.declared.Count.{Count}
use Rattle.book.specs.Bounds.{groups, mark, most_processes}
use Rattle.lists.specs.Over.{sum_to}
use Rattle.consistency.specs.Known.{counters}
use Rattle.lists.specs.Pick.{pick}
use Rattle.matrix.specs.Matrix.{as_row}
use Rattle.matrix.specs.Entries.{is_news}
use Rattle.message.specs.declared.Head.{Head}
use Rattle.message.specs.declared.Message.{Message}

-- the pair of one process, where there is one
abbrev pub one_pair : Bool → ℕ → ℕ → List ℕ
one_pair true process counter = process ∷ counter ∷ []
one_pair false process counter = []

-- the pairs of the first k processes, rising by process; in `news` processes count from 0, in a pair from 1
unfoldable pub pairs_to : ℕ → (ℕ → ℕ) → List ℕ
pairs_to zero news = []
pairs_to (suc k) news = pairs_to k news ++ one_pair (is_news (news k)) (suc k) (news k)

-- how many pairs those are
abbrev pub pair_count_to : ℕ → (ℕ → ℕ) → ℕ
pair_count_to k news = sum_to k (λ p. pick (is_news (news p)) 1 0)

-- the count of pairs of a message
abbrev pub pair_count : List Count → ℕ
pair_count news = pair_count_to most_processes (counters news)

-- the numbers of a message, in its order
abbrev pub head_numbers : Head → List ℕ
head_numbers head = head.kind ∷ head.purpose ∷ head.sender.0 ∷ []

abbrev pub message_numbers : Message → List ℕ
message_numbers m = head_numbers m.head ++ pair_count m.news ∷ pairs_to most_processes (counters m.news)

-- a message's bytes
unfoldable pub message_bytes : Message → List ℕ
message_bytes m = encode_all (message_numbers m)

-- the most bytes of the four numbers before the pairs, each below 128, and of a pair: a process of one byte, and a counter
abbrev pub head_size : ℕ
head_size = 4

abbrev pub pair_size : ℕ
pair_size = 1 + groups

-- the longest message among n processes: no pair names the participant at whose end of the strand it is read or written
abbrev pub longest_message : ℕ → ℕ
longest_message n = head_size + (n - 1) * pair_size

-- no pairs
abbrev pub no_news : List Count
no_news = as_row (λ p. mark)
