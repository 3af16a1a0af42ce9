-- Document 02, E5: "a list of (sender, receiver, first, last) .. strictly rising by sender, then receiver. Lists are written and read as
-- seven-bit numbers after a leading count". In matrices processes count from 0, in an entry from 1.
use Rattle.std.specs.Prelude.{Bool, true, false, not, List, [], ◌∷◌, ◌++◌, ℕ, zero, suc, ◌+◌, ◌-◌, ◌*◌, ◌/◌, ◌%◌, set, eqb}
use Rattle.varint.specs.Sequence.{encode_all}
use Rattle.book.specs.Bounds.{groups, most_processes}
use Rattle.lists.specs.Over.{sum_to}
use Rattle.lists.specs.Pick.{pick}
use Rattle.consistency.specs.Known.{counters}
use Rattle.restart.specs.declared.Resend.{Resend}
use Rattle.restart.specs.Values.{matrix_entries}
use Rattle.restart.specs.Calls.{no_resend}

-- has a channel an entry, by its first message? No message has the number 0.
abbrev pub has_entry : ℕ → Bool
has_entry first = not (eqb first 0)

-- the entry at place i of the matrices, where there is one: its row is the sender's, its column the receiver's
abbrev pub one_entry : Bool → ℕ → ℕ → ℕ → List ℕ
one_entry true i first last = suc (i / most_processes) ∷ suc (i % most_processes) ∷ first ∷ last ∷ []
one_entry false i first last = []

-- the entries at the first k places of the matrices, row by row: they rise by sender, then receiver
unfoldable pub entries_to : ℕ → (ℕ → ℕ) → (ℕ → ℕ) → List ℕ
entries_to zero first last = []
entries_to (suc k) first last = entries_to k first last ++ one_entry (has_entry (first k)) k (first k) (last k)

-- how many entries those are
abbrev pub entry_count_to : ℕ → (ℕ → ℕ) → ℕ
entry_count_to k first = sum_to k (λ i. pick (has_entry (first i)) 1 0)

-- the leading count of a list
abbrev pub entry_count : Resend → ℕ
entry_count list = entry_count_to matrix_entries (counters list.first)

-- all its entries
abbrev pub entries_of : Resend → List ℕ
entries_of list = entries_to matrix_entries (counters list.first) (counters list.last)

-- the numbers of a list, and its bytes
abbrev pub list_numbers : Resend → List ℕ
list_numbers list = entry_count list ∷ entries_of list

unfoldable pub list_bytes : Resend → List ℕ
list_bytes list = encode_all (list_numbers list)

-- the most bytes of the leading count, which is at most 240, and of an entry: two processes of one byte each, and two counters
abbrev pub count_size : ℕ
count_size = 2

abbrev pub entry_size : ℕ
entry_size = 1 + 1 + groups + groups

-- no list among n processes is longer: an entry for each channel
abbrev pub longest_list : ℕ → ℕ
longest_list n = count_size + n * (n - 1) * entry_size

-- ---- and back

-- the place of the channel from one process to another, both numbered from 1
abbrev pub channel_at : ℕ → ℕ → ℕ
channel_at sender receiver = (sender - 1) * most_processes + (receiver - 1)

-- one entry taken into a list
abbrev pub with_entry : Resend → ℕ → ℕ → ℕ → ℕ → Resend
with_entry list sender receiver first last =
    record {
      first = set list.first (channel_at sender receiver) (record { 0 = first });
      last = set list.last (channel_at sender receiver) (record { 0 = last });
    }

-- entries that pass their questions, taken into a list
unfoldable pub entries_in : Resend → List ℕ → Resend
entries_in list [] = list
entries_in list (sender ∷ []) = list
entries_in list (sender ∷ receiver ∷ []) = list
entries_in list (sender ∷ receiver ∷ first ∷ []) = list
entries_in list (sender ∷ receiver ∷ first ∷ last ∷ numbers) = entries_in (with_entry list sender receiver first last) numbers

-- the list that numbers make: the count, then the entries
abbrev pub list_in : List ℕ → Resend
list_in [] = no_resend
list_in (count ∷ entries) = entries_in no_resend entries
