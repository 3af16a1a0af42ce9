-- What a list of what to send again is, and which messages it names. Processes count from 0; messages are numbered as a book's counters
-- count them, from 1.
use Rattle.std.specs.Prelude.{◌≡◌, true, false, List, [], ◌++◌, ℕ, ◌+◌, ◌-◌, ◌≤◌, ◌<◌, ◌/◌, ◌%◌, length}
use Rattle.book.specs.Bounds.{largest, most_processes}
use Rattle.lists.specs.Over.{tab_from}
use Rattle.lists.specs.Pick.{pick}
use Rattle.consistency.specs.Known.{counters}
use Rattle.consistency.specs.Set.{chosen}
use Rattle.matrix.specs.Matrix.{as_matrix, entry}
use Rattle.restart.specs.declared.Resend.{Resend}
use Rattle.restart.specs.Values.{matrix_entries}
use Rattle.resend.specs.Layout.{has_entry}
use Rattle.move_laws.specs.Moves.{Move, view_before, order_with}

-- An entry of a list among n processes, at place i of the matrices: of two processes, up to a last message that can be written and is not
-- before the first.
pub record IsEntry (n i first last : ℕ) : Type 0 where
  pub sender : i / most_processes < n
  pub receiver : i % most_processes < n
  pub other : i / most_processes ≡ i % most_processes → ⊥
  pub rising : first ≤ last
  pub most : last ≤ largest

-- A list among n processes: every channel has such an entry, or none, with zeros in both matrices.
pub record IsList (n : ℕ) (list : Resend) : Type 0 where
  pub firsts : length list.first ≡ matrix_entries
  pub lasts : length list.last ≡ matrix_entries
  pub none : (i : ℕ) → i < matrix_entries → has_entry (counters list.first i) ≡ false → counters list.last i ≡ 0
  pub some :
      (i : ℕ) → i < matrix_entries → has_entry (counters list.first i) ≡ true
      → IsEntry n i (counters list.first i) (counters list.last i)

-- the messages of a channel from one number to another
abbrev pub messages : ℕ → ℕ → List ℕ
messages first last = tab_from first (last + 1 - first) (λ k. k)

-- the first message and the last that a list names on the channel from process a to process b; zeros for none
abbrev pub first_on : Resend → ℕ → ℕ → ℕ
first_on list a b = entry list.first a b

abbrev pub last_on : Resend → ℕ → ℕ → ℕ
last_on list a b = entry list.last a b

-- the messages that it says to send again
abbrev pub sent_again : Resend → ℕ → ℕ → List ℕ
sent_again list a b = pick (has_entry (first_on list a b)) (messages (first_on list a b) (last_on list a b)) []

-- "With it repeated, every channel has received what was sent": those received before, 1 to the received count, and then those sent
-- again, are 1 to the sent count, each once and in order.
abbrev pub Completes : ℕ → (ℕ → ℕ → ℕ) → (ℕ → ℕ → ℕ) → Resend → Type 0
Completes n received sent list =
    (a b : ℕ) → a < n → b < n → messages 1 (received a b) ++ sent_again list a b ≡ messages 1 (sent a b)

-- what the checkpoints of a restart order had sent and received on the channel from process a to process b
abbrev pub order_sent : Move → ℕ → ℕ → ℕ
order_sent m a b = (view_before m).S a (chosen (order_with m).from a) b

abbrev pub order_received : Move → ℕ → ℕ → ℕ
order_received m a b = (view_before m).R b (chosen (order_with m).from b) a

-- the same messages counted from 1
abbrev pub counted_from_one : Resend → Resend
counted_from_one list =
    record {
      first = as_matrix (λ a b. pick (has_entry (first_on list a b)) 1 0);
      last = as_matrix (λ a b. pick (has_entry (first_on list a b)) (last_on list a b + 1 - first_on list a b) 0);
    }
