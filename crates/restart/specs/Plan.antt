-- Document 01, "The move (K 5.4)", and document 02, E4 and E5, on the abstract view of a book: a plan, which says of each process what stays
-- and what goes, and of each channel what is taken off and what is sent again; and then its application. Processes and partners count
-- from 0, checkpoints from 1, the oldest.
use Rattle.std.specs.Prelude.{Bool, ◌||◌, ℕ, ◌+◌, ◌-◌, eqb, ltb}
use Rattle.line_theory.specs.Sets.{View}
use Rattle.line_theory.specs.Search.{line}
use Rattle.lists.specs.Pick.{pick}

-- 01's purposes: "1 advance the line, 2 restart only, 3 advance and restart". "With purpose 1 or 3 the tables' line becomes the
-- oldest" (K's Adv)
abbrev pub advances : ℕ → Bool
advances purpose = eqb purpose 1 || eqb purpose 3

-- "With 2 or 3 only the then oldest is kept." (K's Rst)
abbrev pub restarts : ℕ → Bool
restarts purpose = eqb purpose 2 || eqb purpose 3

-- Document 02, E5: "for each channel whose line .. sent more than was received, from one past the received count to the sent count", by
-- these two counts; 0 for none
abbrev pub first_missing : ℕ → ℕ → ℕ
first_missing received sent = pick (ltb received sent) (received + 1) 0

abbrev pub last_missing : ℕ → ℕ → ℕ
last_missing received sent = pick (ltb received sent) sent 0

-- a plan of a move
pub record Planned : Type 0 where
  -- process j's line checkpoint, which is its oldest afterwards
  pub line : ℕ → ℕ
  -- how many of its checkpoints go before that one, how many after it, and how many are kept
  pub before : ℕ → ℕ
  pub after : ℕ → ℕ
  pub kept : ℕ → ℕ
  -- what is taken off the channel from process a to process b, at both its ends
  pub off : ℕ → ℕ → ℕ
  -- which messages of that channel are sent again, the first and the last, numbered from 1 as the book's counters count them: "as counted
  -- before the move"
  pub first : ℕ → ℕ → ℕ
  pub last : ℕ → ℕ → ℕ

module _ (v : View) (purpose : ℕ) where
  -- a process's "line checkpoint": the line's, and "with 2 that is checkpoint 1"
  abbrev pub line_checkpoint : ℕ → ℕ
  line_checkpoint j = pick (advances purpose) (line v j) 1

  -- "earlier checkpoints go": how many go before it
  abbrev pub go_before : ℕ → ℕ
  go_before j = line_checkpoint j - 1

  -- and how many after it ("with 1 none after")
  abbrev pub go_after : ℕ → ℕ
  go_after j = pick (restarts purpose) (v.count j - line_checkpoint j) 0

  -- "With 2 or 3 only the then oldest is kept"; with 1 all from the line checkpoint on
  abbrev pub are_kept : ℕ → ℕ
  are_kept j = pick (restarts purpose) 1 (v.count j - go_before j)

  -- on the channel from process a to process b: what the sender's line checkpoint had sent, and what the receiver's had received
  abbrev pub line_sent : ℕ → ℕ → ℕ
  line_sent a b = v.S a (line_checkpoint a) b

  abbrev pub line_received : ℕ → ℕ → ℕ
  line_received a b = v.R b (line_checkpoint b) a

  -- Document 02, E4: "a move takes off, at both ends of a channel, what the receiver's line checkpoint had received"
  abbrev pub taken_off : ℕ → ℕ → ℕ
  taken_off a b = line_received a b

  unfoldable pub planned : Planned
  planned =
      record {
        line = line_checkpoint;
        before = go_before;
        after = go_after;
        kept = are_kept;
        off = taken_off;
        first = λ a b. first_missing (line_received a b) (line_sent a b);
        last = λ a b. last_missing (line_received a b) (line_sent a b);
      }

-- The book as a plan leaves it: what is then checkpoint r was checkpoint `before` + r. Of the channel from j to p process j is the
-- sender, of that from p to j the receiver.
unfoldable pub applied : Planned → View → View
applied plan v =
    record {
      n = v.n;
      count = plan.kept;
      S = λ j r p. v.S j (plan.before j + r) p - plan.off j p;
      R = λ j r p. v.R j (plan.before j + r) p - plan.off p j;
    }

-- the move
abbrev pub moved : View → ℕ → View
moved v purpose = applied (planned v purpose) v
