-- Document 01, "A search": what a machine sees of the tables, "its own checkpoints". Processes and partners count from 0,
-- checkpoints from 1, the oldest.
use Rattle.std.specs.Prelude.{Bool, ◌&&◌, List, ℕ, leb}
use Rattle.book.specs.Lent.{Tables}
use Rattle.book.specs.declared.Count.{Count}
use Rattle.book.specs.View as view
use Rattle.line_theory.specs.Search.{newest}
use Rattle.consistency.specs.Known.{counters}
use Rattle.matrix.specs.Matrix.{as_row}

-- of how many processes, how many checkpoints it has, and what its checkpoint r had sent to each partner (S) and received
-- from it (R)
pub record Own : Type 0 where
  pub n : ℕ
  pub count : ℕ
  pub S : ℕ → ℕ → ℕ
  pub R : ℕ → ℕ → ℕ

-- those of process j
abbrev pub own_of : Tables → ℕ → Own
own_of tables j =
    record {
      n = tables.shape.n;
      count = view.count tables.shape j;
      S = λ r p. view.S tables.shape tables.sent j r p;
      R = λ r p. view.R tables.shape tables.received j r p;
    }

-- "Its candidate exists."
abbrev pub has_checkpoint : Own → ℕ → Bool
has_checkpoint own r = leb 1 r && leb r own.count

-- a checkpoint's sent counters
abbrev pub sent_row : Own → ℕ → List Count
sent_row own r = as_row (λ p. own.S r p)

-- "its newest checkpoint whose received counters are at most the known sent counters ('not known' permits everything)"
abbrev pub newest_permitted : Own → List Count → ℕ
newest_permitted own known = newest own.n own.R (counters known) own.count
