-- A plan and a restart order as values of sixteen processes: absent ones have 0.
use Rattle.std.specs.Prelude.{List, ℕ, ◌*◌, ltb}
use Rattle.book.specs.declared.Count.{Count}
use Rattle.book.specs.Bounds.{most_processes}
use Rattle.lists.specs.Over.{tab}
use Rattle.finder.specs.Line.{checkpoints}
use Rattle.lists.specs.Pick.{pick}
use Rattle.matrix.specs.Matrix.{as_matrix}
use Rattle.restart.specs.declared.Order.{Order}
use Rattle.restart.specs.declared.Plan.{Plan}
use Rattle.restart.specs.declared.Resend.{Resend}
use Rattle.restart.specs.Plan.{Planned}

-- of n processes, 0 for absent ones
abbrev pub present : ℕ → (ℕ → ℕ) → ℕ → ℕ
present n f j = pick (ltb j n) (f j) 0

unfoldable pub numbers : ℕ → (ℕ → ℕ) → List ℕ
numbers n f = tab most_processes (present n f)

-- a row of sixteen for each process
unfoldable pub rows_of : ℕ → (ℕ → ℕ → ℕ) → List Count
rows_of n f = as_matrix (λ j p. present n (λ i. f i p) j)

-- how many entries that has
abbrev pub matrix_entries : ℕ
matrix_entries = most_processes * most_processes

-- a number for each pair of processes: a row for each process, a column for each partner
abbrev pub pair_rows : ℕ → (ℕ → ℕ → ℕ) → List Count
pair_rows n f = rows_of n (λ j p. present n (f j) p)

-- Document 02, E5: "A restart order of any purpose gains a list of (sender, receiver, first, last)". As a value it is two matrices, of
-- the first message and of the last, a row for each sender, a column for each receiver, and 0 for a channel with nothing to send again:
-- no channel can stand in it twice, or out of order.
unfoldable pub resend_of : ℕ → Planned → Resend
resend_of n plan = record { first = pair_rows n plan.first; last = pair_rows n plan.last }

-- "A restart order names, for each process, the checkpoint restarted from, numbered as before the move, and how many go before and
-- after it."
unfoldable pub order_of : ℕ → Planned → Order
order_of n plan =
    record {
      from = checkpoints (present n plan.line);
      before = numbers n plan.before;
      after = numbers n plan.after;
      resend = resend_of n plan;
    }

unfoldable pub plan_of : ℕ → Planned → Plan
plan_of n plan =
    record {
      line = checkpoints (present n plan.line);
      kept = numbers n plan.kept;
      off = record { sent = pair_rows n plan.off; received = pair_rows n (λ j p. plan.off p j) };
      order = order_of n plan;
    }
