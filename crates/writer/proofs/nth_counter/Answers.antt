-- `writer::nth_counter` meets its contract: the column is one of the row's.
use mathlib.Core.Path.{ap, ◌∙◌}
use Prim.Native.Nat.{ℕ, ◌+◌, ◌*◌, ◌≤◌}
use native.Mathlib.Omega.{arith}
use lib.ListN.{get_or}
use Rattle.book.proofs.Rows.{column_within}
use Rattle.writer.proofs.nth_counter.Goals as goal
use Rattle.writer.proofs.nth_counter.Goals.{After-partner_column}

near : (c : After-partner_column) → c.partner_column.result ≤ c.args.k + 1
near c = rw c.partner_column.ensures (column_within _ _)

pub overflow_add-at : goal.overflow_add-at
overflow_add-at c = omega (arith, near (goal.at.overflow_add-at c).After-partner_column)

pub offset_bounds-table-at : goal.offset_bounds-table-at
offset_bounds-table-at c = omega (arith, near (goal.at.offset_bounds-table-at c).After-partner_column)

pub bounds-table-at : goal.bounds-table-at
bounds-table-at c = omega (arith, near (goal.at.bounds-table-at c).After-partner_column)

pub returns : goal.returns
returns c = let a = c.args in
    c.from.ensures ∙ ap (λ (i : ℕ). get_or a.table.now (a.row * 16 + i) 0) c.partner_column.ensures
