-- A move, for theorems: the tables and the purpose, and what the definitions of the call make of them.
use Rattle.std.specs.Prelude.{◌≡◌, List, ◌⊎◌, ℕ, length}
use Rattle.book.specs.Lent.{Tables, lent}
use Rattle.book.specs.declared.Shape.{Shape}
use Rattle.book.specs.Bounds.{most_processes}
use Rattle.line_theory.specs.Sets.{View}
use Rattle.line_theory.specs.OfTables.{view_of}
use Rattle.restart.specs.declared.Order.{Order}
use Rattle.restart.specs.Calls.{move_question, order_given, shape_moved, sent_moved, received_moved}

pub record Move : Type 0 where
  pub tables : Tables
  pub purpose : ℕ

-- sixteen counts, and no question fails (`passed` is not 01's "passed", which is T)
pub record IsAccepted (m : Move) : Type 0 where
  pub sixteen : length m.tables.shape.counts ≡ most_processes
  pub passed : move_question m.tables m.purpose ≡ 0

-- "with purpose 1 or 3", "with 2 or 3"
abbrev pub Advances : Move → Type 0
Advances m = (m.purpose ≡ 1) ⊎ (m.purpose ≡ 3)

abbrev pub Restarts : Move → Type 0
Restarts m = (m.purpose ≡ 2) ⊎ (m.purpose ≡ 3)

-- the book before and after
abbrev pub view_before : Move → View
view_before m = view_of m.tables

abbrev pub shape_after : Move → Shape
shape_after m = shape_moved m.tables m.purpose

abbrev pub sent_after : Move → List ℕ
sent_after m = sent_moved m.tables m.purpose

abbrev pub received_after : Move → List ℕ
received_after m = received_moved m.tables m.purpose

abbrev pub tables_after : Move → Tables
tables_after m = lent (shape_after m) (sent_after m) (received_after m)

abbrev pub view_after : Move → View
view_after m = view_of (tables_after m)

-- its restart order
abbrev pub order_with : Move → Order
order_with m = order_given m.tables m.purpose

-- the same tables moved with another purpose, and the moved tables moved once more
abbrev pub with_purpose : Move → ℕ → Move
with_purpose m purpose = record { tables = m.tables; purpose = purpose }

abbrev pub again : Move → ℕ → Move
again m purpose = record { tables = tables_after m; purpose = purpose }
