-- Search and move belong together: where a search has ended, the restart order sends everybody to where they stand.
use Rattle.std.specs.Prelude.{◌≡◌, true, List, ℕ, ◌<◌, length}
use Rattle.book.specs.Lent.{Tables}
use Rattle.book.specs.declared.Process.{Process}
use Rattle.book.specs.Bounds.{most_processes}
use Rattle.consistency.specs.Set.{chosen}
use Rattle.session.specs.Workers.{stands_on, has_ended}
use Rattle.demand3.specs.Statement.{Beginning, shape_left, IsAccepted, after, tables_left}
use Rattle.restart.specs.declared.Order.{Order}
use Rattle.restart.specs.Calls.{order_given}
use Rattle.searches.specs.Search.{search_question, set_searched}

-- the restart order of the tables that a search runs on, for its purpose
abbrev pub order_in : Beginning → Order
order_in b = order_given (tables_left b) b.purpose

-- After every list of turns, whoever has ended stands on its checkpoint in the order.
abbrev pub EndedStandOnOrder : Type 0
EndedStandOnOrder =
    (b : Beginning) → IsAccepted b → (turns : List Process) (j : ℕ) → j < (shape_left b).n
    → has_ended (after b turns).session j ≡ true → stands_on (after b turns).session j ≡ chosen (order_in b).from j

-- After a bare restart that is checkpoint 1.
abbrev pub RestartedStandOnOldest : Type 0
RestartedStandOnOldest =
    (b : Beginning) → IsAccepted b → b.purpose ≡ 2 → (turns : List Process) (j : ℕ) → j < (shape_left b).n
    → has_ended (after b turns).session j ≡ true
    → (stands_on (after b turns).session j ≡ 1) × (chosen (order_in b).from j ≡ 1)

-- The set on which `search` ends is the order's.
abbrev pub SearchedIsOrder : Type 0
SearchedIsOrder =
    (tables : Tables) (initiator : Process) (purpose : ℕ) → length tables.shape.counts ≡ most_processes
    → search_question tables initiator purpose ≡ 0 → set_searched tables initiator purpose ≡ (order_given tables purpose).from
