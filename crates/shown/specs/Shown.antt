-- The book that an abstract view shows: what `view_of` takes out of tables, put back. Whoever changes a book says what its view
-- becomes; the tables are then those of the book shown. Processes and partners count from 0, the view's checkpoints from 1.
use Rattle.std.specs.Prelude.{List, ◌++◌, ℕ, suc, ◌-◌}
use Rattle.book.specs.Layout.{Book}
use Rattle.book.specs.Tables.{partner_column}
use Rattle.lists.specs.Over.{tab}
use Rattle.line_theory.specs.Sets.{View}

-- a checkpoint: "the messages sent to every other process in rising order, then those received from every other in rising order"
abbrev pub counters_shown : View → ℕ → ℕ → List ℕ
counters_shown v j r = tab (v.n - 1) (λ k. v.S j r (partner_column j k)) ++ tab (v.n - 1) (λ k. v.R j r (partner_column j k))

-- process by process its checkpoints, oldest first
unfoldable pub book_shown : View → Book
book_shown v =
    record { n = v.n; processes = tab v.n (λ j. tab (v.count j) (λ r. counters_shown v j (suc r))) }
