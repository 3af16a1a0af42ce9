-- The row before a row of a table, for question 8: before the oldest there is nothing to be lower than.
use Rattle.std.specs.Prelude.{Bool, true, false, List, ℕ, ◌-◌, drop, get_or, replicate}
use Rattle.book.specs.Bounds.{row_width}
use Rattle.book.specs.Tables.{others}

-- the same counter one checkpoint before
abbrev pub entry_before : Bool → ℕ → List ℕ → ℕ
entry_before true at table = 0
entry_before false at table = get_or table (at - row_width) 0

-- all counters of that checkpoint in a table
unfoldable pub counters_before : Bool → ℕ → ℕ → ℕ → List ℕ → List ℕ
counters_before true n j start table = replicate (n - 1) 0
counters_before false n j start table = others n j (drop (start - row_width) table)
