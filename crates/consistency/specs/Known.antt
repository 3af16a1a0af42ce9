-- One checkpoint against known sent counters, 02's column.
use Rattle.std.specs.Prelude.{true, List, ℕ, suc, ◌-◌, Option, Some, None, Result, get_or}
use Rattle.std.proofs.Math.Option as found
use Rattle.book.specs.Lent.{Tables}
use Rattle.book.specs.declared.Process.{Process}
use Rattle.book.specs.declared.Count.{Count}
use Rattle.book.specs.Names.{is_named}
use Rattle.book.specs.View.{count, R}
use Rattle.book.specs.InTurn.{◌then◌, ask, answer_with}
use Rattle.book.specs.Check.{tables_question}
use Rattle.line_theory.specs.Search.{lowest_offending}
use Rattle.consistency.specs.Set.{is_there}

-- the counter that is known of partner p, which counts from 0; sixteen are lent
abbrev pub counters : List Count → ℕ → ℕ
counters known p = (get_or known p (record { 0 = 0 })).0

-- Document 02, E3: "The test of one checkpoint against a column names its lowest offending partner likewise, and none
-- exactly when there is none."

-- the questions of the tables, then 10 of process j, numbered from 1, and 12 of its checkpoint r
unfoldable pub column_question : Tables → ℕ → ℕ → ℕ
column_question tables j r =
    tables_question tables
    then λ _. ask 10 (is_named tables.shape.n j)
    then λ _. ask 12 (is_there true (count tables.shape (j - 1)) r)

-- the lowest partner, counted from 0, from which that checkpoint received more than the partner is known to have sent to j
abbrev pub offending : Tables → ℕ → ℕ → (ℕ → ℕ) → found.Option ℕ
offending tables j r known =
    lowest_offending tables.shape.n (λ p. R tables.shape tables.received (j - 1) r p) known

-- the partner that offends, numbered from 1 as a caller names it; none where the checkpoint is permitted
abbrev pub named_as : found.Option ℕ → Option Process
named_as found.none = None
named_as (found.some p) = Some (record { 0 = suc p })

-- the answer to a test of one checkpoint, unless a question refuses
unfoldable pub answer_to_column : Tables → ℕ → ℕ → List Count → Result (Option Process) ℕ
answer_to_column tables j r known = answer_with (column_question tables j r) (named_as (offending tables j r (counters known)))
