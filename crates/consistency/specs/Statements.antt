-- What the answers to the two tests mean, said of the tables, for callers, who number processes from 1.
use Rattle.std.specs.Prelude.{◌≡◌, List, ◌↔◌, ℕ, ◌-◌, ◌≤◌, ◌<◌, Some, None, Ok, Err}
use Rattle.book.specs.Lent.{Tables}
use Rattle.book.specs.declared.Process.{Process}
use Rattle.book.specs.declared.Checkpoint.{Checkpoint}
use Rattle.book.specs.declared.Count.{Count}
use Rattle.book.specs.Bounds.{mark}
use Rattle.book.specs.View.{R}
use Rattle.book.specs.Accepted.{AreAccepted}
use Rattle.line_theory.specs.Sets as sets
use Rattle.line_theory.specs.OfTables.{view_of}
use Rattle.line_theory.specs.Statements.{IsFirstFault, IsLowestOffending}
use Rattle.consistency.specs.Set.{chosen, test_question, answer_to_test}
use Rattle.consistency.specs.Known.{counters, column_question, answer_to_column}

-- ---- a set

-- No pair is shown exactly where no question refuses and the set is consistent.
abbrev pub ConsistentExactly : Type 0
ConsistentExactly =
    (tables : Tables) (set : List Checkpoint)
    → answer_to_test tables set ≡ Ok None
    ↔ ((test_question tables set ≡ 0) × sets.Consistent (view_of tables) (chosen set))

-- A pair is shown exactly where no question refuses and it is the first at fault.
abbrev pub ShownExactly : Type 0
ShownExactly =
    (tables : Tables) (set : List Checkpoint) (j p : Process)
    → answer_to_test tables set ≡ Ok (Some (j, p))
    ↔ (
    (test_question tables set ≡ 0)
    × (1 ≤ j.0)
    × (1 ≤ p.0)
    × IsFirstFault (view_of tables) (chosen set) (j.0 - 1) (p.0 - 1)
    )

-- A number refuses exactly where it is that of the first question that fails.
abbrev pub RefusedExactly : Type 0
RefusedExactly =
    (tables : Tables) (set : List Checkpoint) (question : ℕ)
    → answer_to_test tables set ≡ Err question ↔ ((test_question tables set ≡ question) × (question ≡ 0 → ⊥))

-- ---- one checkpoint

-- No partner is named exactly where no question refuses and nobody offends.
abbrev pub PermittedExactly : Type 0
PermittedExactly =
    (tables : Tables) (j r : ℕ) (known : List Count)
    → answer_to_column tables j r known ≡ Ok None
    ↔ (
    (column_question tables j r ≡ 0)
    × ((p : ℕ) → p < tables.shape.n → R tables.shape tables.received (j - 1) r p ≤ counters known p)
    )

-- A partner is named exactly where no question refuses and it is the lowest that offends.
abbrev pub NamedExactly : Type 0
NamedExactly =
    (tables : Tables) (j r : ℕ) (known : List Count) (p : Process)
    → answer_to_column tables j r known ≡ Ok (Some p)
    ↔ (
    (column_question tables j r ≡ 0)
    × (1 ≤ p.0)
    × IsLowestOffending tables.shape.n (λ q. R tables.shape tables.received (j - 1) r q) (counters known) (p.0 - 1)
    )

-- A number refuses exactly where it is that of the first question that fails.
abbrev pub ColumnRefusedExactly : Type 0
ColumnRefusedExactly =
    (tables : Tables) (j r : ℕ) (known : List Count) (question : ℕ)
    → answer_to_column tables j r known ≡ Err question
    ↔ ((column_question tables j r ≡ question) × (question ≡ 0 → ⊥))

-- The partner named is another process, and what it has sent is known.
abbrev pub NamedIsOther : Type 0
NamedIsOther =
    (tables : Tables) (j r : ℕ) (known : List Count) (p : Process) → AreAccepted tables
    → answer_to_column tables j r known ≡ Ok (Some p) → (p.0 ≡ j → ⊥) × (counters known (p.0 - 1) < mark)
