-- Document 01, "The line": finding it. Unless a question of the tables refuses, the answer is the line, with zeros for
-- absent processes, and T.
use Rattle.std.specs.Prelude.{◌≡◌, List, ℕ, replicate}
use Rattle.book.specs.Lent.{Tables}
use Rattle.book.specs.declared.Checkpoint.{Checkpoint}
use Rattle.book.specs.Bounds.{most_processes}
use Rattle.book.specs.InTurn.{unless_refused}
use Rattle.book.specs.Check.{tables_question}
use Rattle.lists.specs.Over.{tab}
use Rattle.line_theory.specs.Sets.{View}
use Rattle.line_theory.specs.Search.{line, passed}
use Rattle.line_theory.specs.OfTables.{view_of}
use Rattle.finder.specs.declared.Line.{Line}

-- sixteen checkpoint numbers
unfoldable pub checkpoints : (ℕ → ℕ) → List Checkpoint
checkpoints c = tab {A = Checkpoint} most_processes (λ j. record { 0 = c j })

-- beside a refusal
abbrev pub no_line : List Checkpoint
no_line = replicate most_processes (record { 0 = 0 })

unfoldable pub line_found : Tables → List Checkpoint
line_found tables = unless_refused (tables_question tables) no_line (checkpoints (line (view_of tables)))

unfoldable pub passed_found : Tables → ℕ
passed_found tables = unless_refused (tables_question tables) 0 (passed (view_of tables))

-- both
abbrev pub found_in : Tables → Line
found_in tables = record { set = line_found tables; passed = passed_found tables }

-- the line of a book, cut to the set that a search starts from, and how far it is from that set
abbrev pub IsLineOf : View → Line → Type 0
IsLineOf v found = (found.set ≡ checkpoints (line v)) × (found.passed ≡ passed v)
