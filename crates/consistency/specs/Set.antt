-- Document 01, "The line": a set named in a call, and the answer to a test of it.
use Rattle.std.specs.Prelude.{Bool, true, false, ◌&&◌, List, ℕ, suc, Option, Some, None, Result, get_or, ltb, leb, eqb}
use Rattle.std.proofs.Math.Option as found
use Rattle.book.specs.Lent.{Tables}
use Rattle.book.specs.declared.Shape.{Shape}
use Rattle.book.specs.declared.Process.{Process}
use Rattle.book.specs.declared.Checkpoint.{Checkpoint}
use Rattle.book.specs.Bounds.{most_processes}
use Rattle.book.specs.View as view
use Rattle.book.specs.InTurn.{◌then◌, ask, answer_with}
use Rattle.book.specs.Check.{tables_question}
use Rattle.lists.specs.Over.{all_to}
use Rattle.line_theory.specs.Sets.{first_fault}
use Rattle.line_theory.specs.OfTables.{view_of}

-- the checkpoint that a set has of process j, which counts from 0; sixteen are named
abbrev pub chosen : List Checkpoint → ℕ → ℕ
chosen set j = (get_or set j (record { 0 = 0 })).0

-- "Does each named checkpoint exist?" "In a set or line, absent processes have 0; anything else there fails question 12."
-- Of a process that is one of the n, with `count` checkpoints, and of an absent one:
abbrev pub is_there : Bool → ℕ → ℕ → Bool
is_there true count r = leb 1 r && leb r count
is_there false count r = eqb r 0

unfoldable pub all_there : Shape → List Checkpoint → Bool
all_there shape set = all_to most_processes (λ j. is_there (ltb j shape.n) (view.count shape j) (chosen set j))

-- the questions of the tables, then 12
unfoldable pub test_question : Tables → List Checkpoint → ℕ
test_question tables set = tables_question tables then λ _. ask 12 (all_there tables.shape set)

-- "A test that says no shows a pair (j, p) at fault": its processes are numbered from 1, as a caller names them
abbrev pub shown_as : found.Option (ℕ × ℕ) → Option (Process × Process)
shown_as found.none = None
shown_as (found.some pair) = Some (record { 0 = suc pair.0 }, record { 0 = suc pair.1 })

-- the answer to a test of a set: the first pair at fault, unless a question refuses
unfoldable pub answer_to_test : Tables → List Checkpoint → Result (Option (Process × Process)) ℕ
answer_to_test tables set = answer_with (test_question tables set) (shown_as (first_fault (view_of tables) (chosen set)))
