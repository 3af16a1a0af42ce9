-- The call `search`: from its start to its end. "Purposes 1 and 3 search"; with 2 everybody goes to checkpoint
-- 1. The strands lie inside, so that question 17 is not asked.
use Rattle.std.specs.Prelude.{◌≡◌, true, false, List, ℕ, ◌<◌, length, ltb, eqb}
use Rattle.book.specs.Lent.{Tables}
use Rattle.book.specs.declared.Process.{Process}
use Rattle.book.specs.declared.Checkpoint.{Checkpoint}
use Rattle.book.specs.Bounds.{most_processes}
use Rattle.book.specs.InTurn.{◌then◌, ask, unless_refused}
use Rattle.book.specs.Check.{tables_question}
use Rattle.line_theory.specs.Sets.{View, newer_than}
use Rattle.line_theory.specs.Search.{line}
use Rattle.line_theory.specs.OfTables.{view_of}
use Rattle.finder.specs.Line.{checkpoints, no_line}
use Rattle.lists.specs.Pick.{pick}
use Rattle.book.specs.Names.{is_named, is_purpose}
use Rattle.session.specs.declared.Session.{Session}
use Rattle.session.specs.Workers.{stands_on, has_ended}
use Rattle.demand3.specs.Statement.{message_waits}
use Rattle.searches.specs.declared.SearchEnd.{SearchEnd}
use Rattle.searches.specs.Lowest.{searched}

unfoldable pub search_question : Tables → Process → ℕ → ℕ
search_question tables initiator purpose =
    tables_question tables
    then λ _. ask 10 (is_named tables.shape.n initiator.0)
    then λ _. ask 11 (is_purpose purpose)

-- where everybody ends: on the line, and with purpose 2 on checkpoint 1; absent processes have 0
abbrev pub end_of : View → ℕ → ℕ → ℕ
end_of v purpose j = pick (eqb purpose 2) (pick (ltb j v.n) 1 0) (line v j)

module _ (tables : Tables) (initiator : Process) (purpose : ℕ) where
  abbrev pub search_refusal : ℕ
  search_refusal = search_question tables initiator purpose

  -- the set on which everybody ended
  unfoldable pub set_searched : List Checkpoint
  set_searched = unless_refused search_refusal no_line (checkpoints (end_of (view_of tables) purpose))

  -- how many checkpoints are newer than that set's: T with purpose 1 or 3; with 2, those newer than checkpoint 1
  unfoldable pub newer_searched : ℕ
  newer_searched =
      let v : View = view_of tables in
      unless_refused search_refusal 0 (newer_than v (end_of v purpose))

  -- "counts in the result, proved equal to the definition's waits and turns": those of the session that ran
  unfoldable pub rounds_searched : ℕ
  rounds_searched = unless_refused search_refusal 0 (searched tables initiator purpose).session.machine.rounds

  unfoldable pub messages_searched : ℕ
  messages_searched = unless_refused search_refusal 0 (searched tables initiator purpose).session.delivered

  -- all of these
  abbrev pub search_end : SearchEnd
  search_end = record { set = set_searched; newer = newer_searched; rounds = rounds_searched; messages = messages_searched }

  -- in the session that ran everybody has ended there, and nothing waits
  abbrev pub EndedThere : Type 0
  EndedThere =
      search_refusal ≡ 0 → let s : Session = (searched tables initiator purpose).session in
      ((j : ℕ) → j < tables.shape.n
      → (has_ended s j ≡ true) × (stands_on s j ≡ end_of (view_of tables) purpose j))
      × (message_waits s ≡ false)

-- A search that is accepted comes to its end, and everybody has ended there.
abbrev pub SearchEnds : Type 0
SearchEnds =
    (tables : Tables) (initiator : Process) (purpose : ℕ) → length tables.shape.counts ≡ most_processes
    → EndedThere tables initiator purpose
