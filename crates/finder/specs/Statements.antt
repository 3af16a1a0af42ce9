-- What the finder's answer means, in the words of demand 2 and of document 01, "The line".
use Rattle.std.specs.Prelude.{◌≡◌, ℕ, ◌≤◌}
use Rattle.book.specs.Lent.{Tables}
use Rattle.book.specs.Accepted.{AreAccepted}
use Rattle.line_theory.specs.Sets.{View, IsLine, newer_than}
use Rattle.line_theory.specs.OfTables.{view_of}
use Rattle.consistency.specs.Set.{chosen}
use Rattle.finder.specs.Line.{line_found, passed_found}

-- The line found in accepted tables is their maximum consistent set; absent processes have 0 in it; and T is the number of
-- checkpoints newer than its own, summed.
abbrev pub FoundIsLine : Type 0
FoundIsLine =
    (tables : Tables) → AreAccepted tables → let v : View = view_of tables in
    let c : ℕ → ℕ = chosen (line_found tables) in
    IsLine v c × ((j : ℕ) → tables.shape.n ≤ j → c j ≡ 0) × (passed_found tables ≡ newer_than v c)
