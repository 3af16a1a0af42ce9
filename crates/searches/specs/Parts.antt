-- What the functions below `run` and `search` are given.
use Rattle.std.specs.Prelude.{◌≡◌, List, ℕ, ◌≤◌, ◌<◌, length}
use Rattle.book.specs.Lent.{Tables}
use Rattle.book.specs.declared.Shape.{Shape}
use Rattle.book.specs.declared.Process.{Process}
use Rattle.book.specs.declared.Checkpoint.{Checkpoint}
use Rattle.book.specs.Bounds.{most_processes}
use Rattle.book.specs.View.{count}
use Rattle.consistency.specs.Set.{chosen}
use Rattle.session.specs.declared.Session.{Session}
use Rattle.session.specs.Calls.{session_started, strands_started}
use Rattle.searches.specs.Lowest.{strands_inside}
use Rattle.searches.specs.Search.{search_question}

-- a session, and its strands, as a search leaves them when it starts
pub record Started (tables : Tables) (session : Session) (strands : List ℕ) : Type 0 where
  pub initiator : Process
  pub purpose : ℕ
  pub long : length tables.shape.counts ≡ most_processes
  pub accepted : search_question tables initiator purpose ≡ 0
  pub session_left : session ≡ session_started tables initiator purpose strands_inside
  pub strands_left : strands ≡ strands_started tables initiator purpose strands_inside

-- the checkpoints of a set, of each process that there is, are among the process's own
pub record Among (shape : Shape) (set : List Checkpoint) : Type 0 where
  pub few : shape.n ≤ most_processes
  pub there : (j : ℕ) → j < shape.n → chosen set j ≤ count shape j
  pub small : (j : ℕ) → j < shape.n → count shape j ≤ 256
