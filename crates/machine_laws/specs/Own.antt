-- What the laws of the machines ask of a process's own checkpoints, and when two tables agree on them.
use Rattle.std.specs.Prelude.{◌≡◌, false, ℕ, suc, ◌≤◌, ◌<◌}
use Rattle.book.specs.Bounds.{mark, most_processes}
use Rattle.book.specs.Lent.{Tables}
use Rattle.book.specs.Accepted.{AreAccepted}
use Rattle.matrix.specs.Matrix.{is_pair}
use Rattle.machine.specs.Own.{Own, own_of}

-- the checkpoints of process j, which counts from 0, in a book: sent counters rise and are below the mark, received ones are
-- at most the mark and zero in the oldest; own columns hold zero, and so do those of what is sent to absent processes
pub record IsOwn (own : Own) (j : ℕ) : Type 0 where
  pub most : own.n ≤ most_processes
  pub present : j < own.n
  pub some : 1 ≤ own.count
  pub rising : (r p : ℕ) → p < most_processes → 1 ≤ r → r < own.count → own.S r p ≤ own.S (suc r) p
  pub below : (r p : ℕ) → p < most_processes → 1 ≤ r → r ≤ own.count → own.S r p < mark
  pub rest : (r p : ℕ) → p < most_processes → 1 ≤ r → r ≤ own.count → is_pair own.n j p ≡ false → own.S r p ≡ 0
  pub received : (r p : ℕ) → p < own.n → 1 ≤ r → r ≤ own.count → own.R r p ≤ mark
  pub oldest : (p : ℕ) → p < own.n → own.R 1 p ≡ 0
  pub none_from_itself : (r : ℕ) → 1 ≤ r → r ≤ own.count → own.R r j ≡ 0

-- the same checkpoints, as far as they go: places beyond them hold other processes' counters
pub record Agree (a b : Own) : Type 0 where
  pub processes : a.n ≡ b.n
  pub checkpoints : a.count ≡ b.count
  pub sent : (r p : ℕ) → p < a.n → 1 ≤ r → r ≤ a.count → a.S r p ≡ b.S r p
  pub received : (r p : ℕ) → p < a.n → 1 ≤ r → r ≤ a.count → a.R r p ≡ b.R r p

-- two accepted tables with the same checkpoints of process j
pub record SameTo (j : ℕ) (tables tables' : Tables) : Type 0 where
  pub accepted : AreAccepted tables
  pub accepted' : AreAccepted tables'
  pub agree : Agree (own_of tables j) (own_of tables' j)
