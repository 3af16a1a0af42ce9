-- What the plan of a move is, whatever its purpose: the laws of the moved book need no more of it.
use mathlib.Core.Path.{◌≡◌, refl, fun_ext}
use mathlib.Core.Bool.{Bool, true, false}
use Prim.Native.Nat.{ℕ, ◌+◌, ◌-◌, ◌≤◌, ◌<◌}
use native.Mathlib.Omega.{arith}
use Rattle.book.specs.Bounds.{mark}
use Rattle.line_theory.specs.Sets.{View, IsBook, IsSet, Consistent, IsLine}
use Rattle.line_theory.specs.Search.{line}
use Rattle.line_theory.proofs.Theorems.{line_is_line}
use Rattle.lists.specs.Pick.{pick}
use Rattle.lists.proofs.Pick.{pick_each}
use Rattle.restart.specs.Plan.{Planned, advances, restarts, line_checkpoint, planned}

pub record IsPlan (v : View) (plan : Planned) : Type 0 where
  -- a checkpoint of each process, and those that go before it
  pub line : IsSet v plan.line
  pub before : (j : ℕ) → j < v.n → plan.before j + 1 ≡ plan.line j
  -- one at least is kept, and none is lost
  pub some : (j : ℕ) → j < v.n → 1 ≤ plan.kept j
  pub adds_up : (j : ℕ) → j < v.n → plan.before j + plan.after j + plan.kept j ≡ v.count j
  -- these checkpoints belong together, and what the receiver's had received is taken off a channel
  pub pairwise : Consistent v plan.line
  pub off : (a b : ℕ) → plan.off a b ≡ v.R b (plan.line b) a

-- the line's checkpoint is c, of k in all
picks_add_up : (t : Bool) (c k : ℕ) → 1 ≤ c → c ≤ k → c - 1 + pick t (k - c) 0 + pick t 1 (k - (c - 1)) ≡ k
picks_add_up true c k h m = omega arith
picks_add_up false c k h m = omega arith

-- the line checkpoints are a set of the book
pub line_is_set : (v : View) (purpose : ℕ) → IsBook mark v → IsSet v (line_checkpoint v purpose)
line_is_set v purpose book =
    let found : IsLine v (line v) = line_is_line mark v book in
    record {
      some = λ j h. pick_each (λ r. 1 ≤ r) (advances purpose) (line v j) 1 (found.is_set.some j h) (omega arith);
      among = λ j h. pick_each (λ r. r ≤ v.count j) (advances purpose) (line v j) 1 (found.is_set.among j h) (book.some j h);
    }

-- which is consistent: the line is, and the oldest checkpoints have received nothing
line_consistent : (v : View) (purpose : ℕ) → IsBook mark v → Consistent v (line_checkpoint v purpose)
line_consistent v purpose book j p h o other = go (advances purpose)
  where
    go : (t : Bool) → v.R j (pick t (line v j) 1) p ≤ v.S p (pick t (line v p) 1) j
    go true = (line_is_line mark v book).pairwise j p h o other
    go false = omega (arith, book.oldest j p h o)

pub planned_is_plan : (v : View) (purpose : ℕ) → IsBook mark v → IsPlan v (planned v purpose)
unfolding planned
planned_is_plan v purpose book = record {
  line = there;
  before = λ j h. omega (arith, there.some j h);
  some = λ j h.
      let line_on : 1 ≤ v.count j - (line_checkpoint v purpose j - 1) = omega (arith, there.some j h, there.among j h) in
      pick_each (λ k. 1 ≤ k) (restarts purpose) 1 (v.count j - (line_checkpoint v purpose j - 1)) (omega arith) line_on;
  adds_up = λ j h. picks_add_up (restarts purpose) (line_checkpoint v purpose j) (v.count j) (there.some j h) (there.among j h);
  pairwise = line_consistent v purpose book;
  off = λ a b. refl;
}
  where
    there : IsSet v (line_checkpoint v purpose)
    there = line_is_set v purpose book

-- ---- by purpose

pub planned_line : (v : View) (purpose : ℕ) → advances purpose ≡ true → (planned v purpose).line ≡ line v
unfolding planned
planned_line v purpose yes' = fun_ext (λ j. rw yes')

pub planned_kept : (v : View) (purpose j : ℕ) → restarts purpose ≡ true → (planned v purpose).kept j ≡ 1
unfolding planned
planned_kept v purpose j yes' = rw yes'
