-- Question 12: does a named checkpoint exist?
use mathlib.Core.Path.{◌≡◌, subst}
use mathlib.Core.Bool.{Bool, true, false}
use mathlib.Core.List.{List}
use Prim.Native.Nat.{ℕ, ◌≤◌, ◌<◌}
use native.Mathlib.Omega.{arith}
use borrow.Author.Tests.{lt-ltb, le-leb, lt-leb, leb-true}
use lib.Dec.{ltb, leb, eqb}
use Rattle.book.specs.declared.Shape.{Shape}
use Rattle.book.specs.declared.Checkpoint.{Checkpoint}
use Rattle.book.specs.View.{count}
use Rattle.lists.proofs.Tests.{and_both}
use Rattle.lists.proofs.Over.{all_in}
use Rattle.consistency.specs.Set.{chosen, is_there, all_there}

pub there_absent : (present : Bool) (checkpoints r : ℕ) → present ≡ false → eqb r 0 ≡ is_there present checkpoints r
there_absent present checkpoints r h = rw h

pub there_none : (present : Bool) (checkpoints r : ℕ) → present ≡ true → r < 1 → false ≡ is_there present checkpoints r
there_none present checkpoints r h k = rw (h, lt-leb 1 r k)

pub there_some : (present : Bool) (checkpoints r : ℕ) → present ≡ true → 1 ≤ r → leb r checkpoints ≡ is_there present checkpoints r
there_some present checkpoints r h k = rw (h, le-leb 1 r k)

-- each of a set
there_at : (shape : Shape) (set : List Checkpoint) → all_there shape set ≡ true → (j : ℕ) → j < 16
    → is_there (ltb j shape.n) (count shape j) (chosen set j) ≡ true
unfolding all_there
there_at shape set h j i = all_in 16 (λ k. is_there (ltb k shape.n) (count shape k) (chosen set k)) h j i

-- so it has a checkpoint of every process
pub there_present : (shape : Shape) (set : List Checkpoint) → shape.n ≤ 16 → all_there shape set ≡ true → (j : ℕ) → j < shape.n
    → (1 ≤ chosen set j) × (chosen set j ≤ count shape j)
there_present shape set most h j i =
    let at : is_there true (count shape j) (chosen set j) ≡ true
    = subst (λ (b : Bool). is_there b (count shape j) (chosen set j) ≡ true) (lt-ltb j shape.n i) (there_at shape set h j (omega arith)) in
    let b = and_both (leb 1 (chosen set j)) (leb (chosen set j) (count shape j)) at in
    (leb-true 1 (chosen set j) b.0, leb-true (chosen set j) (count shape j) b.1)
