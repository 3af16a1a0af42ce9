-- What known counters permit, and that a set is consistent where the others' sent counters permit each of its checkpoints.
use mathlib.Core.Path.{◌≡◌}
use mathlib.Core.Bool.{true, false}
use Prim.Native.Nat.{ℕ, ◌≤◌, ◌<◌}
use native.Mathlib.Decide.{ℕ_discrete}
use native.Mathlib.Omega.{arith}
use borrow.Author.Tests.{leb-true, le-leb, leb-false, lt-leb}
use lib.Dec.{leb}
use Rattle.line_theory.specs.Sets.{View, IsBook, IsSet, Consistent}
use Rattle.line_theory.specs.Search.{permitted, sent_to}
use Rattle.line_theory.specs.Statements.{PermittedIsConsistent}
use Rattle.lists.proofs.Over.{all_in, all_out, all_not, all_witness}

module _ (n : ℕ) (row known : ℕ → ℕ) where
  pub permitted_in : permitted n row known ≡ true → (p : ℕ) → p < n → row p ≤ known p
  unfolding permitted
  permitted_in h p m = leb-true (row p) (known p) (all_in n (λ p. leb (row p) (known p)) h p m)

  pub permitted_out : ((p : ℕ) → p < n → row p ≤ known p) → permitted n row known ≡ true
  unfolding permitted
  permitted_out h = all_out n (λ p. leb (row p) (known p)) (λ p m. le-leb (row p) (known p) (h p m))

  pub refused_by : (p : ℕ) → p < n → known p < row p → permitted n row known ≡ false
  unfolding permitted
  refused_by p m h = all_not n (λ p. leb (row p) (known p)) p m (lt-leb (row p) (known p) h)

  pub refused_witness : permitted n row known ≡ false → (p : ℕ) × (p < n) × (known p < row p)
  unfolding permitted
  refused_witness h =
      let w = all_witness n (λ p. leb (row p) (known p)) h in
      (w.0, w.1, leb-false (row w.0) (known w.0) w.2)

-- of any set of numbers
pub permits_consistent : (v : View) (c : ℕ → ℕ)
    → ((j : ℕ) → j < v.n → permitted v.n (v.R j (c j)) (sent_to v c j) ≡ true) → Consistent v c
permits_consistent v c h j p m n other = permitted_in v.n (v.R j (c j)) (sent_to v c j) (h j m) p n

-- and back, in a book: no checkpoint has received anything from its own process
pub consistent_is_permitted : (m : ℕ) (v : View) (c : ℕ → ℕ) → IsBook m v → IsSet v c → Consistent v c
    → (j : ℕ) → j < v.n → permitted v.n (v.R j (c j)) (sent_to v c j) ≡ true
consistent_is_permitted m v c book there pairwise j k =
    permitted_out v.n (v.R j (c j)) (sent_to v c j) (λ p l. elim (ℕ_discrete j p) [
      | yes e ↦
          let own : v.R j (c j) j ≡ 0 = (book.own j (c j) k (there.some j k) (there.among j k)).1 in
          rw (← e, own) (omega arith)
      | no e ↦ pairwise j p k l e
    ])

pub permitted_is_consistent : PermittedIsConsistent
permitted_is_consistent m v c book there = (permits_consistent v c, consistent_is_permitted m v c book there)
