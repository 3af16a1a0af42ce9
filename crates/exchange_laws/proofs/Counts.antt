-- How many pairs news has.
use mathlib.Core.Path.{◌≡◌, refl, sym, ap, ◌∙◌}
use mathlib.Core.Bool.{Bool}
use mathlib.Core.List.{List}
use Prim.Native.Nat.{ℕ, zero, suc, ◌+◌, ◌-◌, ◌≤◌, ◌<◌}
use native.Mathlib.Nat.{zero-add}
use native.Mathlib.Decide.{dec_lt}
use native.Mathlib.Omega.{arith}
use borrow.Author.Tests.{lt-ltb, le-ltb, eq-eqb, ne_eqb}
use lib.Dec.{ltb}
use Rattle.book.specs.declared.Count.{Count}
use Rattle.book.specs.Bounds.{mark}
use Rattle.lists.specs.Over.{sum_to}
use Rattle.lists.proofs.Over.{sum_ext, sum_at, sum_less}
use Rattle.consistency.specs.Known.{counters}
use Rattle.lists.specs.Pick.{pick}
use Rattle.matrix.specs.Matrix.{is_pair}
use Rattle.matrix.specs.Entries.{is_news}
use Rattle.message.specs.Layout.{pair_count}
use Rattle.machine_laws.proofs.Pairs.{is_pair_lem, absent_no_pair, self_no_pair}
use Rattle.initiator_laws.proofs.Sends.{sum_none}

-- one where the test says yes
abbrev one : Bool → ℕ
one t = pick t 1 0

abbrev told : List Count → ℕ → ℕ
told news p = one (is_news (counters news p))

module _ (news : List Count) (p : ℕ) where
  told_some : (counters news p ≡ mark → ⊥) → told news p ≡ 1
  told_some ne = rw (ne_eqb (counters news p) mark ne)

  told_none : counters news p ≡ mark → told news p ≡ 0
  told_none e = rw (eq-eqb (counters news p) mark e)

-- some pair
pub some_pair : (news : List Count) (p : ℕ) → p < 16 → (counters news p ≡ mark → ⊥) → 1 ≤ pair_count news
some_pair news p h ne = omega (arith, told_some news p ne, sum_at 16 (told news) p h)

-- one pair alone
pub one_pair : (news : List Count) (p : ℕ) → p < 16 → (counters news p ≡ mark → ⊥)
    → ((k : ℕ) → k < 16 → (k ≡ p → ⊥) → counters news k ≡ mark) → pair_count news ≡ 1
one_pair news p h ne others =
    let none : ℕ → ℕ = λ k. 0 in
    omega (arith, sum_none 16, sum_less 16 p (told news) none h (omega (arith, told_some news p ne)) (λ k i other. sym (told_none news k (others k i other))))

-- ---- a pair for every other process

there : ℕ → ℕ → ℕ
there n p = one (ltb p n)

-- the first k of n processes, and all of them
sum_there : (n k : ℕ) → k ≤ n → sum_to k (there n) ≡ k
unfolding sum_to there
sum_there n zero h = refl
sum_there n (suc k) h = rw (sum_there n k (omega arith), lt-ltb k n h) (omega arith)

sum_all : (n d : ℕ) → sum_to (d + n) (there n) ≡ n
unfolding sum_to there
sum_all n zero = rw (zero-add n) (sum_there n n (omega arith))
sum_all n (suc d) =
    let e : suc d + n ≡ suc (d + n) = omega arith in rw (e, sum_all n d, le-ltb (d + n) n (omega arith)) (omega arith)

pub count_pairs : (n j : ℕ) → j < n → n ≤ 16 → sum_to 16 (λ p. one (is_pair n j p)) ≡ n - 1
unfolding there
count_pairs n j h few =
    let pairs : ℕ → ℕ = λ p. one (is_pair n j p) in
    let all : sum_to 16 (there n) ≡ n = let e : 16 - n + n ≡ 16 = omega arith in rw e at (sum_all n (16 - n)) in
    let less = sum_less 16 j (there n) pairs (omega arith) (rw (self_no_pair n j, lt-ltb j n h)) others in
    omega (arith, all, less)
  where
    others : (p : ℕ) → p < 16 → (p ≡ j → ⊥) → one (is_pair n j p) ≡ there n p
    others p i ne = elim (dec_lt p n) [
      | yes m ↦ rw (is_pair_lem n j p h m (λ e. ne (sym e)), lt-ltb p n m)
      | no m ↦ rw (absent_no_pair n j p (omega arith), le-ltb p n (omega arith))
    ]

pub every_pair : (n j : ℕ) (news : List Count) → j < n → n ≤ 16 → ((p : ℕ) → p < 16 → is_news (counters news p) ≡ is_pair n j p)
    → pair_count news ≡ n - 1
every_pair n j news h few each =
    sum_ext 16 (told news) (λ p. one (is_pair n j p)) (λ p i. ap one (each p i)) ∙ count_pairs n j h few
