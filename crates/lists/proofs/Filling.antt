-- A loop that fills an array place by place: its one invariant, and what the array is in the end.
use mathlib.Core.Path.{◌≡◌, refl, ◌∙◌}
use mathlib.Core.List.{List}
use Prim.Native.Nat.{ℕ, ◌+◌, ◌≤◌, ◌<◌}
use native.Mathlib.Decide.{dec_lt}
use native.Mathlib.Omega.{arith}
use borrow.Author.Tests.{lt-ltb, le-ltb}
use lib.ListN.{length, get_or, set, replicate, length-set, length-replicate}
use lib.Seq.{get_or-set_same, get_or-set_other}
use lib.Dec.{ltb}
use Rattle.lists.specs.Over.{tab}
use Rattle.lists.specs.Pick.{pick}
use Rattle.lists.proofs.Over.{tab_is, replicate_at}
use Rattle.lists.proofs.Before.{below_more}

-- k of the first n places have the values of f, the others what they had before; `d` is what a place past the end would read
pub record Filled {A : Type 0} (d : A) (before : List A) (n : ℕ) (f : ℕ → A) (l : List A) (k : ℕ) : Type 0 where
  pub room : n ≤ length before
  pub within : k ≤ n
  pub long : length l ≡ length before
  pub done : (i : ℕ) → i < k → get_or l i d ≡ f i
  pub rest : (i : ℕ) → k ≤ i → get_or l i d ≡ get_or before i d

-- ---- the loop begins

module _ {A : Type 0} {d : A} {before : List A} {n : ℕ} {f : ℕ → A} where
  pub filled_none : n ≤ length before → Filled d before n f before 0
  filled_none h =
      record { room = h; within = omega arith; long = refl; done = λ i m. absurd (omega arith); rest = λ i m. refl }

  -- at a place before which every place has its value already
  pub filled_from : {k : ℕ} → n ≤ length before → k ≤ n → ((i : ℕ) → i < k → get_or before i d ≡ f i) → Filled d before n f before k
  filled_from h m there = record { room = h; within = m; long = refl; done = there; rest = λ i m. refl }

-- ---- and goes on

module _ {A : Type 0} {d : A} {before : List A} {n : ℕ} {f : ℕ → A} {l : List A} {k : ℕ} (filled : Filled d before n f l k) where
  -- one place more is written
  pub filled_more : k < n → {v : A} → v ≡ f k → Filled d before n f (set l k v) (k + 1)
  filled_more h {v} here =
      record {
        room = filled.room;
        within = omega arith;
        long = simp length-set filled.long;
        done = below_more (λ i. get_or (set l k v) i d ≡ f i) k (λ i m. other i (λ e. absurd (omega arith)) ∙ filled.done i m)
            (get_or-set_same l k v d (omega (arith, filled.long, filled.room)) ∙ here);
        rest = λ i m. other i (λ e. absurd (omega arith)) ∙ filled.rest i (omega arith);
      }
    where
      other : (i : ℕ) → (i ≡ k → ⊥) → get_or (set l k v) i d ≡ get_or l i d
      other i ne = get_or-set_other l k i v d ne

  -- it stays as it was, since it has its value already
  pub filled_kept : k < n → get_or before k d ≡ f k → Filled d before n f l (k + 1)
  filled_kept h here =
      record {
        room = filled.room;
        within = omega arith;
        long = filled.long;
        done = below_more (λ i. get_or l i d ≡ f i) k filled.done (filled.rest k (omega arith) ∙ here);
        rest = λ i m. filled.rest i (omega arith);
      }

  -- the same values said another way
  pub filled_as : {g : ℕ → A} → ((i : ℕ) → i < n → f i ≡ g i) → Filled d before n g l k
  filled_as same =
      record {
        room = filled.room;
        within = filled.within;
        long = filled.long;
        done = λ i m. filled.done i m ∙ same i (omega (arith, filled.within));
        rest = filled.rest;
      }

  -- ---- in the end

  -- what stands at a place
  pub filled_at : n ≤ k → (i : ℕ) → get_or l i d ≡ pick (ltb i n) (f i) (get_or before i d)
  filled_at h i =
      elim (dec_lt i n) [
        | yes m ↦ rw (lt-ltb i n m) (filled.done i (omega (arith, filled.within)))
        | no m ↦ rw (le-ltb i n (omega arith)) (filled.rest i (omega (arith, filled.within)))
      ]

  -- every place has its value: the array is the table of the function
  pub filled_to : length before ≡ n → ((i : ℕ) → k ≤ i → i < n → get_or before i d ≡ f i) → l ≡ tab n f
  filled_to e there =
      tab_is d n f l (filled.long ∙ e)
      (λ i m. elim (dec_lt i k) [ yes h ↦ filled.done i h | no h ↦ filled.rest i (omega arith) ∙ there i (omega arith) m ])

  -- and is written
  pub filled_all : length before ≡ n → n ≤ k → l ≡ tab n f
  filled_all e h = filled_to e (λ i m o. absurd (omega arith))

-- the first n are written, into an array of one value
pub filled_part : {A : Type 0} {d : A} (size : ℕ) {n : ℕ} {f : ℕ → A} {l : List A} {k : ℕ} → Filled d (replicate size d) n f l k → n ≤ k
    → l ≡ tab size (λ i. pick (ltb i n) (f i) d)
filled_part {A} {d} size {n} {f} {l} filled h =
    tab_is d size (λ i. pick (ltb i n) (f i) d) l (filled.long ∙ length-replicate size d)
    (λ i m. rw (replicate_at size d i) at (filled_at filled h i))
