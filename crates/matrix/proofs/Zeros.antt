-- The entries of a row that must be zero: those from a place on, and the one on the diagonal.
use mathlib.Core.Path.{◌≡◌, refl}
use mathlib.Core.Bool.{Bool, true, false, ◌||◌, and-true}
use mathlib.Core.List.{List}
use Prim.Native.Nat.{ℕ, ◌+◌, ◌≤◌, ◌<◌}
use native.Mathlib.Decide.{ℕ_discrete, dec_lt}
use native.Mathlib.Omega.{arith}
use borrow.Author.Tests.{lt-ltb, le-ltb, eq-eqb, ne_eqb}
use lib.Dec.{ltb, eqb}
use Rattle.book.specs.declared.Count.{Count}
use Rattle.lists.proofs.Over.{all_out, all_not, all_ext}
use Rattle.consistency.specs.Known.{counters}
use Rattle.lists.proofs.Before.{below_more}
use Rattle.matrix.specs.Matrix.{is_pair}
use Rattle.matrix.specs.Entries.{zero_from, rest_zero}

-- what `zero_from` asks of one entry
abbrev zero_at : ℕ → List Count → ℕ → Bool
zero_at from a p = ltb p from || eqb (counters a p) 0

-- the entries from a place up to another are zero
pub record Zeros (from : ℕ) (a : List Count) (p : ℕ) : Type 0 where
  pub passed : from ≤ p
  pub so_far : (i : ℕ) → i < p → from ≤ i → counters a i ≡ 0

pub zeros_none : (from : ℕ) (a : List Count) → Zeros from a from
zeros_none from a = record { passed = omega arith; so_far = λ i h m. absurd (omega arith) }

module _ (from : ℕ) (a : List Count) (p : ℕ) (z : Zeros from a p) where
  pub zeros_more : counters a p ≡ 0 → Zeros from a (p + 1)
  zeros_more e =
      record { passed = omega (arith, z.passed); so_far = below_more (λ i. from ≤ i → counters a i ≡ 0) p z.so_far (λ h. e) }

  pub zeros_fail : p < 16 → (counters a p ≡ 0 → ⊥) → zero_from from a ≡ false
  unfolding zero_from
  zeros_fail h ne = all_not 16 (zero_at from a) p h (rw (le-ltb p from z.passed, ne_eqb (counters a p) 0 ne))

  pub zeros_all : 16 ≤ p → zero_from from a ≡ true
  unfolding zero_from
  zeros_all h =
      all_out 16 (zero_at from a)
      (λ i m.
      elim (dec_lt i from) [
        | yes l ↦ rw (lt-ltb i from l)
        | no l ↦
            let at : from ≤ i = omega arith in
            rw (le-ltb i from at, eq-eqb (counters a i) 0 (z.so_far i (omega arith) at))
      ])

-- which entries of a row of process j those are
module _ (n j : ℕ) (a : List Count) where
  abbrev rest : ℕ → Bool
  rest p = is_pair n j p || eqb (counters a p) 0

  from_place : (from : ℕ) → ((p : ℕ) → p < 16 → rest p ≡ zero_at from a p) → rest_zero n j a ≡ zero_from from a
  unfolding rest_zero zero_from
  from_place from e = all_ext 16 rest (zero_at from a) e

  -- all, where j is absent
  pub rest_absent : n ≤ j → rest_zero n j a ≡ zero_from 0 a
  rest_absent h = from_place 0 (λ p m. rw (le-ltb j n h, le-ltb p 0 (omega arith)))

  -- those of absent processes, where the one on the diagonal is zero, or there is none
  pub rest_from : j < n → (j < 16 → counters a j ≡ 0) → rest_zero n j a ≡ zero_from n a
  rest_from h zero_there = from_place n at
    where
      at : (p : ℕ) → p < 16 → rest p ≡ zero_at n a p
      at p m =
          elim (ℕ_discrete j p) [
            | yes e ↦
                let z : counters a p ≡ 0 = rw e at (zero_there (omega arith)) in
                let there : p < n = omega arith in
                rw (lt-ltb j n h, lt-ltb p n there, eq-eqb j p e, eq-eqb (counters a p) 0 z)
            | no ne ↦ rw (lt-ltb j n h, ne_eqb j p ne, and-true (ltb p n))
          ]

  pub rest_fails : j < n → j < 16 → (counters a j ≡ 0 → ⊥) → rest_zero n j a ≡ false
  unfolding rest_zero
  rest_fails h m ne = all_not 16 rest j m (rw (lt-ltb j n h, eq-eqb j j refl, ne_eqb (counters a j) 0 ne))
