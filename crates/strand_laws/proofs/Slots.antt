-- Where the slots lie: two participants' slots do not meet, and each lies in the room for all.
use mathlib.Core.Path.{◌≡◌}
use mathlib.Core.Logic.{◌⊎◌, inl, inr}
use Prim.Native.Nat.{ℕ, ◌+◌, ◌-◌, ◌*◌, ◌≤◌, ◌<◌}
use native.Mathlib.Decide.{dec_lt}
use native.Mathlib.Nat.{add-mul, mul_comm, mul-le-mul_left}
use native.Mathlib.Omega.{arith}
use borrow.Author.Tests.{lt-ltb, le-ltb}
use lib.Dec.{ltb}
use Rattle.lists.specs.Pick.{pick}
use Rattle.strands.specs.Strands.{slot_size, strand_start, room_for_all}
use Rattle.strand_laws.proofs.Runs.{Apart}

-- which slot is k's, from 0
abbrev place : ℕ → ℕ → ℕ
place i k = pick (ltb i k) (k - 1) k

-- a slot ends where a later one begins, or before
slot_end : (a b s : ℕ) → a < b → a * s + s ≤ b * s
slot_end a b s h =
    omega (arith, mul-le-mul_left {m = a + 1} {n = b} s (omega arith), mul_comm s (a + 1), mul_comm s b, add-mul a 1 s)

module _ (i k : ℕ) where
  place_before : k < i → place i k ≡ k
  place_before h = rw (le-ltb i k (omega arith))

  place_behind : i < k → place i k ≡ k - 1
  place_behind h = rw (lt-ltb i k h)

-- the initiator's is left out
abbrev Placing : ℕ → ℕ → Type 0
Placing i k = ((place i k ≡ k) × (k < i)) ⊎ ((place i k + 1 ≡ k) × (i < k))

place_of : (i k : ℕ) → (k ≡ i → ⊥) → Placing i k
place_of i k other =
    elim (dec_lt k i) [
      | yes h ↦ inl (place_before i k h, h)
      | no h ↦ let b : i < k = elim (dec_lt i k) [ yes b ↦ b | no b ↦ absurd (other (omega arith)) ] in
          inr (omega (arith, place_behind i k b), b)
    ]

place_less : (i k q : ℕ) → (k ≡ i → ⊥) → (q ≡ i → ⊥) → k < q → place i k < place i q
place_less i k q ki qi h = go (place_of i k ki) (place_of i q qi) where
  go : Placing i k → Placing i q → place i k < place i q
  go (inl a) (inl b) = omega arith
  go (inl a) (inr b) = omega arith
  go (inr a) (inl b) = omega arith
  go (inr a) (inr b) = omega arith

place_in : (n i k : ℕ) → (k ≡ i → ⊥) → i < n → k < n → place i k < n - 1
place_in n i k other hi hk = go (place_of i k other) where
  go : Placing i k → place i k < n - 1
  go (inl a) = omega arith
  go (inr a) = omega arith

-- two participants' slots
pub slots_apart :
    (n i k q m m' : ℕ) → (k ≡ i → ⊥) → (q ≡ i → ⊥) → (k ≡ q → ⊥) → m ≤ slot_size n → m' ≤ slot_size n
    → Apart (strand_start n i k) m (strand_start n i q) m'
slots_apart n i k q m m' ki qi kq h h' =
    elim (dec_lt k q) [
      | yes b ↦ inl (omega (arith, slot_end (place i k) (place i q) (slot_size n) (place_less i k q ki qi b)))
      | no b ↦ let c : q < k = elim (dec_lt q k) [ yes c ↦ c | no c ↦ absurd (kq (omega arith)) ] in
          inr (omega (arith, slot_end (place i q) (place i k) (slot_size n) (place_less i q k qi ki c)))
    ]

-- a participant's slot lies in the room for all
pub slot_within :
    (n i k m : ℕ) → (k ≡ i → ⊥) → i < n → k < n → m ≤ slot_size n → strand_start n i k + m ≤ room_for_all n
slot_within n i k m other hi hk h =
    omega (arith, slot_end (place i k) (n - 1) (slot_size n) (place_in n i k other hi hk))
