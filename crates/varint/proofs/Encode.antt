-- The bytes of a number, for every number: their two equations, how many they are, and that they are bytes.
-- Assumes nothing.
use mathlib.Core.Path.{◌≡◌}
use mathlib.Core.List.{[], ◌∷◌}
use Prim.Native.Nat.{ℕ, zero, suc, ◌+◌, ◌*◌, ◌^◌, ◌/◌, ◌%◌, ◌≤◌, ◌<◌}
use native.Mathlib.Nat.{pow-suc}
use native.Mathlib.Decide.{dec_lt}
use native.Mathlib.Omega.{arith}
use borrow.Author.Tests.{lt-ltb, le-ltb}
use lib.ListN.{length}
use lib.Dec.{T}
use lib.Pow.{are_bytes}
use Rattle.varint.specs.Number.{groups_of, encode}
use Rattle.varint.proofs.Bytes.{bytes_cons}

groups_last : (f n : ℕ) → n < 128 → groups_of (suc f) n ≡ n ∷ []
unfolding groups_of
groups_last f n h = rw (lt-ltb n 128 h, groups_of)

groups_more : (f n : ℕ) → 128 ≤ n → groups_of (suc f) n ≡ (n % 128 + 128) ∷ groups_of f (n / 128)
unfolding groups_of
groups_more f n h = rw (le-ltb n 128 h, groups_of)

-- any fuel above the number serves
groups_fuel : (f g n : ℕ) → n < f → n < g → groups_of f n ≡ groups_of g n
groups_fuel zero g n h k = absurd (omega arith)
groups_fuel (suc f) zero n h k = absurd (omega arith)
groups_fuel (suc f) (suc g) n h k =
    elim (dec_lt n 128) [
      | yes l ↦ rw (groups_last f n l, groups_last g n l)
      | no l ↦
          let m : 128 ≤ n = omega arith in
          let hf : n / 128 < f = omega arith in
          let hg : n / 128 < g = omega arith in
          rw (groups_more f n m, groups_more g n m, groups_fuel f g (n / 128) hf hg)
    ]

-- a number of one group
pub encode_last : (n : ℕ) → n < 128 → encode n ≡ n ∷ []
unfolding encode
encode_last n h = groups_last n n h

-- the lowest group with its top bit set, then the groups of the rest
pub encode_more : (n : ℕ) → 128 ≤ n → encode n ≡ (n % 128 + 128) ∷ encode (n / 128)
unfolding encode
encode_more n h =
    let hf : n / 128 < n = omega arith in
    let hg : n / 128 < suc (n / 128) = omega arith in
    rw (groups_more n n h, groups_fuel n (suc (n / 128)) (n / 128) hf hg)

-- a number takes a byte at least
pub encode_some : (n : ℕ) → 1 ≤ length (encode n)
encode_some n =
    elim (dec_lt n 128) [
      | yes l ↦ rw (encode_last n l) (omega arith)
      | no l ↦ let m : 128 ≤ n = omega arith in rw (encode_more n m) (omega arith)
    ]

-- what is below 128 ^ g takes at most g bytes
pub encode_size : (g n : ℕ) → 1 ≤ g → n < 128 ^ g → length (encode n) ≤ g
encode_size zero n h k = absurd (omega arith)
encode_size (suc zero) n h k = rw (encode_last n k) (omega arith)
encode_size (suc (suc g)) n h k =
    elim (dec_lt n 128) [
      | yes l ↦ rw (encode_last n l) (omega arith)
      | no l ↦
          let m : 128 ≤ n = omega arith in
          let p : n < 128 ^ suc g * 128 = rw (pow-suc 128 (suc g)) at k in
          let q : n / 128 < 128 ^ suc g = omega arith in
          let ih : length (encode (n / 128)) ≤ suc g = encode_size (suc g) (n / 128) (omega arith) q in
          rw (encode_more n m) (omega arith)
    ]

groups_bytes : (f n : ℕ) → T (are_bytes (groups_of f n))
unfolding groups_of
groups_bytes zero n = tt
groups_bytes (suc f) n =
    elim (dec_lt n 128) [
      | yes l ↦ rw (groups_last f n l) (bytes_cons n [] (omega arith) tt)
      | no l ↦
          let m : 128 ≤ n = omega arith in
          rw (groups_more f n m) (bytes_cons (n % 128 + 128) (groups_of f (n / 128)) (omega arith) (groups_bytes f (n / 128)))
    ]

-- each group is a byte
pub encode_bytes : (n : ℕ) → T (are_bytes (encode n))
unfolding encode
encode_bytes n = groups_bytes (suc n) n
