-- The loops that write and that measure a number: what is done, followed by the bytes of what is left, is the whole.
-- Assumes nothing.
use Rattle.std.specs.Prelude.{Some, None}
use mathlib.Core.Path.{◌≡◌, refl, ap, ◌∙◌}
use mathlib.Core.List.{List, ◌++◌, append_assoc}
use Prim.Native.Nat.{ℕ, suc, ◌+◌, ◌^◌, ◌/◌, ◌%◌, ◌≤◌, ◌<◌}
use native.Mathlib.Numerals.{add-one}
use native.Mathlib.Omega.{arith}
use borrow.Author.Tests.{le-leb, lt-leb}
use lib.ListN.{length, take, drop, set, length-set}
use lib.Seq.{sets, sets-eq, drop_at, length-take-le}
use lib.Bits.{bit_and, bit_or, and_mask, mask_lt, or_lt, or_shifted_r}
use Rattle.varint.specs.Number.{encode}
use Rattle.varint.specs.Write.{place_after, number_put}
use Rattle.varint.proofs.Encode.{encode_last, encode_more, encode_some, encode_size}

-- ---- groups by masks and shifts

-- the lowest seven bits
pub low_group : (n : ℕ) → bit_and n 127 ≡ n % 128
low_group n = and_mask n 7

-- the lowest group with its top bit set
marked_group : (n : ℕ) → bit_or (bit_and n 127) 128 ≡ n % 128 + 128
marked_group n =
    let h : n % 128 < 2 ^ 7 = omega arith in
    rw (low_group n) (or_shifted_r 1 7 (n % 128) h ∙ omega arith)

-- a group with any top bit is a byte
pub group_byte : (n top : ℕ) → top < 256 → bit_or (bit_and n 127) top < 256
group_byte n top h = or_lt 8 (bit_and n 127) top (omega (arith, mask_lt n 7)) h

-- ten bytes are the most that 64 bits take
pub size_most : (v : ℕ) → v < 2 ^ 64 → length (encode v) ≤ 10
size_most v h = encode_size 10 v (omega arith) (omega arith)

-- ---- how many bytes

-- n counts the byte of each group so far and of the last one
pub record Counted (v left n : ℕ) : Type 0 where
  pub total : n + length (encode left) ≡ length (encode v) + 1
  pub most : n ≤ length (encode v)

pub counted_begun : (v : ℕ) → Counted v v 1
counted_begun v = let h : 1 ≤ length (encode v) = encode_some v in record { total = omega arith; most = h }

pub counted_more : (v left n : ℕ) → 128 ≤ left → Counted v left n → Counted v (left / 128) (n + 1)
counted_more v left n h r =
    let e : length (encode left) ≡ suc (length (encode (left / 128))) = ap length (encode_more left h) in
    let k : 1 ≤ length (encode (left / 128)) = encode_some (left / 128) in
    let t : n + length (encode left) ≡ length (encode v) + 1 = r.total in
    record { total = omega arith; most = omega arith }

pub counted_ended : (v left n : ℕ) → left < 128 → Counted v left n → n ≡ length (encode v)
counted_ended v left n h r =
    let e : length (encode left) ≡ 1 = ap length (encode_last left h) in
    let t : n + length (encode left) ≡ length (encode v) + 1 = r.total in
    omega arith

-- ---- the bytes themselves, written into `out` from `at` on

-- with the bytes of what is left written from i on, `out` is what it is to become
pub record Put (v : ℕ) (out₀ : List ℕ) (at : ℕ) (out : List ℕ) (left i : ℕ) : Type 0 where
  pub bytes : sets out i (encode left) ≡ sets out₀ at (encode v)
  pub place : i + length (encode left) ≡ at + length (encode v)
  pub same : length out ≡ length out₀
  pub inside : i < length out

pub put_begun : (v : ℕ) (out : List ℕ) (at : ℕ) → at + length (encode v) ≤ length out → Put v out at out v at
put_begun v out at h =
    let k : 1 ≤ length (encode v) = encode_some v in record { bytes = refl; place = refl; same = refl; inside = omega arith }

pub put_more : (v : ℕ) (out₀ : List ℕ) (at : ℕ) (out : List ℕ) (left i : ℕ) → at + length (encode v) ≤ length out₀ → 128 ≤ left
    → Put v out₀ at out left i → Put v out₀ at (set out i (bit_or (bit_and left 127) 128)) (left / 128) (i + 1)
put_more v out₀ at out left i room h r =
    let e : length (encode left) ≡ suc (length (encode (left / 128))) = ap length (encode_more left h) in
    let k : 1 ≤ length (encode (left / 128)) = encode_some (left / 128) in
    let l : length (set out i (left % 128 + 128)) ≡ length out = length-set out i (left % 128 + 128) in
    let p : i + length (encode left) ≡ at + length (encode v) = r.place in
    let s : length out ≡ length out₀ = r.same in
    rw (marked_group left)
    record {
      bytes = rw (add-one i) (rw (encode_more left h) at r.bytes);
      place = omega arith;
      same = l ∙ s;
      inside = omega arith;
    }

pub put_ended : (v : ℕ) (out₀ : List ℕ) (at : ℕ) (out : List ℕ) (left i : ℕ) → left < 128 → Put v out₀ at out left i
    → (i + 1 ≡ at + length (encode v)) × (set out i left ≡ sets out₀ at (encode v))
put_ended v out₀ at out left i h r =
    let e : length (encode left) ≡ 1 = ap length (encode_last left h) in
    let p : i + length (encode left) ≡ at + length (encode v) = r.place in
    (omega arith, rw (encode_last left h) at r.bytes)

-- from the place where bytes were written, they stand, and then what stood behind them
pub drop_sets : (vs out : List ℕ) (at : ℕ) → at + length vs ≤ length out → drop at (sets out at vs) ≡ vs ++ drop (at + length vs) out
drop_sets vs out at h =
    let l : length (take at out) ≡ at = length-take-le at out (omega arith) in
    rw (sets-eq vs out at h, append_assoc (take at out) vs (drop (at + length vs) out), drop_at (take at out) (vs ++ drop (at + length vs) out) at l)

-- ---- where there is room, and where there is none

pub place_room : (v : ℕ) (out : List ℕ) (at : ℕ) → at + length (encode v) ≤ length out → place_after v out at ≡ Some (at + length (encode v))
unfolding place_after
place_room v out at h = rw (le-leb (at + length (encode v)) (length out) h, place_after)

pub place_full : (v : ℕ) (out : List ℕ) (at : ℕ) → length out < at + length (encode v) → place_after v out at ≡ None
unfolding place_after
place_full v out at h = rw (lt-leb (at + length (encode v)) (length out) h, place_after)

pub bytes_room : (v : ℕ) (out : List ℕ) (at : ℕ) → at + length (encode v) ≤ length out → number_put v out at ≡ sets out at (encode v)
unfolding number_put
bytes_room v out at h = rw (le-leb (at + length (encode v)) (length out) h, number_put)

pub bytes_full : (v : ℕ) (out : List ℕ) (at : ℕ) → length out < at + length (encode v) → number_put v out at ≡ out
unfolding number_put
bytes_full v out at h = rw (lt-leb (at + length (encode v)) (length out) h, number_put)
