-- Reading a number group by group: what the groups so far make, joined to the number of the groups to come, is the whole.
-- Assumes nothing.
use Rattle.std.specs.Prelude.{Option, Some, None}
use mathlib.Core.Bool.{true, false}
use mathlib.Core.Path.{◌≡◌, refl, sym, ap, ◌∙◌}
use mathlib.Core.List.{List, ◌∷◌}
use Prim.Native.Nat.{ℕ, zero, suc, ◌+◌, ◌-◌, ◌*◌, ◌^◌, ◌%◌, ◌≤◌, ◌<◌}
use native.Mathlib.Nat.{add-mul, mul_assoc, mul_comm, add_comm}
use native.Mathlib.Numerals.{add-one}
use native.Mathlib.Omega.{arith}
use borrow.Author.Tests.{ne_eqb, eqb-false}
use lib.ListN.{length, drop, get_or, drop_of_length-le}
use lib.Seq.{drop-cons}
use lib.Dec.{eqb}
use lib.Arith.{digits_lt}
use lib.Bits.{bit_and, bit_or, mask_lt, or_shifted_r}
use lib.Pow.{pow-add, shl_exact}
use Rattle.varint.specs.Ending.{above_bits, Ending, ended_by}
use Rattle.varint.specs.Number.{above, at_most, read_groups, read_number}
use Rattle.varint.proofs.Reading.{groups_none, groups_last, groups_more, last_some, at_most_in, at_most_over}
use Rattle.varint.proofs.WriteTurns.{low_group}

joined_none : (r : Option (ℕ × ℕ)) → r ≡ above_bits 0 0 r
joined_none None = refl
joined_none (Some (high, next)) = let e : high ≡ 0 + high * 1 = omega arith in ap (λ (v : ℕ). Some (v, next)) e

joined_above : (value shift low : ℕ) (r : Option (ℕ × ℕ)) → above_bits value shift (above low r) ≡ above_bits (value + low * 2 ^ shift) (shift + 7) r
joined_above value shift low None = refl
joined_above value shift low (Some (high, next)) =
    let p : high * 128 * 2 ^ shift ≡ high * 2 ^ (shift + 7)
    = mul_assoc high 128 (2 ^ shift) ∙ ap (λ (x : ℕ). high * x) (mul_comm 128 (2 ^ shift) ∙ sym (pow-add 2 shift 7)) in
    let q : (low + high * 128) * 2 ^ shift ≡ low * 2 ^ shift + high * 128 * 2 ^ shift = add-mul low (high * 128) (2 ^ shift) in
    let e : value + (low + high * 128) * 2 ^ shift ≡ value + low * 2 ^ shift + high * 2 ^ (shift + 7) = omega arith in
    ap (λ (v : ℕ). Some (v, next)) e

-- a group joined above `shift` bits by a shift and an or
join_group : (value shift low : ℕ) → value < 2 ^ shift → low < 128 → shift + 7 ≤ 64
    → bit_or value (low * 2 ^ shift % 2 ^ 64) ≡ value + low * 2 ^ shift
join_group value shift low h k m =
    rw (shl_exact {a = low} 7 shift 64 k (omega arith), or_shifted_r low shift value h) (omega arith)

-- ---- the end of a number

-- what is not zero is one at least
pub not_zero : (b : ℕ) → (b ≡ 0 → ⊥) → 1 ≤ b
not_zero zero f = absurd (f refl)
not_zero (suc b) f = omega arith

module _ (shift limit value b next : ℕ) where
  -- a last group of zero after others
  pub end_zero : b ≡ 0 → 0 < shift → None ≡ ended_by shift limit value b next
  unfolding ended_by
  end_zero z after = let first : eqb shift 0 ≡ false = ne_eqb shift 0 (λ e. omega arith) in rw (first, z)

  module _ (e : Ending shift value b) (shortest : 0 < shift → 1 ≤ b) where
    -- a last group makes the number, if the limit allows it
    whole : ended_by shift limit value b next ≡ at_most limit (Some (bit_or value (b * 2 ^ shift % 2 ^ 64), next))
    unfolding ended_by
    whole =
        let some : eqb shift 0 ≡ false → 1 ≤ b = λ f. shortest (not_zero shift (eqb-false shift 0 f)) in
        rw (last_some (eqb shift 0) b next some, join_group value shift b e.small e.last e.bits)

    pub end_over : limit < bit_or value (b * 2 ^ shift % 2 ^ 64) → None ≡ ended_by shift limit value b next
    end_over over = sym (whole ∙ at_most_over limit (bit_or value (b * 2 ^ shift % 2 ^ 64)) next over)

    pub end_in : bit_or value (b * 2 ^ shift % 2 ^ 64) ≤ limit
        → Some (bit_or value (b * 2 ^ shift % 2 ^ 64), next) ≡ ended_by shift limit value b next
    end_in under = sym (whole ∙ at_most_in limit (bit_or value (b * 2 ^ shift % 2 ^ 64)) next under)

-- ---- the groups of a number

-- after k groups, at place i: they make `value`, of `shift` bits
pub record Sofar (s : List ℕ) (at groups value shift k i : ℕ) : Type 0 where
  pub turns : k ≤ groups
  pub bits : shift ≡ 7 * k
  pub small : value < 2 ^ shift
  pub whole : read_groups groups true (drop at s) at ≡ above_bits value shift (read_groups (groups - k) (eqb k 0) (drop i s) i)

pub sofar_begun : (s : List ℕ) (at groups : ℕ) → Sofar s at groups 0 0 0 at
sofar_begun s at groups =
    let all : groups - 0 ≡ groups = omega arith in
    record { turns = omega arith; bits = omega arith; small = omega arith; whole = rw all (joined_none (read_groups groups true (drop at s) at)) }

-- the bytes end before the number does
pub turn_short : (s : List ℕ) (at groups limit value shift k i : ℕ) → length s ≤ i → Sofar s at groups value shift k i
    → None ≡ read_number groups limit s at
unfolding read_number
turn_short s at groups limit value shift k i h r =
    rw (r.whole, drop_of_length-le s {i = i} h, groups_none (groups - k) (eqb k 0) i)

-- no group may follow, and yet the number goes on
pub turn_long : (s : List ℕ) (at groups limit value shift k i : ℕ) → groups ≤ k → Sofar s at groups value shift k i
    → None ≡ read_number groups limit s at
unfolding read_number read_groups
turn_long s at groups limit value shift k i h r = let none : groups - k ≡ 0 = omega arith in rw (r.whole, none)

-- no group has no bits
first_group : (k : ℕ) → eqb k 0 ≡ eqb (7 * k) 0
first_group zero = refl
first_group (suc k) = rw (ne_eqb (suc k) 0 (λ e. omega arith), ne_eqb (7 * suc k) 0 (λ e. omega arith))

-- ---- a turn on a byte b

module _ (s : List ℕ) (at groups value shift k i b : ℕ) (byte : b ≡ get_or s i 0) (more : k < groups) (nine : groups ≤ 9)
    (inside : i < length s) (inv : Sofar s at groups value shift k i) where
  -- the byte is the next group
  split : read_groups groups true (drop at s) at
      ≡ above_bits value shift (read_groups (suc (groups - (k + 1))) (eqb k 0) (b ∷ drop (i + 1) s) i)
  split =
      let e : suc (groups - (k + 1)) ≡ groups - k = omega arith in
      rw (e, byte, add-one i, ← drop-cons s i 0 inside) inv.whole

  -- a last group
  pub turn_ending : b < 128 → Ending shift value b
  turn_ending small = record { bits = omega (arith, inv.bits); small = inv.small; last = small }

  pub turn_ended : (limit : ℕ) → b < 128 → ended_by shift limit value b (i + 1) ≡ read_number groups limit s at
  unfolding read_number ended_by
  turn_ended limit small =
      let same : eqb k 0 ≡ eqb shift 0 = rw inv.bits (first_group k) in
      rw (split, groups_last (groups - (k + 1)) (eqb k 0) b (drop (i + 1) s) i small, same)

  pub turn_zero : (limit : ℕ) → b ≡ 0 → 0 < k → None ≡ read_number groups limit s at
  turn_zero limit z after = end_zero shift limit value b (i + 1) z (omega (arith, inv.bits)) ∙ turn_ended limit (omega arith)

  pub turn_over : (limit : ℕ) → b < 128 → (0 < k → 1 ≤ b) → limit < bit_or value (b * 2 ^ shift % 2 ^ 64) → None ≡ read_number groups limit s at
  turn_over limit small shortest over =
      end_over shift limit value b (i + 1) (turn_ending small) (λ h. shortest (omega (arith, inv.bits))) over ∙ turn_ended limit small

  pub turn_last : (limit : ℕ) → b < 128 → (0 < k → 1 ≤ b) → bit_or value (b * 2 ^ shift % 2 ^ 64) ≤ limit
      → Some (bit_or value (b * 2 ^ shift % 2 ^ 64), i + 1) ≡ read_number groups limit s at
  turn_last limit small shortest under =
      end_in shift limit value b (i + 1) (turn_ending small) (λ h. shortest (omega (arith, inv.bits))) under ∙ turn_ended limit small

  -- a group that others follow
  pub turn_more : 128 ≤ b → b < 256 → Sofar s at groups (bit_or value (bit_and b 127 * 2 ^ shift % 2 ^ 64)) (shift + 7) (k + 1) (i + 1)
  turn_more big small =
      let low : ℕ = b - 128 in
      let group : bit_and b 127 ≡ low = low_group b ∙ omega arith in
      let bits : shift + 7 ≤ 64 = omega (arith, inv.bits) in
      let under : low < 128 = omega arith in
      let first : eqb (k + 1) 0 ≡ false = ne_eqb (k + 1) 0 (λ e. omega arith) in
      rw (group, join_group value shift low inv.small under bits)
      record {
        turns = omega arith;
        bits = omega (arith, inv.bits);
        small = rw (pow-add 2 shift 7, mul_comm (2 ^ shift) 128, add_comm value (low * 2 ^ shift)) (digits_lt under inv.small);
        whole = rw first
            (split
            ∙ ap (above_bits value shift) (groups_more (groups - (k + 1)) (eqb k 0) b (drop (i + 1) s) i big)
            ∙ joined_above value shift low (read_groups (groups - (k + 1)) false (drop (i + 1) s) (i + 1)));
      }

-- ---- five groups one after another, where five bytes are left

-- after k of them
pub record Five (s : List ℕ) (at value k : ℕ) : Type 0 where
  pub sofar : Sofar s at 5 value (7 * k) k (at + k)
  pub room : at + 5 ≤ length s

module _ (s : List ℕ) (at b : ℕ) (byte : b ≡ get_or s at 0) (room : at + 5 ≤ length s) where
  pub five_begun : (limit : ℕ) → b < 128 → ended_by 0 limit 0 b (at + 1) ≡ read_number 5 limit s at
  five_begun = turn_ended s at 5 0 0 0 at b byte (omega arith) (omega arith) (omega arith) (sofar_begun s at 5)

  -- the first group needs no shift
  pub five_first : 128 ≤ b → b < 256 → Five s at (bit_and b 127) 1
  five_first big small =
      let low : bit_and b 127 * 1 % 18446744073709551616 ≡ bit_and b 127 = omega (arith, mask_lt b 7) in
      record {
        sofar = rw low at (turn_more s at 5 0 0 0 at b byte (omega arith) (omega arith) (omega arith) (sofar_begun s at 5) big small);
        room = room;
      }

module _ (s : List ℕ) (at value k b : ℕ) (byte : b ≡ get_or s (at + k) 0) (more : k < 5) (inv : Five s at value k) where
  inside : at + k < length s
  inside = omega arith

  next : at + k + 1 ≡ at + (k + 1)
  next = omega arith

  pub five_ending : b < 128 → Ending (7 * k) value b
  five_ending = turn_ending s at 5 value (7 * k) k (at + k) b byte more (omega arith) inside inv.sofar

  pub five_ended : (limit : ℕ) → b < 128 → ended_by (7 * k) limit value b (at + (k + 1)) ≡ read_number 5 limit s at
  five_ended limit small = rw (← next) (turn_ended s at 5 value (7 * k) k (at + k) b byte more (omega arith) inside inv.sofar limit small)

  pub five_more : 128 ≤ b → b < 256 → Five s at (bit_or value (bit_and b 127 * 2 ^ (7 * k) % 2 ^ 64)) (k + 1)
  five_more big small =
      let bits : 7 * (k + 1) ≡ 7 * k + 7 = omega arith in
      record {
        sofar = rw (bits, ← next)
            (turn_more s at 5 value (7 * k) k (at + k) b byte more (omega arith) inside inv.sofar big small);
        room = inv.room;
      }
