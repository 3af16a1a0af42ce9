-- The end of a number, above the groups that went before.
use Rattle.std.specs.Prelude.{ℕ, ◌+◌, ◌*◌, ◌^◌, ◌≤◌, ◌<◌, eqb, Option, Some, None}
use Rattle.varint.specs.Number.{last_group, at_most}

-- a number above `shift` bits that make `value`
abbrev pub above_bits : ℕ → ℕ → Option (ℕ × ℕ) → Option (ℕ × ℕ)
above_bits value shift None = None
above_bits value shift (Some (high, next)) = Some (value + high * 2 ^ shift, next)

-- `value` is of `shift` bits, and 64 hold the last group above them
pub record Ending (shift value b : ℕ) : Type 0 where
  pub bits : shift + 7 ≤ 64
  pub small : value < 2 ^ shift
  pub last : b < 128

-- the number that the last group b makes, if the limit allows it; no bits below are no groups before
unfoldable pub ended_by : ℕ → ℕ → ℕ → ℕ → ℕ → Option (ℕ × ℕ)
ended_by shift limit value b next = at_most limit (above_bits value shift (last_group (eqb shift 0) b next))
