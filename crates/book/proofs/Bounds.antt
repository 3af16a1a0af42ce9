-- How the bounds of `specs/Bounds.antt` stand to one another: computed here, and cited by their names.
use Prim.Native.Nat.{◌^◌, ◌≤◌, ◌<◌}
use native.Mathlib.Omega.{arith}
use Rattle.book.specs.Bounds.{groups, largest, mark}

-- a number takes one group or more, and the largest no more than there are
pub groups_some : 1 ≤ groups
groups_some = omega arith

pub largest_fits : largest < 128 ^ groups
largest_fits = omega arith

-- the mark is a number that can be written
pub mark_most : mark ≤ largest
mark_most = omega arith
