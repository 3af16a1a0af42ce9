-- A search steps back over few checkpoints, so that its counts stay below their limit.
use mathlib.Core.List.{List}
use Prim.Native.Nat.{ℕ, ◌+◌, ◌-◌, ◌*◌, ◌≤◌, ◌<◌}
use native.Mathlib.Nat.{mul-le-mul}
use native.Mathlib.Omega.{arith}
use Rattle.book.proofs.Sums.{sum_of, sum_take}
use Rattle.line_theory.proofs.Accepted.{accepted_few}
use Rattle.line_theory.proofs.Theorems.{newer_is_distance}
use Rattle.machine.specs.Named.{tally_limit}
use Rattle.session_theory.proofs.Search.{Search, IsSearch, size, view_in, line_in, passed_in, most}
use Rattle.session_theory.proofs.Facts.{few, line_is}

module _ (g : Search) (is : IsSearch g) where
  pub passed_few : passed_in g ≤ 256
  passed_few =
      let counts : List ℕ = g.tables.shape.counts in
      omega (
        arith,
        newer_is_distance (view_in g) (line_in g) (line_is g is).is_set,
        sum_of counts (size g),
        sum_take counts (size g),
        accepted_few is.accepted,
      )

  pub most_few : most g < tally_limit
  most_few =
      let a : size g - 1 ≤ 15 = omega (arith, few g is) in
      let b : 2 * passed_in g + 5 ≤ 517 = omega (arith, passed_few) in
      omega (arith, mul-le-mul a b)
