-- `varint::read_short` meets its contract.
-- Assumes nothing.
use native.Mathlib.Omega.{arith}
use borrow.Author.Tests.{leb-true}
use Rattle.varint.proofs.read_short.Goals as goal

pub read_five-requires : goal.read_five-requires
read_five-requires c = omega (arith, leb-true)
