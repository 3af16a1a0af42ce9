-- `book::received_zeros` meets its contract.
use mathlib.Core.Path.{refl}
use Rattle.book.specs.Along.{received_zeros}
use Rattle.book.proofs.received_zeros.Goals as goal

pub returns : goal.returns
unfolding received_zeros
returns c = refl
