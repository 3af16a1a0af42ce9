-- `book::sent_zeros` meets its contract.
use mathlib.Core.Path.{refl}
use Rattle.book.specs.Along.{sent_zeros}
use Rattle.book.proofs.sent_zeros.Goals as goal

pub returns : goal.returns
unfolding sent_zeros
returns c = refl
