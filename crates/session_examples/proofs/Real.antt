-- A real book meets demand 3's assumptions: by computation.
use mathlib.Core.Path.{refl}
use mathlib.Core.Logic.{inr}
use native.Mathlib.Omega.{arith}
use Rattle.session_examples.specs.Real.{RealBook}
use Rattle.session_examples.proofs.Computing.{computing}

pub real_book : RealBook
unfolding computing
real_book = (record { read = refl; start = refl }, inr refl, omega arith)
