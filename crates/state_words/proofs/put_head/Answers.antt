-- `put_head` meets its contract.
use mathlib.Core.Path.{refl}
use native.Mathlib.Omega.{arith}
use Rattle.words.proofs.Storing.{sets_copied}
use Rattle.state_words.proofs.put_head.Goals as goal

pub returns : goal.returns
returns c = let a = c.args in rw c.copy_from_slice.ensures.after (sets_copied a.head.now a.words.now a.at _ refl (omega (arith, c.requires)))
