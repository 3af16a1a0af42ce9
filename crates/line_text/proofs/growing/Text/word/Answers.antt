-- `Text::word` meets its contract.
-- Assumes nothing.
use mathlib.Core.Path.{◌≡◌, refl}
use lib.ListN.{length}
use native.Mathlib.Omega.{arith}
use Rattle.line_text.proofs.Grows.{grown_bytes}
use borrow.Author.Rules.{rules}
use Rattle.line_text.proofs.growing.Text.word.Goals as goal

pub returns : goal.returns
returns c = let long : length c.args.self.now.bytes ≡ 512 = search rules in
    rw c.copy_from_slice.ensures.after (grown_bytes _ _ _ _ refl refl (omega (arith, c.requires)))
