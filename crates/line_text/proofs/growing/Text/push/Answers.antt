-- `Text::push` meets its contract.
-- Assumes nothing.
use mathlib.Core.Path.{◌≡◌, refl}
use lib.ListN.{length}
use native.Mathlib.Omega.{arith}
use Rattle.line_text.proofs.Grows.{grown_byte}
use borrow.Author.Rules.{rules}
use Rattle.line_text.proofs.growing.Text.push.Goals as goal

pub returns : goal.returns
returns c = let long : length c.args.self.now.bytes ≡ 512 = search rules in
    grown_byte _ _ _ refl refl (omega (arith, c.requires))
