-- `line_text::put_text` meets its contract.
-- Assumes nothing.
use mathlib.Core.Path.{◌≡◌, ◌∙◌}
use Prim.Native.Nat.{◌≤◌}
use lib.ListN.{length}
use native.Mathlib.Omega.{arith}
use Rattle.line_text.proofs.Puts.{too_long, fits, copied}
use borrow.Author.Rules.{rules}
use Rattle.line_text.proofs.put_text.Goals as goal

pub returns-then-out-text : goal.returns-then-out-text
returns-then-out-text c =
    let long : length c.args.text.now.bytes ≡ 512 = search rules in
    let inside : c.args.text.now.len ≤ length c.args.text.now.bytes = omega (arith, c.args.text.now.inside) in
    let both = too_long _ _ _ inside (omega arith) in record { answer = both.0; bytes = both.1 }

pub returns : goal.returns
returns c =
    let long : length c.args.text.now.bytes ≡ 512 = search rules in
    let inside : c.args.text.now.len ≤ length c.args.text.now.bytes = omega (arith, c.args.text.now.inside) in
    let put = fits c.args.text.now.bytes c.args.text.now.len c.args.out.now inside (omega arith) in
    record {
      answer = put.0;
      bytes = rw c.copy_from_slice.ensures.after
          (copied c.args.text.now.bytes c.args.text.now.len c.args.out.now inside (omega arith) ∙ put.1);
    }
