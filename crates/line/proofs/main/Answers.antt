-- The length that `line_text` answers lies within the text's buffer.
use Rattle.std.proofs.Common.{sym, length-take-le}
use native.Mathlib.Omega.{arith}
use Rattle.line_text.proofs.Puts.{put_within}
use Rattle.line.proofs.main.Goals as goal

pub slice_bounds-text-end : goal.slice_bounds-text-end
slice_bounds-text-end c =
    let h = put_within _ _ _ (sym c.in-Ok.ensures.answer) in
    omega (arith, h, c.line_text.auto.out)

pub slice_bounds-write_all-end : goal.slice_bounds-write_all-end
slice_bounds-write_all-end c =
    let h = put_within _ _ _ (sym c.in-Ok.ensures.answer) in
    sym (length-take-le _ _ (omega (arith, h, c.line_text.auto.out)))
