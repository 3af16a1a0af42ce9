use mathlib.Core.Path.{◌≡◌, sym, ◌∙◌}
use mathlib.Core.Bool.{false≢true}
use native.Mathlib.Omega.{arith}
use borrow.Author.Rules.{rules}
use lib.ListN.{length}
use Rattle.book.proofs.Fits.{rows_fit, first_inside}
use Rattle.tables.proofs.Zeros.{zeros_each}
use Rattle.tables.proofs.SoundLoop.{some_rows, sounded_none, sounded_more, sounded_end}
use Rattle.tables.proofs.quick.table_sound.Goals as goal

pub loop-j-init : goal.loop-j-init
loop-j-init c = let a = c.args.shape in
    let long : length a.counts ≡ 16 = search rules in
    sounded_none _ _ _ _ c.requires.book_fits long

pub process_sound-is_sound-requires : goal.process_sound-is_sound-requires
process_sound-is_sound-requires c = let pre = c.requires in
    let placed = c.loop-j.invariant.placed in
    let h = c.loop-j-test.true in
    record { rows_fit = rows_fit pre.book_fits h placed.starts; le_count = some_rows _ _ _ placed.fits pre.counts_value h }

pub returns-then-not-is_sound : goal.returns-then-not-is_sound
returns-then-not-is_sound c e = absurd (false≢true e)

pub overflow_add-first : goal.overflow_add-first
overflow_add-first c = let placed = c.loop-j.invariant.placed in
    let fits = rows_fit c.requires.book_fits c.loop-j-test.true placed.starts in
    omega (arith, fits.inside)

pub loop-j-preserved : goal.loop-j-preserved
loop-j-preserved c = sounded_more _ _ _ _ _ _ c.loop-j.invariant c.loop-j-test.true
    (c.process_sound-is_sound.ensures (c.if-not-is_sound.false))

pub overflow_mul-end : goal.overflow_mul-end
overflow_mul-end c = let placed = c.loop-j.invariant.placed in
    omega (arith, first_inside c.requires.book_fits placed.passed placed.starts)

pub all_zero-requires : goal.all_zero-requires
all_zero-requires c = let placed = c.loop-j.invariant.placed in
    omega (arith, first_inside c.requires.book_fits placed.passed placed.starts)

pub returns : goal.returns
returns c e = let table = c.args.table.now in
    sounded_end _ _ _ _ _ _ c.loop-j.invariant c.loop-j-test.false
    (zeros_each _ _ table (sym c.all_zero.ensures ∙ e))
