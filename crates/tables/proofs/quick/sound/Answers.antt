-- `tables::sound` meets its contract.
use mathlib.Core.Path.{◌≡◌, sym, ◌∙◌}
use mathlib.Core.Bool.{false≢true}
use borrow.Author.Rules.{rules}
use lib.ListN.{length}
use Rattle.tables.proofs.Passes.{tables_pass}
use Rattle.tables.proofs.quick.sound.Goals as goal
use Rattle.tables.proofs.quick.sound.Goals.{After-shared_slice_known-2-1}

long : (c : After-shared_slice_known-2-1) → length c.args.shape.counts ≡ 16
long c = search rules

pub returns-then-not-absent_zero : goal.returns-then-not-absent_zero
returns-then-not-absent_zero c e = absurd (false≢true e)

pub returns-then-not-table_sound : goal.returns-then-not-table_sound
returns-then-not-table_sound c e = absurd (false≢true e)

pub returns : goal.returns
returns c e = tables_pass _ (long (goal.at.returns c).After-shared_slice_known-2-1) c.requires.book_fits c.requires.book_fits_2
    (sym c.absent_zero.ensures ∙ c.if-not-absent_zero.false)
    _ c.sent_zeros.ensures (c.table_sound.ensures (c.if-not-table_sound.false))
    _ c.received_zeros.ensures (c.table_sound-2.ensures e)
