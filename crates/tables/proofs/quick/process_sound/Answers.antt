-- `tables::process_sound` meets its contract: what the sweeps see makes the rows sound.
use mathlib.Core.Path.{◌≡◌, sym, ◌∙◌}
use mathlib.Core.Bool.{true, false≢true}
use Rattle.tables.proofs.Zeros.{zeros_each}
use Rattle.tables.proofs.SoundLoop.{Seen, seen_sound}
use Rattle.tables.proofs.quick.process_sound.Goals as goal
use Rattle.tables.proofs.quick.process_sound.Goals.{After-all_zero}

pub returns-then-not-oldest_passes : goal.returns-then-not-oldest_passes
returns-then-not-oldest_passes c e = absurd (false≢true e)

pub returns-then-not-all_rising : goal.returns-then-not-all_rising
returns-then-not-all_rising c e = absurd (false≢true e)

pub returns-then-not-none_mark : goal.returns-then-not-none_mark
returns-then-not-none_mark c e = absurd (false≢true e)

pub returns-then-table-own-ne0 : goal.returns-then-table-own-ne0
returns-then-table-own-ne0 c e = absurd (false≢true e)

-- the sweeps, each after the one before it
seen : (c : After-all_zero)
    → let a = c.args in
    c.all_zero.result ≡ true → Seen a.zeros a.n a.j a.first a.count a.table.now
seen c e =
    record {
      oldest = c.oldest_passes.ensures (c.if-not-oldest_passes.false);
      rising = c.all_rising.ensures (c.if-not-all_rising.false);
      known = c.none_mark.ensures (c.if-not-none_mark.false);
      own = c.if-table-own-ne0.false;
      absent = zeros_each _ _ _ (sym c.all_zero.ensures ∙ e);
    }

pub returns : goal.returns
returns c e = seen_sound _ _ _ _ _ _ c.requires.rows_fit (seen (goal.at.returns c).After-all_zero e)
