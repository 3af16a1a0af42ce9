use mathlib.Core.Path.{refl}
use native.Mathlib.Omega.{arith}
use borrow.Author.Rules.{rules}
use Rattle.lists.proofs.Filling.{filled_none, filled_more}
use Rattle.book.proofs.Starts.{starts_carried, next_within, starts_found}
use Rattle.book.proofs.rows_of.Goals as goal

pub loop-j-init : goal.loop-j-init
loop-j-init c = record { found = filled_none (omega arith); start = (starts_carried c.args.shape.counts).begins }

pub overflow_add-row : goal.overflow_add-row
overflow_add-row c = omega (arith, next_within c.args.shape.counts c.loop-j.j c.loop-j.invariant.start (search rules))

pub loop-j-preserved : goal.loop-j-preserved
loop-j-preserved c = let so_far = c.loop-j.invariant in
    record {
      found = filled_more so_far.found (omega arith) so_far.start;
      start = (starts_carried c.args.shape.counts).next c.loop-j.j c.loop-j.row so_far.start;
    }

pub returns : goal.returns
returns c = (refl, starts_found c.args.shape.counts (search rules) refl c.loop-j.invariant (omega arith))
