use mathlib.Core.Path.{sym, subst, ◌∙◌}
use Prim.Native.Nat.{ℕ, ◌+◌}
use Rattle.consistency.specs.Known.{counters}
use Rattle.resend_writer.proofs.Counts.{Counted, counted_none, counted_more, counted_same, counted_all}
use Rattle.resend_writer.proofs.entry_count.Goals as goal
use Rattle.resend_writer.proofs.entry_count.Goals.{then-has_entry, else-has_entry}

pub loop-i-init : goal.loop-i-init
loop-i-init c = counted_none (counters c.args.list.first)

pub loop-i-preserved : goal.loop-i-preserved
loop-i-preserved c =
    let first : ℕ → ℕ = counters c.args.list.first in
    let l = c.loop-i in
    let there = c.loop-i-test.true in
    let has = sym c.has_entry.ensures in
    let P : ℕ → Type 0 = Counted first (l.i + 1) in
    elim c.if-has_entry.branch [
      | then-has_entry w ↦ subst P (sym w.count-is) (counted_more first l.invariant there (has ∙ w.if-has_entry.true))
      | else-has_entry w ↦ subst P (sym w.count-is) (counted_same first l.invariant there (has ∙ w.if-has_entry.false))
    ]

pub returns : goal.returns
returns c = let both = counted_all (counters c.args.list.first) c.loop-i.invariant c.loop-i-test.false in record { value = both.0; upper_bound = both.1 }
