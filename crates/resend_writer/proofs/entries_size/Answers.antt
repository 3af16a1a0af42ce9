use mathlib.Core.Path.{sym, subst, ◌∙◌}
use Prim.Native.Nat.{ℕ, ◌+◌}
use Rattle.consistency.specs.Known.{counters}
use Rattle.resend_writer.proofs.Turns.{Measured, measured_none, measured_more, measured_same, measured_all}
use Rattle.resend_writer.proofs.entries_size.Goals as goal
use Rattle.resend_writer.proofs.entries_size.Goals.{then-has_entry, else-has_entry}

pub loop-i-init : goal.loop-i-init
loop-i-init c = measured_none (counters c.args.list.first) (counters c.args.list.last)

pub loop-i-preserved : goal.loop-i-preserved
loop-i-preserved c =
    let first : ℕ → ℕ = counters c.args.list.first in
    let last : ℕ → ℕ = counters c.args.list.last in
    let l = c.loop-i in
    let there = c.loop-i-test.true in
    let has = sym c.has_entry.ensures in
    let P : ℕ → Type 0 = Measured first last (l.i + 1) in
    elim c.if-has_entry.branch [
      | then-has_entry w ↦
          let e = w.entry_size-size.ensures in
          subst P (sym w.size-is) (measured_more first last l.invariant there (has ∙ w.if-has_entry.true) e.value e.upper_bound)
      | else-has_entry w ↦ subst P (sym w.size-is) (measured_same first last l.invariant there (has ∙ w.if-has_entry.false))
    ]

pub returns : goal.returns
returns c = let both = let list = c.args.list in
    measured_all (counters list.first) (counters list.last) c.loop-i.invariant c.loop-i-test.false in record { value = both.0; upper_bound = both.1 }
