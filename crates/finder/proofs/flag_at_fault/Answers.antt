use mathlib.Core.Path.{sym, subst}
use mathlib.Core.Bool.{Bool, false}
use mathlib.Core.List.{List}
use Prim.Native.Nat.{◌+◌}
use native.Mathlib.Omega.{arith}
use Rattle.finder.specs.Steps.{row_of, by_row}
use Rattle.lists.proofs.Filling.{Filled, filled_none, filled_more, filled_kept}
use Rattle.finder.proofs.Flags.{beside, beside_set, beside_kept}
use Rattle.finder.proofs.flag_at_fault.Goals as goal
use Rattle.finder.proofs.flag_at_fault.Goals.{then-sent-own, else-sent-own}

pub overflow_mul-own : goal.overflow_mul-own
overflow_mul-own c = omega (arith, c.requires.0.rows c.args.j c.requires.1.0)

pub loop-p-init : goal.loop-p-init
loop-p-init c = filled_none (omega arith)

pub overflow_mul-other : goal.overflow_mul-other
overflow_mul-other c = omega (arith, c.requires.0.rows c.loop-p.p (omega arith))

pub overflow_add-own : goal.overflow_add-own
overflow_add-own c = omega (arith, c.requires.0.rows c.args.j c.requires.1.0)

pub offset_bounds-sent-own : goal.offset_bounds-sent-own
offset_bounds-sent-own c = omega (arith, c.requires.0.rows c.args.j c.requires.1.0)

pub bounds-sent-own : goal.bounds-sent-own
bounds-sent-own c = omega (arith, c.requires.0.rows c.args.j c.requires.1.0)

pub overflow_add-other : goal.overflow_add-other
overflow_add-other c = omega (arith, c.requires.0.rows c.loop-p.p (omega arith))

pub offset_bounds-received-other : goal.offset_bounds-received-other
offset_bounds-received-other c = omega (arith, c.requires.0.rows c.loop-p.p (omega arith))

pub bounds-received-other : goal.bounds-received-other
bounds-received-other c = omega (arith, c.requires.0.rows c.loop-p.p (omega arith))

pub loop-p-preserved : goal.loop-p-preserved
loop-p-preserved c = let a = c.args in
    let v = by_row a.n a.sent.now a.received.now in
    let set = row_of a.at.now in
    let before = a.flags.now in
    let P : List Bool → Type 0 = λ l. Filled false before a.n (beside v set a.j before) l (c.loop-p.p + 1) in
    elim c.if-sent-own.branch [
      | then-sent-own w ↦ subst P (sym w.flags-is) (filled_more c.loop-p.invariant (omega arith) (beside_set v set a.j before c.loop-p.p w.if-sent-own.true))
      | else-sent-own w ↦ subst P (sym w.flags-is) (filled_kept c.loop-p.invariant (omega arith) (beside_kept v set a.j before c.loop-p.p w.if-sent-own.false))
    ]

pub returns : goal.returns
returns c = record { flagged_beside = λ p i. c.loop-p.invariant.done p (omega arith); flags_len = omega arith }
