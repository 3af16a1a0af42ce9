use mathlib.Core.Path.{refl, sym, ◌∙◌}
use Prim.Native.Nat.{◌+◌, ◌≤◌}
use native.Mathlib.Omega.{arith}
use Rattle.varint.proofs.Reading.{read_next}
use Rattle.book.proofs.Rows.{column_within}
use Rattle.book.proofs.Refusals.{refused_by, is_accepted}
use Rattle.reader.proofs.Answers.{exit}
use Rattle.reader.proofs.CounterLoop.{sofar_begun, sofar_length, sofar_short, sofar_refused, sofar_more, sofar_ended}
use Rattle.reader.proofs.take_each_counter.Goals as goal

pub loop-k-init : goal.loop-k-init
loop-k-init c = sofar_begun _ _ _ _ _ _ _ _ c.requires

pub returns-in_default : goal.returns-in_default
returns-in_default c = sofar_short _ _ _ _ _ _ _ _ c.requires _ _ _ c.loop-k.invariant c.loop-k-test.true
    (sym c.read_short.ensures ∙ c.in_default.is)

pub overflow_add-c : goal.overflow_add-c
overflow_add-c c =
    let h : c.partner_column.result ≤ c.loop-k.k + 1 = rw c.partner_column.ensures (column_within _ _) in
    omega arith

pub entry_before-before-requires : goal.entry_before-before-requires
entry_before-before-requires c = let long = sofar_length _ _ _ _ _ _ _ _ c.requires _ _ _ c.loop-k.invariant in
    let h : c.partner_column.result ≤ c.loop-k.k + 1 = rw c.partner_column.ensures (column_within _ _) in
    (omega (arith, long), λ e. omega (arith, c.requires.later e))

pub returns-in_err-counter_question : goal.returns-in_err-counter_question
returns-in_err-counter_question c = sofar_refused _ _ _ _ _ _ _ _ c.requires _ _ _ c.loop-k.invariant c.loop-k-test.true _ _ _ _ _
    (sym c.in-Some.ensures) c.partner_column.ensures c.entry_before-before.ensures
    refl _ _ (exit _ c.in_err-counter_question.field-0.0 c.from_residual.ensures.1 (λ f same. same))
    (refused_by _ _ c.counter_question.ensures c.in_err-counter_question.was)

pub overflow_cast-table : goal.overflow_cast-table
overflow_cast-table c = omega (arith, (read_next _ _ _ _ _ _ (sym c.in-Some.ensures)).2)

pub offset_bounds-table-c : goal.offset_bounds-table-c
offset_bounds-table-c c =
    let h : c.partner_column.result ≤ c.loop-k.k + 1 = rw c.partner_column.ensures (column_within _ _) in
    omega arith

pub bounds-table-c : goal.bounds-table-c
bounds-table-c c = let long = sofar_length _ _ _ _ _ _ _ _ c.requires _ _ _ c.loop-k.invariant in
    let h : c.partner_column.result ≤ c.loop-k.k + 1 = rw c.partner_column.ensures (column_within _ _) in
    omega (arith, long)

pub loop-k-preserved : goal.loop-k-preserved
loop-k-preserved c = sofar_more _ _ _ _ _ _ _ _ c.requires _ _ _ c.loop-k.invariant c.loop-k-test.true _ _ _ _ _
    (sym c.in-Some.ensures) c.partner_column.ensures c.entry_before-before.ensures
    refl (is_accepted _ _ c.counter_question.ensures c.in_ok-counter_question.was)

pub returns : goal.returns
returns c = sofar_ended _ _ _ _ _ _ _ _ c.requires _ _ _ c.loop-k.invariant c.loop-k-test.false
