use mathlib.Core.Path.{◌≡◌, refl, sym, subst, ◌∙◌}
use Prim.Native.Nat.{ℕ, ◌≤◌}
use native.Mathlib.Omega.{arith}
use Rattle.book.specs.Bounds.{most_processes}
use Rattle.book.specs.declared.Question.TheVariants.{Number, ListFormed}
use Rattle.book.proofs.Refusals.{refused_by, is_refused, is_accepted, hands_on, refuses, accepts}
use Rattle.resend.specs.Questions.{entry_question}
use Rattle.resend_reader.specs.Parts.{EntryFound, entries_from}
use Rattle.resend_reader.proofs.Formed.{entry_names}
use Rattle.resend_reader.proofs.EntryLoop.{sofar_begun, sofar_short, sofar_refused, sofar_more, sofar_over, sofar_ended}
use Rattle.resend_reader.proofs.read_entries.Goals as goal

pub loop-k-init : goal.loop-k-init
loop-k-init c = sofar_begun _ _ _ _

pub returns-in_default : goal.returns-in_default
returns-in_default c =
    refuses Number _
    (sofar_short _ _ _ _ _ _ _ _ _ _ c.loop-k.invariant c.loop-k-test.true
    (subst (EntryFound _ _) c.in_default.is c.read_entry.ensures))

-- an entry that passes names two processes
named : (n s r sender receiver first last : ℕ) {question : ℕ} → n ≤ most_processes
    → question ≡ entry_question n s r sender receiver first last → question ≡ 0
    → (1 ≤ sender) × (sender ≤ most_processes) × (1 ≤ receiver) × (receiver ≤ most_processes)
named n s r sender receiver first last few told passed =
    let p = entry_names n s r sender receiver first last (sym told ∙ passed) in
    (p.0, omega arith, p.2, omega arith)

pub returns-in_err-entry_question : goal.returns-in_err-entry_question
returns-in_err-entry_question c = let a = c.args in
    let h = c.entry_question.ensures in
    let was = c.in_err-entry_question.was in
    hands_on _ c.in_err-entry_question.field-0.0 (entries_from a.s.now a.at) c.from_residual.ensures.1 (λ f same. same)
    (sofar_refused _ _ _ _ _ _ _ _ _ _ c.loop-k.invariant c.loop-k-test.true _ _ c.in-Some.ensures _ refl (is_refused _ _ h was)
    ∙ refused_by _ _ h was)

pub overflow_sub-place : goal.overflow_sub-place
overflow_sub-place c = (named _ _ _ _ _ _ _ c.requires refl (is_accepted _ _ c.entry_question.ensures c.in_ok-entry_question.was)).0

pub overflow_mul-place : goal.overflow_mul-place
overflow_mul-place c = let p = named _ _ _ _ _ _ _ c.requires refl (is_accepted _ _ c.entry_question.ensures c.in_ok-entry_question.was) in omega arith

pub overflow_sub-place-in-loop-k : goal.overflow_sub-place-in-loop-k
overflow_sub-place-in-loop-k c = (named _ _ _ _ _ _ _ c.requires refl (is_accepted _ _ c.entry_question.ensures c.in_ok-entry_question.was)).2

pub overflow_add-place : goal.overflow_add-place
overflow_add-place c = let p = named _ _ _ _ _ _ _ c.requires refl (is_accepted _ _ c.entry_question.ensures c.in_ok-entry_question.was) in omega arith

pub overflow_cast-list : goal.overflow_cast-list
overflow_cast-list c = omega (arith, c.in-Some.ensures.1)

pub offset_bounds-list-place : goal.offset_bounds-list-place
offset_bounds-list-place c = let p = named _ _ _ _ _ _ _ c.requires refl (is_accepted _ _ c.entry_question.ensures c.in_ok-entry_question.was) in omega arith

pub bounds-list-place : goal.bounds-list-place
bounds-list-place c = let p = named _ _ _ _ _ _ _ c.requires refl (is_accepted _ _ c.entry_question.ensures c.in_ok-entry_question.was) in omega arith

pub overflow_cast-list-in-loop-k : goal.overflow_cast-list-in-loop-k
overflow_cast-list-in-loop-k c = omega (arith, c.in-Some.ensures.2)

pub offset_bounds-list-place-in-loop-k : goal.offset_bounds-list-place-in-loop-k
offset_bounds-list-place-in-loop-k c = let p = named _ _ _ _ _ _ _ c.requires refl (is_accepted _ _ c.entry_question.ensures c.in_ok-entry_question.was) in omega arith

pub bounds-list-place-in-loop-k : goal.bounds-list-place-in-loop-k
bounds-list-place-in-loop-k c = let p = named _ _ _ _ _ _ _ c.requires refl (is_accepted _ _ c.entry_question.ensures c.in_ok-entry_question.was) in omega arith

pub loop-k-preserved : goal.loop-k-preserved
loop-k-preserved c = sofar_more _ _ _ _ _ _ _ _ _ _ c.loop-k.invariant c.loop-k-test.true _ _ c.in-Some.ensures _
    refl (is_accepted _ _ c.entry_question.ensures c.in_ok-entry_question.was) _ _ refl refl

pub returns-then-next-s : goal.returns-then-next-s
returns-then-next-s c =
    refuses ListFormed _ (sofar_over _ _ _ _ _ _ _ _ _ _ c.loop-k.invariant c.loop-k-test.false (λ e. absurd (omega arith)))

pub returns : goal.returns
returns c =
    let both = sofar_ended _ _ _ _ _ _ _ _ _ _ c.loop-k.invariant c.loop-k-test.false c.if-next-s.false in
    accepts both.0 both.1
