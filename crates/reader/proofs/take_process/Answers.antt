-- `reader::take_process` meets its contract: at each return the tests that led there say which question fails.
use mathlib.Core.Path.{sym, ◌∙◌}
use native.Mathlib.Omega.{arith}
use Rattle.reader.proofs.Answers.{exit}
use Rattle.reader.proofs.ProcessTurns.{rows_room, process_short, process_none, process_many, process_refused, process_taken}
use Rattle.reader.proofs.take_process.Goals as goal

pub returns-in_default : goal.returns-in_default
returns-in_default c = process_short _ _ _ _ _ _ _ _ _ (sym c.read_number.ensures ∙ c.in_default.is)

pub returns-then-c-lt1 : goal.returns-then-c-lt1
returns-then-c-lt1 c = process_none _ _ _ _ _ _ _ _ _ _ _ (sym c.in-Some.ensures) c.if-c-lt1.true

pub returns-then-sum-c : goal.returns-then-sum-c
returns-then-sum-c c = process_many _ _ _ _ _ _ _ _ _ _ _ (sym c.in-Some.ensures) c.if-c-lt1.false (omega arith)

pub take_checkpoints-requires : goal.take_checkpoints-requires
take_checkpoints-requires c = record {
  rows_clear = rows_room _ _ _ _ _ c.requires.rows_clear (omega arith);
  rows_clear_2 = rows_room _ _ _ _ _ c.requires.rows_clear_2 (omega arith);
}

pub returns-in_err-after : goal.returns-in_err-after
returns-in_err-after c = process_refused _ _ _ _ _ _ _ _ _ _ _ (sym c.in-Some.ensures) c.if-c-lt1.false (omega arith)
    _ c.take_checkpoints.ensures _ c.in_err-after.was (exit _ c.in_err-after.field-0.0 c.from_residual.ensures.1 (λ f same. same))

pub returns : goal.returns
returns c = process_taken _ _ _ _ _ _ _ _ _ _ _ (sym c.in-Some.ensures) c.if-c-lt1.false (omega arith)
    _ c.take_checkpoints.ensures _ c.in_ok-after.was
