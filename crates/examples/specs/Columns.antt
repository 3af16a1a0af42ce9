-- Document 02, E3, on K's example 1: process 1's newest checkpoint, which received 4 from process 2 and 5 from 3, against what
-- these are known to have sent to it.
use Rattle.std.specs.Prelude.{◌≡◌, [], ◌∷◌, ℕ, Option, Some, None, Result, Ok, Err}
use Rattle.book.specs.declared.Process.{Process}
use Rattle.book.specs.declared.Count.{Count}
use Rattle.book.specs.Bounds.{mark}
use Rattle.book.specs.Read.{tables_read}
use Rattle.consistency.specs.Known.{answer_to_column}
use Rattle.session_examples.specs.Books.{blank, k1}

abbrev pub process : ℕ → Process
process p = record { 0 = p }

abbrev pub sent : ℕ → Count
sent v = record { 0 = v }

-- checkpoint r of process j, with what processes 2 and 3 are known to have sent to it
abbrev pub against : ℕ → ℕ → ℕ → ℕ → Result (Option Process) ℕ
against j r second third = answer_to_column (tables_read k1 blank blank) j r (sent 0 ∷ sent second ∷ sent third ∷ [])

pub record Columns : Type 0 where
  -- their newest checkpoints have sent 3 and 7
  pub newest : against 1 2 3 7 ≡ Ok (Some (process 2))
  -- where both offend, the lower is named
  pub both : against 1 2 3 4 ≡ Ok (Some (process 2))
  pub third : against 1 2 4 4 ≡ Ok (Some (process 3))
  pub neither : against 1 2 4 5 ≡ Ok None
  -- "not known" permits everything
  pub not_known : against 1 2 mark 7 ≡ Ok None
  -- questions 10 and 12
  pub no_process : against 4 1 3 7 ≡ Err 10
  pub no_checkpoint : against 1 3 3 7 ≡ Err 12
