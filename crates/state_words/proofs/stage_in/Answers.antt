-- `stage_in` meets its contract.
use native.Mathlib.Omega.{arith}
use Rattle.state_words.proofs.Stages.{stage_ended}
use Rattle.state_words.proofs.stage_in.Goals as goal

pub returns-in_default : goal.returns-in_default
returns-in_default c = stage_ended c.args.w (omega arith) (omega arith)
