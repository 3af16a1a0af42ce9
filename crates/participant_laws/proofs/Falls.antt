-- An accepted step raises nothing, and does not fall below the line.
use Prim.Native.Nat.{ℕ, ◌-◌, ◌≤◌, ◌<◌}
use native.Mathlib.Omega.{arith}
use Rattle.line_theory.specs.Search.{line}
use Rattle.line_theory.specs.OfTables.{view_of}
use Rattle.consistency.specs.Known.{counters}
use Rattle.matrix.specs.Statements.{Fallen}
use Rattle.message.specs.declared.Message.{Message}
use Rattle.machine.specs.Own.{Own, newest_permitted}
use Rattle.machine_laws.proofs.Rows.{sent_at}
use Rattle.machine_laws.proofs.Theorems.{stays_above_line}
use Rattle.participant.specs.declared.Participant.{Participant}
use Rattle.participant.specs.declared.ParticipantStep.{ParticipantStep}
use Rattle.participant.specs.Step.{end_on_oldest, end, step_back, report_of}
use Rattle.participant_laws.specs.Accepts.{Accepts}
use Rattle.participant_laws.specs.Statements.{NeverRaised, StaysAbove}
use Rattle.participant_laws.proofs.Accepted.{known, candidate_there, newest_there, candidate_falls, column_falls, row_above}
use Rattle.participant_laws.proofs.Steps.{by_step}

-- a step back reports counters that are at most those of the row before
pub row_fallen : (own : Own) (state : Participant) (m : Message) → Accepts own state m → Fallen (step_back own state m).row state.row
unfolding step_back
row_fallen own state m accepts p h =
    let r : ℕ = newest_permitted own (known state m) in
    let held = row_above own state m accepts r p (newest_there own state m accepts).0 (candidate_falls own state m accepts) h in
    (omega (arith, sent_at own r p h, held.0), held.1)

abbrev NotRaised : Participant → Participant → Type 0
NotRaised after state =
    (after.candidate.0 ≤ state.candidate.0)
    × ((p : ℕ) → p < 16 → counters after.row p ≤ counters state.row p)
    × ((p : ℕ) → p < 16 → counters after.column p ≤ counters state.column p)

pub never_raised : NeverRaised
unfolding end_on_oldest end step_back report_of
never_raised own state m accepts =
    by_step own state m (λ (s : ParticipantStep). NotRaised s.state state)
    (λ e. ((candidate_there own state m accepts).0, λ p h. omega arith, λ p h. omega arith))
    (λ other ending. (omega arith, λ p h. omega arith, λ p h. omega arith))
    (λ other going. (candidate_falls own state m accepts, λ p h. (row_fallen own state m accepts p h).0, column_falls own state m accepts))

pub stays_above : StaysAbove
unfolding end step_back report_of
stays_above t state m accepted accepts searches above enough =
    let me : ℕ = state.me.0 - 1 in
    let least : ℕ = line (view_of t) me in
    by_step _ state m (λ (s : ParticipantStep). least ≤ s.state.candidate.0)
    (λ e. absurd (searches e))
    (λ other ending. above)
    (λ other going. stays_above_line t me (known state m) accepted accepts.own_is.present enough)
