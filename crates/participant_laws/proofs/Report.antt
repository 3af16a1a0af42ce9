-- What an accepted step sends.
use mathlib.Core.Path.{◌≡◌, refl, sym, ap, subst, ◌∙◌}
use mathlib.Core.Bool.{false, true≢false, or-true}
use mathlib.Core.List.{List}
use Prim.Native.Nat.{ℕ, ◌-◌, ◌<◌}
use native.Mathlib.Omega.{arith}
use borrow.Author.Tests.{eq-eqb, ne_eqb}
use lib.Dec.{eqb}
use Rattle.book.specs.declared.Count.{Count}
use Rattle.lists.proofs.Over.{get_d_tab}
use Rattle.consistency.specs.Known.{counters}
use Rattle.matrix.specs.Matrix.{as_matrix, entry}
use Rattle.matrix.specs.Entries.{differing, diff, patch}
use Rattle.matrix.proofs.Rows.{row_is, row_length, counter_of_row, entry_of_matrix}
use Rattle.matrix.proofs.Theorems.{diff_at, patch_diff_at}
use Rattle.message.specs.declared.Head.{Head}
use Rattle.message.specs.declared.Message.{Message}
use Rattle.mail.specs.declared.Outgoing.{Outgoing}
use Rattle.mail.specs.Outgoing.{goes_to, message_to}
use Rattle.machine.specs.Own.{Own}
use Rattle.machine.specs.Sends.{other_head, nothing, only_to}
use Rattle.participant.specs.declared.Participant.{Participant}
use Rattle.participant.specs.declared.ParticipantStep.{ParticipantStep}
use Rattle.participant.specs.Step.{step_back, report_of, step}
use Rattle.participant_laws.specs.Accepts.{Accepts, ends_it}
use Rattle.participant_laws.specs.Statements.{ReportIsDiff, ReportBringsRow, EndIsSilent}
use Rattle.participant_laws.proofs.Accepted.{named}
use Rattle.participant_laws.proofs.Falls.{row_fallen}
use Rattle.participant_laws.proofs.Steps.{by_step}

-- ---- no message, and one message

pub nothing_goes : (head : Head) (p : ℕ) → p < 16 → goes_to (nothing head) p ≡ false
unfolding nothing
nothing_goes head p h = get_d_tab 16 (λ p. false) p false h

module _ (head : Head) (to : ℕ) (news : List Count) where
  pub only_goes : (p : ℕ) → p < 16 → goes_to (only_to head to news) p ≡ eqb p to
  unfolding only_to
  only_goes p h = get_d_tab 16 (λ q. eqb q to) p false h

  -- it carries the news
  only_news : to < 16 → (p : ℕ) → p < 16 → counters (message_to (only_to head to news) to).news p ≡ counters news p
  unfolding only_to
  only_news within p h =
      let matrix : List Count = as_matrix (λ q k. counters news k) in
      counter_of_row (λ k. entry matrix to k) p h ∙ entry_of_matrix (λ q k. counters news k) to p within h

-- ---- the end of a search

pub end_is_silent : EndIsSilent
end_is_silent own state m ends p h =
    by_step own state m (λ (s : ParticipantStep). goes_to s.outgoing p ≡ false)
    (λ e. nothing_goes _ p h)
    (λ other ending. nothing_goes _ p h)
    (λ other going. absurd (true≢false (sym ends ∙ (rw (ne_eqb m.head.purpose 2 other) going))))

-- ---- the report

-- a step that does not end the search
pub step_going : (own : Own) (state : Participant) (m : Message) → ends_it m ≡ false
    → step own state m ≡ report_of state (step_back own state m)
step_going own state m going =
    by_step own state m (λ (s : ParticipantStep). s ≡ report_of state (step_back own state m))
    (λ e. absurd (true≢false (rw (eq-eqb m.head.purpose 2 e) at going)))
    (λ other ending. absurd (true≢false (sym (rw ending (or-true (eqb m.head.purpose 2))) ∙ going)))
    (λ other on. refl)

module _ (own : Own) (state : Participant) (m : Message) (accepts : Accepts own state m) where
  abbrev initiator : ℕ
  initiator = state.initiator.0 - 1

  initiator_there : initiator < 16
  initiator_there =
      let n = named own state m accepts in omega (arith, n.initiator_some, n.initiator_most, accepts.own_is.most)

  abbrev Reports : ParticipantStep → Type 0
  Reports s =
      ((p : ℕ) → p < 16 → goes_to s.outgoing p ≡ eqb p initiator)
      × ((message_to s.outgoing initiator).news ≡ diff s.state.row state.row)

  reported : (after : Participant) → Reports (report_of state after)
  unfolding report_of
  reported after =
      let head : Head = other_head state.purpose state.me in
      let news : List Count = diff after.row state.row in
      let out : Outgoing = only_to head initiator news in (
        only_goes head initiator news,
        row_is (λ p. differing (counters after.row p) (counters state.row p)) (message_to out initiator).news
            (row_length (λ p. entry out.news initiator p))
            (λ p h. only_news head initiator news initiator_there p h ∙ diff_at after.row state.row p h),
      )

pub report_is_diff : ReportIsDiff
report_is_diff own state m accepts going =
    subst (Reports own state m accepts) (sym (step_going own state m going)) (reported own state m accepts (step_back own state m))

pub report_brings_row : ReportBringsRow
unfolding report_of
report_brings_row own state m accepts going p h =
    ap (λ (news : List Count). counters (patch state.row news) p) (report_is_diff own state m accepts going).1
    ∙ subst (λ (s : ParticipantStep). counters (patch state.row (diff s.state.row state.row)) p ≡ counters s.state.row p)
    (sym (step_going own state m going))
    (patch_diff_at (step_back own state m).row state.row (row_fallen own state m accepts) p h)
