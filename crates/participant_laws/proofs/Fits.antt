-- Question 13 is kept: by the first state and by every accepted step.
use mathlib.Core.Path.{◌≡◌, refl, sym, subst, ◌∙◌}
use mathlib.Core.Bool.{Bool, true}
use Prim.Native.Nat.{ℕ, ◌-◌}
use native.Mathlib.Omega.{arith}
use borrow.Author.Tests.{eq-eqb, ne_eqb}
use Rattle.lists.specs.Pick.{pick}
use Rattle.matrix.specs.Matrix.{not_known_row}
use Rattle.message.specs.declared.Message.{Message}
use Rattle.machine.specs.Own.{Own, sent_row, newest_permitted}
use Rattle.machine.specs.Sends.{is_termination}
use Rattle.machine_laws.proofs.Rows.{same_self, sent_at, rest_in, rest_out, zero_patched, not_known_rest}
use Rattle.machine_laws.proofs.Checkpoints.{checkpoint_out}
use Rattle.machine_laws.proofs.Theorems.{newest_exists}
use Rattle.participant.specs.declared.Participant.{Participant}
use Rattle.participant.specs.declared.ParticipantStep.{ParticipantStep}
use Rattle.participant.specs.Fits.{search_fits, unknown_on, fits}
use Rattle.participant.specs.Step.{first, end_on_oldest, end, step_back, report_of}
use Rattle.participant_laws.specs.Accepts.{Accepts}
use Rattle.participant_laws.specs.Statements.{FirstFits, StepFits}
use Rattle.participant_laws.proofs.Accepted.{
  Fitting,
  Unknown,
  Search,
  fits_in,
  fits_out,
  search_out,
  unknown_out,
  same_purpose,
  oldest_before,
  ended_before,
  no_news,
  newest_there,
  known,
}
use Rattle.participant_laws.proofs.Steps.{by_step}

pub first_fits : FirstFits
first_fits own me initiator purpose is =
    let state : Participant = first own me initiator purpose in
    let j : ℕ = me.0 - 1 in
    let nothing = not_known_row own.n j in
    let zeros = rest_out own.n j nothing (λ p h none. not_known_rest own.n j p h none) in
    fits_out own state
    (record {
      processes = refl;
      there = checkpoint_out own own.count is.some (omega arith);
      row_rest = zeros;
      column_rest = zeros;
      in_stage = unknown_out own.count state (record { on = refl; row_unknown = same_self nothing; column_unknown = same_self nothing });
    })

module _ (own : Own) (state : Participant) (m : Message) (accepts : Accepts own state m) where
  abbrev j : ℕ
  j = state.me.0 - 1

  before : Fitting own state
  before = fits_in own state accepts.fitting

  oldest : m.head.purpose ≡ 2 → fits own (end_on_oldest state) ≡ true
  unfolding end_on_oldest
  oldest e =
      let u : Unknown own.count state = oldest_before own state m accepts e in
      let after : Participant = end_on_oldest state in
      let two : state.purpose ≡ 2 = sym (same_purpose own state m accepts) ∙ e in
      let un : unknown_on 1 after ≡ true = unknown_out 1 after (record { on = refl; row_unknown = u.row_unknown; column_unknown = u.column_unknown }) in
      fits_out own after
      (record {
        processes = before.processes;
        there = checkpoint_out own 1 (omega arith) accepts.own_is.some;
        row_rest = before.row_rest;
        column_rest = before.column_rest;
        in_stage = subst (λ (b : Bool). pick b (unknown_on 1 after) (search_fits own after) ≡ true) (sym (eq-eqb state.purpose 2 two)) un;
      })

  ended : (m.head.purpose ≡ 2 → ⊥) → is_termination m ≡ true → fits own (end state) ≡ true
  unfolding end
  ended ne t =
      let s : Search own state = ended_before own state m accepts t in
      let after : Participant = end state in
      let other : (state.purpose ≡ 2 → ⊥) = λ e. ne (same_purpose own state m accepts ∙ e) in
      let searched : search_fits own after ≡ true = search_out own after (record { row_sent = s.row_sent; on_newest = s.on_newest }) in
      fits_out own after
      (record {
        processes = before.processes;
        there = before.there;
        row_rest = before.row_rest;
        column_rest = before.column_rest;
        in_stage = subst (λ (b : Bool). pick b (unknown_on 1 after) (search_fits own after) ≡ true) (sym (ne_eqb state.purpose 2 other)) searched;
      })

  back : fits own (step_back own state m) ≡ true
  unfolding step_back
  back =
      let r : ℕ = newest_permitted own (known state m) in
      let after : Participant = step_back own state m in
      let e : state.n ≡ own.n = before.processes in
      let there = newest_exists own j (known state m) accepts.own_is in
      let is = newest_there own state m accepts in
      fits_out own after
      (record {
        processes = e;
        there = there;
        row_rest = rest_out state.n j (sent_row own r) (λ p h none. sent_at own r p h ∙ accepts.own_is.rest r p h is.0 is.1 (rw e at none));
        column_rest =
            rest_out state.n j (known state m)
            (λ p h none.
            zero_patched state.column m.news p h (rest_in state.n j state.column before.column_rest p h none)
            (no_news own state m accepts p h (rw e at none)));
        in_stage = search_out own after (record { row_sent = same_self (sent_row own r); on_newest = refl });
      })

pub step_fits : StepFits
unfolding report_of
step_fits own state m accepts =
    by_step own state m (λ (s : ParticipantStep). fits own s.state ≡ true) (oldest own state m accepts) (ended own state m accepts)
    (λ other going. back own state m accepts)
