-- Reports: what the initiator gets is the difference from the row reported before.
use mathlib.Core.Path.{◌≡◌, refl, sym, ap, subst, ◌∙◌}
use mathlib.Core.Bool.{true, false, not}
use mathlib.Core.List.{List}
use Prim.Native.Nat.{ℕ, ◌-◌, ◌≤◌, ◌<◌}
use native.Mathlib.Omega.{arith}
use borrow.Author.Tests.{eq-eqb, eqb-false}
use lib.Dec.{eqb}
use Rattle.book.specs.declared.Count.{Count}
use Rattle.book.specs.Bounds.{mark}
use Rattle.lists.proofs.Tests.{and_both, both_and, or_none}
use Rattle.consistency.specs.Known.{counters}
use Rattle.matrix.specs.Matrix.{row, column, not_known_row}
use Rattle.matrix.specs.Entries.{diff, patch, same}
use Rattle.matrix.specs.Statements.{Fallen}
use Rattle.matrix.proofs.Theorems.{row_with_row, other_rows, same_is_same}
use Rattle.message.specs.declared.Head.{Head}
use Rattle.message.specs.declared.Message.{Message}
use Rattle.message.specs.Layout.{pair_count}
use Rattle.book.specs.Names.{is_purpose, is_named}
use Rattle.message.specs.Formed.{invitation_formed}
use Rattle.message_laws.specs.Formed.{IsFormed}
use Rattle.mail.specs.declared.Outgoing.{Outgoing}
use Rattle.mail.specs.Outgoing.{goes_to, message_to}
use Rattle.machine.specs.Own.{Own, sent_row, newest_permitted}
use Rattle.machine.specs.Sends.{other_head, only_to, is_termination}
use Rattle.machine_laws.proofs.Rows.{sent_at, rest_in}
use Rattle.participant.specs.declared.Participant.{Participant}
use Rattle.participant.specs.declared.ParticipantStep.{ParticipantStep}
use Rattle.participant.specs.Step.{step_back, report_of, step}
use Rattle.participant_laws.specs.Accepts.{Accepts, ends_it}
use Rattle.participant_laws.proofs.Accepted.{Named, Fitting, fits_in, known, named, same_purpose, newest_there}
use Rattle.participant_laws.proofs.Falls.{row_fallen}
use Rattle.participant_laws.proofs.Report.{step_going}
use Rattle.participant_laws.proofs.Theorems.{report_is_diff}
use Rattle.initiator.specs.declared.Initiator.{Initiator}
use Rattle.initiator.specs.Begin.{wait}
use Rattle.initiator.specs.Step as initiator
use Rattle.initiator.specs.Step.{take_report}
use Rattle.initiator_laws.proofs.Stepped.{step_cases}
use Rattle.exchange_laws.specs.Ends.{is_search, SameEntries, message_up, PassesUp, WaitsFor}
use Rattle.exchange_laws.specs.Statements.{ReportPasses, ReportTaken}
use Rattle.exchange_laws.proofs.Differences.{ZeroRest, diff_first, diff_formed, received_lower, received_patch}
use Rattle.exchange_laws.proofs.Heads.{other_head_lem}
use Rattle.exchange_laws.proofs.Passing.{awaited_up, passes_up}

taken_me : (state : Initiator) (m : Message) → (take_report state m).me.0 ≡ state.me.0
unfolding take_report
taken_me state m = refl

module _ (own : Own) (sender : Participant) (m : Message) (receiver : Initiator) (accepts : Accepts own sender m) (going : ends_it m ≡ false)
    (waits : WaitsFor own.n sender receiver) where
  abbrev n : ℕ
  n = own.n

  abbrev j : ℕ
  j = sender.me.0 - 1

  abbrev out : Outgoing
  out = (step own sender m).outgoing

  -- the row that is reported
  abbrev now : List Count
  now = (step_back own sender m).row

  abbrev report : Message
  report = record { head = other_head sender.purpose sender.me; news = diff now sender.row }

  names : Named n sender.me.0 sender.initiator.0
  names = named own sender m accepts

  few : n ≤ 16
  few = accepts.own_is.most

  another : sender.me.0 ≡ sender.initiator.0 → ⊥
  another = eqb-false sender.me.0 sender.initiator.0 names.others

  -- what the initiator gets is the report
  to : receiver.me.0 - 1 ≡ sender.initiator.0 - 1
  to = omega (arith, waits.initiated)

  is_report : message_up out receiver ≡ report
  unfolding report_of only_to
  is_report =
      let of : Head → List Count → Message = λ head news. record { head = head; news = news } in
      ap (message_to out) to
      ∙ (ap (of out.head) (report_is_diff own sender m accepts going).1
      ∙ ap (λ (s : ParticipantStep). of s.outgoing.head (diff s.state.row sender.row)) (step_going own sender m going))

  sent : goes_to out (receiver.me.0 - 1) ≡ true
  sent =
      (report_is_diff own sender m accepts going).0 (receiver.me.0 - 1) (omega (arith, to, names.initiator_some, names.initiator_most, few))
      ∙ eq-eqb (receiver.me.0 - 1) (sender.initiator.0 - 1) to

  fallen : Fallen now sender.row
  fallen = row_fallen own sender m accepts

  fitting : Fitting own sender
  fitting = fits_in own sender accepts.fitting

  zeros : ZeroRest n j sender.row
  zeros =
      subst (λ (n : ℕ). ZeroRest n j sender.row) fitting.processes (rest_in sender.n j sender.row fitting.row_rest)

  low : (p : ℕ) → p < 16 → counters now p < mark
  unfolding step_back
  low p h =
      let r : ℕ = newest_permitted own (known sender m) in
      let there = newest_there own sender m accepts in
      omega (arith, sent_at own r p h, accepts.own_is.below r p h there.0 there.1)

  searches : is_search sender.purpose ≡ true
  searches =
      let other : eqb m.head.purpose 2 ≡ false = (or_none (eqb m.head.purpose 2) (is_termination m) going).0 in
      both_and (is_purpose sender.purpose) (not (eqb sender.purpose 2)) accepts.purpose
      (ap not (subst (λ (v : ℕ). eqb v 2 ≡ false) (same_purpose own sender m accepts) other))

  me_named : is_named n sender.me.0 ≡ true
  me_named = (and_both (is_named n sender.me.0) _ accepts.named).0

  formed : IsFormed n sender.me.0 report
  unfolding invitation_formed
  formed =
      diff_formed now sender.row fallen n sender.me.0 report names.me_some refl zeros
      (other_head_lem n sender.purpose sender.me.0 searches me_named) refl

  -- a first report is whole
  whole : same (row receiver.matrix j) (not_known_row receiver.n j) ≡ true → pair_count report.news ≡ receiver.n - 1
  whole unknown =
      rw waits.processes
      (diff_first now sender.row fallen n j zeros (omega (arith, names.me_some, names.me_most)) few
      (λ p h.
      sym (waits.held p h)
      ∙ ((same_is_same (row receiver.matrix j) (not_known_row receiver.n j)).0 unknown p h
      ∙ ap (λ (n : ℕ). counters (not_known_row n j) p) waits.processes))
      low)

  passes : PassesUp n out receiver
  passes =
      passes_up n receiver report out few is_report sent (λ e. another (e ∙ waits.initiated)) formed
      (awaited_up n receiver report waits.waiting waits.awaited (sym waits.same_purpose) refl whole)
      (received_lower now sender.row fallen (row receiver.matrix j) waits.held)

  step_row : (step own sender m).state.row ≡ now
  unfolding report_of
  step_row = ap (λ (s : ParticipantStep). s.state.row) (step_going own sender m going)

  taken : SameEntries (row (take_report receiver (message_up out receiver)).matrix j) (step own sender m).state.row
  unfolding take_report
  taken p h =
      ap (λ (m : Message). counters (row (take_report receiver m).matrix j) p) is_report
      ∙ (row_with_row receiver.matrix (patch (row receiver.matrix j) report.news) j p (omega (arith, names.me_some, names.me_most, few)) h
      ∙ (received_patch now sender.row fallen (row receiver.matrix j) waits.held p h
      ∙ ap (λ (l : List Count). counters l p) (sym step_row)))

  -- the initiator's own step back changes its own row
  abbrev same_row : Initiator → Type 0
  same_row s = SameEntries (row s.matrix j) (step own sender m).state.row

  back_taken : (its : Own) (s : Initiator) → s.me.0 ≡ receiver.me.0 → same_row s → same_row (initiator.step_back its s)
  unfolding initiator.step_back
  back_taken its s same_me so p h =
      let r : ℕ = newest_permitted its (column s.matrix (s.me.0 - 1)) in
      let other : (j ≡ s.me.0 - 1 → ⊥) =
      λ e. another
      (omega (arith, e, same_me, waits.initiated, names.me_some, names.initiator_some)) in
      other_rows s.matrix (sent_row its r) (s.me.0 - 1) j p (omega (arith, names.me_some, names.me_most, few)) h other ∙ so p h

  step_taken : (its : Own) → same_row (initiator.step its receiver (message_up out receiver)).state
  unfolding initiator.poll initiator.terminate wait
  step_taken its =
      let after : Initiator = take_report receiver (message_up out receiver) in
      let back : same_row (initiator.step_back its after) = back_taken its after (taken_me receiver (message_up out receiver)) taken in
      step_cases same_row its receiver (message_up out receiver) (λ e. taken) (λ e. back) back

pub report_passes : ReportPasses
report_passes = passes

pub report_taken : ReportTaken
report_taken own sender m receiver accepts going waits =
    (taken own sender m receiver accepts going waits, step_taken own sender m receiver accepts going waits)
