-- A participant's report arrives at the initiator, which accepts it; and the matrix and the flags once it is taken in.
use mathlib.Core.Path.{◌≡◌, sym, ap, subst, ◌∙◌}
use mathlib.Core.Bool.{true, false, not, ◌&&◌}
use mathlib.Core.List.{List}
use Prim.Native.Nat.{ℕ, ◌-◌, ◌<◌}
use native.Mathlib.Omega.{arith}
use lib.Dec.{eqb}
use Rattle.book.specs.declared.Process.{Process}
use Rattle.lists.proofs.Over.{get_d_tab}
use Rattle.consistency.specs.Known.{counters}
use Rattle.matrix.specs.Matrix.{row}
use Rattle.matrix.specs.Entries.{patch, all_lower}
use Rattle.matrix.proofs.Theorems.{other_rows}
use Rattle.message.specs.declared.Message.{Message}
use Rattle.message.specs.Layout.{message_bytes}
use Rattle.message.specs.Formed.{message_formed}
use Rattle.message_laws.specs.Formed.{IsFormed}
use Rattle.message_laws.proofs.Theorems.{read_is_formed}
use Rattle.mail.specs.Outgoing.{message_to}
use Rattle.machine.specs.Flags.{flag}
use Rattle.machine.specs.Sends.{only_to}
use Rattle.machine_laws.specs.Own.{IsOwn}
use Rattle.machine_laws.proofs.Messages.{head_in, end_of_sender}
use Rattle.machine_laws.proofs.Calls.{three_yes}
use Rattle.participant.specs.declared.Participant.{Participant}
use Rattle.participant.specs.declared.ParticipantStep.{ParticipantStep}
use Rattle.participant.specs.declared.Stage.TheVariants.{Searching}
use Rattle.participant.specs.Step as participant
use Rattle.participant.specs.Step.{step_back, report_of}
use Rattle.participant_laws.proofs.Report.{step_going}
use Rattle.initiator.specs.declared.Initiator.{Initiator}
use Rattle.initiator.specs.Step.{sender_of, awaits, take_report}
use Rattle.initiator.specs.Calls.{read_by}
use Rattle.initiator_laws.specs.Accepts.{Accepts}
use Rattle.initiator_laws.proofs.Reported.{sender_other}
use Rattle.exchange_laws.specs.Ends.{SameEntries, message_up, PassesUp}
use Rattle.exchange_laws.proofs.Theorems.{report_passes, report_taken}
use Rattle.session.specs.declared.Session.{Session}
use Rattle.session.specs.Workers.{participant_at}
use Rattle.session_theory.proofs.Search.{Search, IsSearch, size, lead, is_part, own_in}
use Rattle.session_theory.proofs.Invariant.{Placed, IsReported}
use Rattle.session_theory.proofs.Facts.{few, lead_in, own_is, part_me}

-- The initiator reads m, from participant k, and accepts it; then it has the participant's row, and awaits it no more.
pub record Arrived (g : Search) (s : Session) (k : ℕ) (b : List ℕ) (m : Message) : Type 0 where
  pub read : read_by (size g) s.machine b ≡ m
  pub accepts : Accepts (own_in g (lead g)) s.machine m
  pub searching : (participant_at s k).stage ≡ Searching
  pub flags : (p : ℕ) → p < 16 → flag (take_report s.machine m).awaited p ≡ (flag s.machine.awaited p && not (eqb p k))
  pub row_held : SameEntries (row (take_report s.machine m).matrix k) (participant_at s k).row
  pub other_held :
      (q : ℕ) → q < 16 → (q ≡ k → ⊥) → SameEntries (row (take_report s.machine m).matrix q) (row s.machine.matrix q)

module _ (g : Search) (s : Session) (k : ℕ) (b : List ℕ) (is : IsSearch g) (placed : Placed g s) (there : is_part g k ≡ true)
    (rep : IsReported g s k b) where
  abbrev n : ℕ
  n = size g

  abbrev state : Initiator
  state = s.machine

  abbrev stepped : ParticipantStep
  stepped = participant.step (own_in g k) rep.sender rep.told

  abbrev pub report : Message
  report = message_up stepped.outgoing state

  me_is : lead g ≡ state.me.0 - 1
  me_is = ap (λ (p : Process). p.0 - 1) (sym placed.machine_me)

  passing : PassesUp n stepped.outgoing state
  passing = report_passes (own_in g k) rep.sender rep.told state rep.accepts rep.going rep.waits

  carried : b ≡ message_bytes report
  carried = rep.carries ∙ ap (λ (i : ℕ). message_bytes (message_to stepped.outgoing i)) me_is

  -- ---- it is accepted

  abbrev bytes : List ℕ
  bytes = message_bytes report

  abbrev told : Message
  told = read_by n state bytes

  asked : (message_formed n state.me.0 state.me.0 bytes ≡ true) × (awaits state told ≡ true)
      × (all_lower told.news (row state.matrix (sender_of told)) ≡ true)
  asked =
      three_yes 13 14 15 (message_formed n state.me.0 state.me.0 bytes) (awaits state told)
      (all_lower told.news (row state.matrix (sender_of told))) passing.passes

  formed : IsFormed n told.head.sender.0 told
  formed =
      let me : ℕ = state.me.0 in
      let read = read_is_formed n me me bytes (few g is) asked.0 in
      let head = head_in n told.head.kind told.head.purpose told.head.sender.0 read.head in
      let other : (told.head.sender.0 ≡ me → ⊥) =
      λ e. sender_other (own_in g (lead g)) state told placed.machine_fits asked.1 (omega (arith, head.0, head.1, few g is))
      (omega (arith, e)) in
      subst (λ (end : ℕ). IsFormed n end told) (end_of_sender me told.head.sender.0 other) read

  accepted : Accepts (own_in g (lead g)) state report
  accepted =
      subst (Accepts (own_in g (lead g)) state) passing.read
      (record {
        own_is = subst (IsOwn (own_in g (lead g))) me_is (own_is g is (lead g) (lead_in g is));
        named = rw placed.machine_me is.named;
        purpose = rw placed.machine_purpose is.purposed;
        fitting = placed.machine_fits;
        formed = formed;
        awaited = asked.1;
        lower = asked.2;
      })

  -- ---- and taken in

  going_on : stepped ≡ report_of rep.sender (step_back (own_in g k) rep.sender rep.told)
  going_on = step_going (own_in g k) rep.sender rep.told rep.going

  sender_me : rep.sender.me.0 - 1 ≡ k
  sender_me = part_me g is k there rep.sender rep.from

  sender_is : sender_of report ≡ k
  unfolding report_of only_to
  sender_is = ap (λ (p : ParticipantStep). p.outgoing.head.sender.0 - 1) going_on ∙ sender_me

  searching : (participant_at s k).stage ≡ Searching
  unfolding report_of step_back
  searching = ap (λ (p : Participant). p.stage) rep.after ∙ ap (λ (p : ParticipantStep). p.state.stage) going_on

  row_held : SameEntries (row (take_report state report).matrix k) (participant_at s k).row
  row_held p h =
      ap (λ (i : ℕ). counters (row (take_report state report).matrix i) p) (sym sender_me)
      ∙ ((report_taken (own_in g k) rep.sender rep.told state rep.accepts rep.going rep.waits).0 p h
      ∙ ap (λ (x : Participant). counters x.row p) (sym rep.after))

  other_held : (q : ℕ) → q < 16 → (q ≡ k → ⊥) → SameEntries (row (take_report state report).matrix q) (row state.matrix q)
  unfolding take_report
  other_held q i ne p h =
      other_rows state.matrix (patch (row state.matrix (sender_of report)) report.news) (sender_of report) q p i h
      (λ e. ne (e ∙ sender_is))

  flags : (p : ℕ) → p < 16 → flag (take_report state report).awaited p ≡ (flag state.awaited p && not (eqb p k))
  unfolding take_report
  flags p h =
      get_d_tab 16 (λ q. flag state.awaited q && not (eqb q (sender_of report))) p false h
      ∙ ap (λ (i : ℕ). flag state.awaited p && not (eqb p i)) sender_is

  pub arrived : Arrived g s k b report
  arrived =
      record {
        read = ap (read_by n state) carried ∙ passing.read;
        accepts = accepted;
        searching = searching;
        flags = flags;
        row_held = row_held;
        other_held = other_held;
      }
