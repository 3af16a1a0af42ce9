-- What a strand holds, by what is known of its bytes, and that question 13 passes it.
use mathlib.Core.Path.{◌≡◌, refl, sym, ap, subst, ◌∙◌}
use mathlib.Core.Bool.{Bool, true, false, true≢false}
use mathlib.Core.List.{List, []}
use Prim.Native.Nat.{ℕ, suc, ◌-◌, ◌≤◌}
use native.Mathlib.Omega.{arith}
use borrow.Author.Tests.{eq-eqb, ne_eqb}
use lib.ListN.{length}
use Rattle.book.specs.declared.Process.{Process}
use Rattle.lists.specs.Pick.{pick}
use Rattle.message.specs.declared.Message.{Message}
use Rattle.message.specs.Layout.{message_bytes}
use Rattle.mail.specs.declared.Outgoing.{Outgoing}
use Rattle.mail.specs.Outgoing.{message_to}
use Rattle.machine.specs.Own.{Own}
use Rattle.machine.specs.Sends.{only_to}
use Rattle.machine.specs.Flags.{flag}
use Rattle.participant.specs.declared.Participant.{Participant}
use Rattle.participant.specs.declared.ParticipantStep.{ParticipantStep}
use Rattle.participant.specs.declared.Stage.TheVariants.{Searching}
use Rattle.participant.specs.Step.{step_back, report_of, step}
use Rattle.participant.specs.Calls as participant
use Rattle.participant_laws.specs.Accepts.{ends_it}
use Rattle.participant_laws.proofs.Report.{step_going}
use Rattle.initiator.specs.Calls as initiator
use Rattle.exchange_laws.specs.Ends.{PassesUp, message_up}
use Rattle.exchange_laws.proofs.Theorems.{report_passes}
use Rattle.strands.specs.Strands.{slot_size}
use Rattle.session.specs.declared.Session.{Session}
use Rattle.session.specs.declared.Waiting.{Waiting}
use Rattle.session.specs.declared.Waiting.TheVariants.{Nothing, Asking, Ending, Report, Stray}
use Rattle.session.specs.Workers.{participant_at, is_ended}
use Rattle.session.specs.Held.{sender_in, ends_search, held_down, held_up, held, is_awaited, is_ending, is_stray}
use Rattle.session.specs.Fits.{strand_fits}
use Rattle.session_theory.proofs.Search.{Search, IsSearch, size, lead, is_part, own_in}
use Rattle.session_theory.proofs.Invariant.{Part, Placed, Phase, quiet, reported, asked, IsAsked, IsReported, IsQuiet, InPhase, Closing}
use Rattle.session_theory.proofs.Moves.{holding}
use Rattle.session_theory.proofs.Facts.{few, part_in, part_other, part_named}
use Rattle.session_fit.proofs.Read.{bytes_some, ReadDown, read_down, ReadUp, read_up}

-- ---- what it holds

module _ (n : ℕ) (s : Session) (k : ℕ) (b : List ℕ) where
  held_none : b ≡ [] → held n s k b ≡ Nothing
  unfolding held
  held_none e = rw e

  held_down_lem : (ends : Bool) → 1 ≤ length b → sender_in b ≡ s.initiator.0
      → participant.message_question n (participant_at s k) b ≡ 0
      → ends_search (participant.read_by n (participant_at s k) b) ≡ ends → held n s k b ≡ pick ends Ending Asking
  unfolding held held_down
  held_down_lem ends some from passes e =
      rw (
        ne_eqb (length b) 0 (omega arith),
        eq-eqb (sender_in b) s.initiator.0 from,
        eq-eqb (participant.message_question n (participant_at s k) b) 0 passes,
        e,
      )

  held_up_lem : 1 ≤ length b → (sender_in b ≡ s.initiator.0 → ⊥) → sender_in b ≡ suc k
      → initiator.message_question n s.machine b ≡ 0 → held n s k b ≡ Report
  unfolding held held_up
  held_up_lem some other from passes =
      rw (
        ne_eqb (length b) 0 (omega arith),
        ne_eqb (sender_in b) s.initiator.0 other,
        eq-eqb (sender_in b) (suc k) from,
        eq-eqb (initiator.message_question n s.machine b) 0 passes,
      )

-- ---- question 13 of it

module _ (s : Session) (k : ℕ) (w : Waiting) where
  -- while the initiator waits
  strand_waiting : is_stray w ≡ false → is_ending w ≡ false → flag s.machine.awaited k ≡ is_awaited w
      → s.machine.ended ≡ false → is_ended (participant_at s k).stage ≡ false → strand_fits s k w ≡ true
  unfolding strand_fits
  strand_waiting stray ending flagged waiting going = go w stray ending flagged
    where
      go : (w : Waiting) → is_stray w ≡ false → is_ending w ≡ false → flag s.machine.awaited k ≡ is_awaited w → strand_fits s k w ≡ true
      go Nothing stray ending flagged = rw (flagged, waiting, going)
      go Asking stray ending flagged = rw (flagged, waiting, going)
      go Ending stray ending flagged = absurd (true≢false ending)
      go Report stray ending flagged = rw (flagged, waiting, going)
      go Stray stray ending flagged = absurd (true≢false stray)

  -- once it has ended
  strand_ended : is_stray w ≡ false → is_awaited w ≡ false → flag s.machine.awaited k ≡ false → s.machine.ended ≡ true
      → strand_fits s k w ≡ true
  unfolding strand_fits
  strand_ended stray awaited flagged ended = rw (stray, awaited, flagged, ended)

pub record Tells (g : Search) (s : Session) (k : ℕ) (b : List ℕ) (w : Waiting) : Type 0 where
  pub holds : held (size g) s k b ≡ w
  pub short : length b ≤ slot_size (size g)
  pub fits : strand_fits s k w ≡ true

carried_some : (b : List ℕ) (m : Message) → b ≡ message_bytes m → 1 ≤ length b
carried_some b m e = rw e (bytes_some m)

empty_short : (n : ℕ) (b : List ℕ) → b ≡ [] → length b ≤ slot_size n
empty_short n b e = rw e (omega arith)

-- the sender of a report, and the state that it leaves
report_sender : (own : Own) (p : Participant) (m : Message) → ends_it m ≡ false → (step own p m).outgoing.head.sender ≡ p.me
unfolding report_of only_to
report_sender own p m going = ap (λ (s : ParticipantStep). s.outgoing.head.sender) (step_going own p m going)

report_searches : (own : Own) (p : Participant) (m : Message) → ends_it m ≡ false → (step own p m).state.stage ≡ Searching
unfolding report_of step_back
report_searches own p m going = ap (λ (s : ParticipantStep). s.state.stage) (step_going own p m going)

module _ (g : Search) (is : IsSearch g) (s : Session) (placed : Placed g s) (k : ℕ) (there : is_part g k ≡ true) (b : List ℕ) where
  abbrev p : Participant
  p = participant_at s k

  part : Part g k p
  part = placed.part k there

  down : participant.message_question (size g) p b ≡ 0 → ReadDown (size g) p b
  down passes = read_down (size g) p b (few g is) (part_named g is k there p part) passes

  from_lead : participant.message_question (size g) p b ≡ 0 → sender_in b ≡ s.initiator.0
  from_lead passes = (down passes).sender ∙ ap (λ (q : Process). q.0) (part.leader ∙ sym placed.leader)

  down_short : (told : Message) → b ≡ message_bytes told → participant.read_by (size g) p b ≡ told
      → participant.message_question (size g) p b ≡ 0 → length b ≤ slot_size (size g)
  down_short told carries read passes =
      subst (λ (l : List ℕ). length l ≤ slot_size (size g)) (sym (carries ∙ ap message_bytes (sym read))) (down passes).short

  down_holds : (ends : Bool) (told : Message) → b ≡ message_bytes told → participant.read_by (size g) p b ≡ told
      → participant.message_question (size g) p b ≡ 0 → ends_search told ≡ ends → held (size g) s k b ≡ pick ends Ending Asking
  down_holds ends told carries read passes e =
      held_down_lem (size g) s k b ends (carried_some b told carries) (from_lead passes) passes (ap ends_search read ∙ e)

  -- ---- while the initiator waits

  module _ (waiting : s.machine.ended ≡ false) where
    quiet_tells : IsQuiet g s k b → Tells g s k b Nothing
    quiet_tells q =
        record {
          holds = held_none (size g) s k b q.empty;
          short = empty_short (size g) b q.empty;
          fits = strand_waiting s k Nothing refl refl q.awaited waiting (ap is_ended q.searching);
        }

    asked_tells : IsAsked g s k b → Tells g s k b Asking
    asked_tells a =
        record {
          holds = down_holds false a.told a.carries a.read a.passes a.going;
          short = down_short a.told a.carries a.read a.passes;
          fits = strand_waiting s k Asking refl refl a.awaited waiting (down a.passes).going;
        }

    module _ (r : IsReported g s k b) where
      abbrev out : Outgoing
      out = (step (own_in g k) r.sender r.told).outgoing

      abbrev report : Message
      report = message_to out (lead g)

      up : PassesUp (size g) out s.machine
      up = report_passes (own_in g k) r.sender r.told s.machine r.accepts r.going r.waits

      abbrev got : Message
      got = message_up out s.machine

      bytes : b ≡ message_bytes got
      bytes = r.carries ∙ ap (λ (q : Process). message_bytes (message_to out (q.0 - 1))) (sym placed.machine_me)

      sender_is : got.head.sender.0 ≡ suc k
      sender_is =
          ap (λ (q : Process). q.0) (report_sender (own_in g k) r.sender r.told r.going)
          ∙ ap (λ (q : Process). q.0) r.from.me

      sender_place : r.sender.me.0 - 1 ≡ k
      sender_place = omega (arith, ap (λ (q : Process). q.0) r.from.me)

      other : suc k ≡ g.initiator.0 → ⊥
      other e = part_other g k there (omega (arith, e))

      me_lead : s.machine.me.0 ≡ g.initiator.0
      me_lead = ap (λ (q : Process). q.0) placed.machine_me

      shown : ReadUp (size g) got.head.sender.0 (message_bytes got)
      shown =
          read_up (size g) s.machine got (few g is) (omega (arith, sender_is)) (omega (arith, sender_is, part_in g k there))
          (λ e. other (sym sender_is ∙ (e ∙ me_lead))) up.read up.passes

      from : sender_in b ≡ suc k
      from = ap sender_in bytes ∙ (shown.sent ∙ sender_is)

      reported_tells : Tells g s k b Report
      reported_tells =
          record {
            holds =
                held_up_lem (size g) s k b (carried_some b report r.carries) (λ e. other (sym from ∙ (e ∙ ap (λ (q : Process). q.0) placed.leader)))
                from (subst (λ (l : List ℕ). initiator.message_question (size g) s.machine l ≡ 0) (sym bytes) up.passes);
            short = subst (λ (l : List ℕ). length l ≤ slot_size (size g)) (sym bytes) shown.short;
            fits =
                strand_waiting s k Report refl refl
                (subst (λ (j : ℕ). flag s.machine.awaited j ≡ true) sender_place r.waits.awaited) waiting
                (ap (λ (q : Participant). is_ended q.stage) r.after ∙ ap is_ended (report_searches (own_in g k) r.sender r.told r.going));
          }

    pub phase_tells : (phase : Phase) → InPhase g s k b phase → Tells g s k b (holding phase)
    phase_tells quiet q = quiet_tells q
    phase_tells reported r = reported_tells r
    phase_tells asked a = asked_tells a

    pub phase_some : (phase : Phase) → InPhase g s k b phase → (phase ≡ quiet → ⊥) → 1 ≤ length b
    phase_some quiet q h = absurd (h refl)
    phase_some reported r h = carried_some b _ r.carries
    phase_some asked a h = carried_some b a.told a.carries

  -- ---- once it has ended

  module _ (ended : s.machine.ended ≡ true) (nobody : flag s.machine.awaited k ≡ false) where
    pub closing_tells : (o : Bool) → Closing g s k b o → Tells g s k b (pick o Ending Nothing)
    closing_tells true e =
        record {
          holds = down_holds true e.told e.carries e.read e.passes e.ending;
          short = down_short e.told e.carries e.read e.passes;
          fits = strand_ended s k Ending refl refl nobody ended;
        }
    closing_tells false o =
        record {
          holds = held_none (size g) s k b o.empty;
          short = empty_short (size g) b o.empty;
          fits = strand_ended s k Nothing refl refl nobody ended;
        }

    pub closing_some : (o : Bool) → Closing g s k b o → o ≡ true → 1 ≤ length b
    closing_some true e h = carried_some b e.told e.carries
    closing_some false e h = absurd (true≢false (sym h))
