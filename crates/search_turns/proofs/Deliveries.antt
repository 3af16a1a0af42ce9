-- A message is delivered to participant k: an invitation or a poll, and it reports; or what ends its search, and it ends.
use mathlib.Core.Path.{◌≡◌, refl, sym, ap, subst, ◌∙◌}
use mathlib.Core.Bool.{Bool, true, false, true≢false}
use mathlib.Core.List.{List}
use Prim.Native.Nat.{ℕ, ◌+◌, ◌-◌, ◌<◌}
use native.Mathlib.Omega.{arith}
use borrow.Author.Tests.{eq-eqb, ne_eqb, eqb-false, eqb-true}
use lib.Dec.{eqb}
use Rattle.book.specs.declared.Process.{Process}
use Rattle.lists.specs.Over.{sum_to}
use Rattle.matrix.specs.Matrix.{column}
use Rattle.matrix.specs.Entries.{patch}
use Rattle.message.specs.declared.Message.{Message}
use Rattle.message.specs.Layout.{message_bytes}
use Rattle.mail.specs.declared.Outgoing.{Outgoing}
use Rattle.mail.specs.Outgoing.{goes_to, message_to}
use Rattle.participant.specs.declared.Participant.{Participant}
use Rattle.participant.specs.declared.ParticipantStep.{ParticipantStep}
use Rattle.participant_laws.specs.Accepts.{Accepts, ends_it}
use Rattle.participant_laws.proofs.Theorems.{end_is_silent}
use Rattle.exchange_laws.specs.Ends.{is_search, SameEntries, WaitsFor}
use Rattle.exchange_laws.proofs.Heads.{search_in}
use Rattle.session.specs.declared.Session.{Session}
use Rattle.session.specs.Workers.{initiator_of, participant_at, stands_on}
use Rattle.session_theory.proofs.Search.{Search, IsSearch, size, lead, is_part, own_in}
use Rattle.session_theory.proofs.Facts.{few, lead_in, part_within, part_me, stands_part, machine_n}
use Rattle.session_theory.proofs.Invariant.{Part, Placed, box_after, Phase, reported, asked, weight, IsAsked, IsReported, InPhase, Waits, IsEnding, IsOver, Closing, one, Ends, Finished, Restarts}
use Rattle.session_theory.proofs.Moves.{ToParticipants}
use Rattle.session_theory.proofs.Boxes.{box_new, box_empty, box_kept}
use Rattle.session_theory.proofs.Changed.{by_place, changed, changed_other, changed_sum, by_changed}
use Rattle.session_theory.proofs.Kept.{same_machine, phase_kept, closing_kept}
use Rattle.session_theory.proofs.Placing.{not_part}
use Rattle.search_turns.proofs.Strand.{strand_goes, strand_carries, strand_silent}
use Rattle.search_turns.proofs.Moved.{Moved, stands_other, stands_here}
use Rattle.search_turns.proofs.Steps.{told_purpose, step_ended, step_stands, step_oldest, read_in, taken, sends, left, delivery_accepted, delivery_moved, delivery_placed}
use Rattle.search_turns.proofs.Reports.{Reports, reports, above_again, copied_again, falls_again}

module _ (g : Search) (is : IsSearch g) (s : Session) (placed : Placed g s) (box : ℕ → List ℕ) (k : ℕ) (there : is_part g k ≡ true) where
  abbrev p : Participant
  p = participant_at s k

  abbrev m : Message
  m = read_in g s k (box k)

  abbrev next : ParticipantStep
  next = taken g s k (box k)

  abbrev o : Outgoing
  o = sends g s k (box k)

  abbrev s' : Session
  s' = left g s k (box k)

  within : k < 16
  within = part_within g is k there

  part : Part g k p
  part = placed.part k there

  led : initiator_of s ≡ lead g
  led = ap (λ (q : Process). q.0 - 1) placed.leader

  -- ---- an invitation or a poll

  module _ (phase : ℕ → Phase) (ahead : ℕ) (waits : Waits g s box phase ahead) (now : phase k ≡ asked) where
    abbrev now_reported : ℕ → Phase
    now_reported = changed phase k reported

    asks : IsAsked g s k (box k)
    asks = subst (InPhase g s k (box k)) now (waits.in_phase k there)

    accepted : Accepts (own_in g k) p m
    accepted = delivery_accepted g is s placed k there (box k) asks.passes

    going : ends_it m ≡ false
    going = rw asks.read asks.going

    brings : SameEntries (patch p.column m.news) (column s.machine.copy k)
    brings = rw asks.read asks.brings

    step_is : Reports g k p m next.state next.outgoing
    step_is = reports g is k there p part m accepted going

    move : Moved s k next.state s'
    move = delivery_moved g is s placed k there (box k) asks.passes

    -- what is sent

    sent : goes_to next.outgoing (initiator_of s) ≡ true
    sent = rw led step_is.sent

    goes : (q : ℕ) → q < 16 → goes_to o q ≡ eqb q k
    goes = strand_goes k (initiator_of s) next.outgoing sent

    pub to_participants : ToParticipants g o
    to_participants q h sent = rw (eqb-true q k (sym (goes q h) ∙ sent)) there

    carries : box_after o k box k ≡ message_bytes (message_to next.outgoing (lead g))
    carries =
        box_new o k box k (goes k within ∙ eq-eqb k k refl)
        ∙ (ap message_bytes (strand_carries k (initiator_of s) next.outgoing sent within)
        ∙ ap (λ (q : ℕ). message_bytes (message_to next.outgoing q)) led)

    kept : (q : ℕ) → q < 16 → (q ≡ k → ⊥) → box_after o k box q ≡ box q
    kept q h other = box_kept o k box q (goes q h ∙ ne_eqb q k other) other

    -- the phases

    awaits_it : WaitsFor (size g) p s.machine
    awaits_it =
        record {
          processes = machine_n g s placed;
          initiated = ap (λ (q : Process). q.0) (placed.machine_me ∙ sym part.leader);
          same_purpose = placed.machine_purpose ∙ sym part.purpose;
          waiting = waits.waiting;
          awaited = rw (part_me g is k there p part) asks.awaited;
          held = rw (part_me g is k there p part) asks.row_held;
        }

    has_reported : IsReported g s' k (box_after o k box k)
    has_reported =
        record {
          sender = p;
          told = m;
          from = part;
          accepts = accepted;
          going = going;
          after = move.here;
          carries = carries;
          waits = rw move.machine awaits_it;
          column_held = rw (move.machine, move.here, step_is.taken) brings;
        }

    phases : (q : ℕ) → is_part g q ≡ true → InPhase g s' q (box_after o k box q) (now_reported q)
    phases =
        by_changed phase k reported (λ q f. is_part g q ≡ true → InPhase g s' q (box_after o k box q) f) (λ is_there. has_reported)
        (λ q other is_there.
        phase_kept g s s' q (box q) (box_after o k box q) (move.others q other) (kept q (part_within g is q is_there) other) is is_there
        (same_machine s.machine s'.machine q move.machine) (phase q) (waits.in_phase q is_there))

    pub waits_on : Waits g s' (box_after o k box) now_reported ahead
    waits_on =
        record {
          placed = delivery_placed g is s placed k there (box k) asks.passes to_participants;
          waiting = rw move.machine waits.waiting;
          in_phase = phases;
          rest = λ q h none. changed_other phase k reported q (not_part g k q there none) ∙ waits.rest q h none;
          above = above_again g is s box phase ahead k waits there m next.state next.outgoing step_is brings s' move;
          copied = copied_again g is s box phase ahead k waits there m next.state next.outgoing step_is brings s' move;
          marked = λ j p h i. rw move.machine (waits.marked j p h i);
          falls = falls_again g is s box phase ahead k waits there m next.state next.outgoing step_is brings s' move;
          rounds_left = rw move.machine waits.rounds_left;
          deliveries_left =
              omega (arith, move.delivered, changed_sum phase k reported weight within (rw now), waits.deliveries_left);
        }

  -- ---- a termination, or a restart's invitation

  module _ (open' : ℕ → Bool) (ends : Ends g s box open') (still : open' k ≡ true) where
    abbrev now_closed : ℕ → Bool
    now_closed = changed open' k false

    coming : IsEnding g s k (box k)
    coming = subst (Closing g s k (box k)) still (ends.closing k there)

    ending : ends_it m ≡ true
    ending = rw coming.read coming.ending

    purpose : m.head.purpose ≡ g.purpose
    purpose = told_purpose g is k there p part m (delivery_accepted g is s placed k there (box k) coming.passes)

    change : Moved s k next.state s'
    change = delivery_moved g is s placed k there (box k) coming.passes

    -- nothing is sent

    silent : (q : ℕ) → q < 16 → goes_to o q ≡ false
    silent =
        strand_silent k (initiator_of s) next.outgoing
        (end_is_silent (own_in g k) p m ending (initiator_of s) (rw led (omega (arith, lead_in g is, few g is))))

    pub to_nobody : ToParticipants g o
    to_nobody q h sent = absurd (true≢false (sym sent ∙ silent q h))

    -- the participant has ended, and the others are as they were

    over : IsOver g s' k (box_after o k box k)
    over =
        record {
          empty = box_empty o k box (silent k within);
          ended = rw change.here (step_ended (own_in g k) p m ending);
        }

    all_closing : (q : ℕ) → is_part g q ≡ true → Closing g s' q (box_after o k box q) (now_closed q)
    all_closing =
        by_changed open' k false (λ q f. is_part g q ≡ true → Closing g s' q (box_after o k box q) f) (λ is_there. over)
        (λ q other is_there.
        closing_kept g s s' q (box q) (box_after o k box q) (change.others q other)
        (box_kept o k box q (silent q (part_within g is q is_there)) other) (open' q) (ends.closing q is_there))

    pub ends_on : Ends g s' (box_after o k box) now_closed
    ends_on =
        record {
          placed = delivery_placed g is s placed k there (box k) coming.passes to_nobody;
          ended = rw change.machine ends.ended;
          nobody = λ q h. rw change.machine (ends.nobody q h);
          closing = all_closing;
          rest = λ q h none. changed_other open' k false q (not_part g k q there none) ∙ ends.rest q h none;
        }

    one_less : sum_to 16 (λ q. one (now_closed q)) + 1 ≡ sum_to 16 (λ q. one (open' q))
    one_less = changed_sum open' k false one within (rw still)

    -- where it stands

    here_now : stands_on s' k ≡ next.state.candidate.0
    here_now = stands_here s k next.state s' change g placed.leader there

    stands_kept : (g.purpose ≡ 2 → ⊥) → (j : ℕ) → stands_on s' j ≡ stands_on s j
    stands_kept searches =
        by_place (λ j. stands_on s' j ≡ stands_on s j) k
        (here_now
        ∙ (step_stands (own_in g k) p m ending (λ two. searches (sym purpose ∙ two)) ∙ sym (stands_part g s placed.leader k there)))
        (stands_other s k next.state s' change)

    pub finished_on : is_search g.purpose ≡ true → Finished g s box open' → Finished g s' (box_after o k box) now_closed
    finished_on searches finished =
        record {
          ends = ends_on;
          on_line =
              λ j h. stands_kept (eqb-false g.purpose 2 (search_in g.purpose searches).1) j ∙ finished.on_line j h;
          few_rounds = rw change.machine finished.few_rounds;
          deliveries_left = omega (arith, change.delivered, one_less, finished.deliveries_left);
        }

    pub restarts_on : g.purpose ≡ 2 → Restarts g s box open' → Restarts g s' (box_after o k box) now_closed
    restarts_on two restarts =
        record {
          ends = ends_on;
          on_oldest =
              by_place (λ j. j < size g → now_closed j ≡ false → stands_on s' j ≡ 1) k
              (λ h closed. here_now ∙ step_oldest (own_in g k) p m ending (purpose ∙ two))
              (λ j other h closed.
              stands_other s k next.state s' change j other
              ∙ restarts.on_oldest j h (sym (changed_other open' k false j other) ∙ closed));
          no_round = rw change.machine restarts.no_round;
          deliveries = omega (arith, change.delivered, one_less, restarts.deliveries);
        }
