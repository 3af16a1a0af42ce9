-- Reports are still out: the initiator goes on waiting.
use mathlib.Core.Path.{◌≡◌, refl, sym, ap, ◌∙◌}
use mathlib.Core.Bool.{Bool, true, false, not, ◌&&◌, true≢false, and-true, and-false}
use mathlib.Core.List.{List}
use mathlib.Core.Logic.{inl}
use Prim.Native.Nat.{ℕ, ◌+◌, ◌<◌}
use native.Mathlib.Omega.{arith}
use borrow.Author.Tests.{eq-eqb, ne_eqb}
use lib.ListN.{set}
use Rattle.lists.specs.Over.{sum_to}
use Rattle.message.specs.declared.Message.{Message}
use Rattle.mail.specs.declared.Outgoing.{Outgoing}
use Rattle.mail.specs.Outgoing.{goes_to}
use Rattle.machine.specs.Flags.{flag, someone}
use Rattle.machine.specs.Sends.{other_head, nothing}
use Rattle.participant_laws.proofs.Report.{nothing_goes}
use Rattle.initiator.specs.declared.Initiator.{Initiator}
use Rattle.initiator.specs.Step.{take_report, silent}
use Rattle.initiator_laws.proofs.Fit.{fits_out}
use Rattle.initiator_laws.proofs.Reported.{taken_fit}
use Rattle.strands.specs.Strands.{lengths_posted}
use Rattle.session.specs.declared.Session.{Session}
use Rattle.session_theory.proofs.Search.{Search, IsSearch, lead, is_part, own_in}
use Rattle.session_theory.proofs.Invariant.{box_after, Phase, quiet, reported, weight, InPhase, IsQuiet, IsReported, Waits}
use Rattle.session_theory.proofs.Moves.{ToParticipants}
use Rattle.session_theory.proofs.Boxes.{box_empty, box_kept}
use Rattle.session_theory.proofs.Changed.{changed, changed_other, changed_sum, by_changed}
use Rattle.session_theory.proofs.Kept.{SameFor, phase_kept}
use Rattle.session_theory.proofs.Placing.{not_part}
use Rattle.session_theory.proofs.Facts.{part_within}
use Rattle.search_rounds.proofs.Moved.{moved, Moves, placed_moved}
use Rattle.search_rounds.proofs.Arrives.{Arrived}

module _ (g : Search) (s : Session) (box : ℕ → List ℕ) (phase : ℕ → Phase) (ahead k : ℕ) (is : IsSearch g) (w : Waits g s box phase ahead)
    (there : is_part g k ≡ true) (rep : IsReported g s k (box k)) (is_reported : phase k ≡ reported) (m : Message) (arrived : Arrived g s k (box k) m)
    (out : someone (take_report s.machine m).awaited ≡ true) where
  abbrev taken : Initiator
  taken = take_report s.machine m

  abbrev outgoing : Outgoing
  outgoing = nothing (other_head taken.purpose taken.me)

  abbrev after : Session
  after = moved s taken (lengths_posted outgoing (set s.lengths k 0))

  abbrev boxes : ℕ → List ℕ
  boxes = box_after outgoing k box

  abbrev phases : ℕ → Phase
  phases = changed phase k quiet

  silent_to : (q : ℕ) → q < 16 → goes_to outgoing q ≡ false
  silent_to = nothing_goes (other_head taken.purpose taken.me)

  to : ToParticipants g outgoing
  to q h e = absurd (true≢false (sym e ∙ silent_to q h))

  -- its own report is in
  here : IsQuiet g after k (boxes k)
  unfolding take_report
  here =
      record {
        empty = box_empty outgoing k box (silent_to k (part_within g is k there));
        awaited =
            arrived.flags k (part_within g is k there)
            ∙ (ap (λ (t : Bool). flag s.machine.awaited k && not t) (eq-eqb k k refl) ∙ and-false (flag s.machine.awaited k));
        searching = arrived.searching;
        row_held = arrived.row_held;
        column_held = rep.column_held;
      }

  same_for : (q : ℕ) → q < 16 → (q ≡ k → ⊥) → SameFor s.machine taken q
  unfolding take_report
  same_for q h ne =
      record {
        processes = refl;
        me = refl;
        purpose = refl;
        ended = refl;
        copy = refl;
        awaited =
            arrived.flags q h
            ∙ (ap (λ (t : Bool). flag s.machine.awaited q && not t) (ne_eqb q k ne) ∙ and-true (flag s.machine.awaited q));
        held = arrived.other_held q h ne;
      }

  in_phase : (q : ℕ) → is_part g q ≡ true → InPhase g after q (boxes q) (phases q)
  in_phase =
      by_changed phase k quiet (λ q f. is_part g q ≡ true → InPhase g after q (boxes q) f) (λ part. here)
      (λ q ne part.
      let h : q < 16 = part_within g is q part in
      phase_kept g s after q (box q) (boxes q) refl (box_kept outgoing k box q (silent_to q h) ne) is part (same_for q h ne) (phase q)
      (w.in_phase q part))

  rest : (q : ℕ) → q < 16 → is_part g q ≡ false → phases q ≡ quiet
  rest q h absent = changed_other phase k quiet q (not_part g k q there absent) ∙ w.rest q h absent

  weights : sum_to 16 (λ q. weight (phases q)) + 1 ≡ sum_to 16 (λ q. weight (phase q))
  weights = changed_sum phase k quiet weight (part_within g is k there) (rw is_reported)

  still_waits : Waits g after boxes phases ahead
  unfolding take_report
  still_waits =
      record {
        placed =
            placed_moved g s k w.placed there taken outgoing to
            (record {
              me = w.placed.machine_me;
              purpose = w.placed.machine_purpose;
              fitting = fits_out (own_in g (lead g)) taken (taken_fit (own_in g (lead g)) s.machine m arrived.accepts out);
            });
        waiting = w.waiting;
        in_phase = in_phase;
        rest = rest;
        above = w.above;
        copied = w.copied;
        marked = w.marked;
        falls = w.falls;
        rounds_left = w.rounds_left;
        deliveries_left = omega (arith, weights, w.deliveries_left);
      }

  pub goes_on : Moves g s box k (silent taken)
  goes_on = (to, inl (phases, ahead, still_waits))
