-- The session once the initiator has taken a step: its machine, the strands and the count of deliveries are others, and nothing else.
use mathlib.Core.Path.{◌≡◌, refl, sym, ap, subst, ◌∙◌}
use mathlib.Core.Bool.{Bool, true, false}
use mathlib.Core.List.{List}
use mathlib.Core.Logic.{◌⊎◌}
use Prim.Native.Nat.{ℕ, ◌+◌}
use lib.ListN.{set}
use Rattle.lists.specs.Pick.{pick}
use Rattle.message.specs.declared.Message.{Message}
use Rattle.mail.specs.declared.Outgoing.{Outgoing}
use Rattle.machine.specs.Own.{Own}
use Rattle.machine.specs.Flags.{someone}
use Rattle.initiator.specs.declared.Initiator.{Initiator}
use Rattle.initiator.specs.declared.InitiatorStep.{InitiatorStep}
use Rattle.initiator.specs.Step.{take_report, step_back, polled, poll, terminate, compare, silent, step}
use Rattle.strands.specs.Strands.{lengths_posted}
use Rattle.session.specs.declared.Session.{Session}
use Rattle.session.specs.Steps.{with_posted}
use Rattle.session_theory.proofs.Search.{Search, is_part}
use Rattle.session_theory.proofs.Invariant.{Placed, box_after, Going, Over}
use Rattle.session_theory.proofs.Moves.{ToParticipants}
use Rattle.session_theory.proofs.Placing.{IsLead, follow_before, placed_again}

abbrev pub moved : Session → Initiator → List ℕ → Session
moved s machine lengths =
    record {
      n = s.n;
      initiator = s.initiator;
      purpose = s.purpose;
      machine = machine;
      participants = s.participants;
      lengths = lengths;
      delivered = s.delivered + 1;
    }

-- the message on k's strand made the initiator take this step
abbrev pub moved_by : Session → ℕ → InitiatorStep → Session
moved_by s k next = moved s next.state (lengths_posted next.outgoing (set s.lengths k 0))

-- what is to be shown of it
abbrev pub Moves : Search → Session → (ℕ → List ℕ) → ℕ → InitiatorStep → Type 0
Moves g s box k next =
    ToParticipants g next.outgoing
    × (Going g (moved_by s k next) (box_after next.outgoing k box) ⊎ Over g (moved_by s k next) (box_after next.outgoing k box))

-- ---- a step is one of three

pub by_step : (P : InitiatorStep → Type 0) (own : Own) (state : Initiator) (m : Message)
    → (someone (take_report state m).awaited ≡ true → step own state m ≡ silent (take_report state m) → P (silent (take_report state m)))
    → (someone (take_report state m).awaited ≡ false → someone (polled (step_back own (take_report state m))) ≡ true
    → step own state m ≡ poll (step_back own (take_report state m)) → P (poll (step_back own (take_report state m))))
    → (someone (take_report state m).awaited ≡ false → someone (polled (step_back own (take_report state m))) ≡ false
    → step own state m ≡ terminate (step_back own (take_report state m)) → P (terminate (step_back own (take_report state m))))
    → P (step own state m)
unfolding step compare
by_step P own state m out polls ends = go (someone taken.awaited) refl (someone (polled back)) refl
  where
    taken : Initiator
    taken = take_report state m

    back : Initiator
    back = step_back own taken

    all_in : someone taken.awaited ≡ false → step own state m ≡ compare back
    all_in e = ap (λ (t : Bool). pick t (silent taken) (compare back)) e

    go : (t : Bool) → someone taken.awaited ≡ t → (u : Bool) → someone (polled back) ≡ u → P (step own state m)
    go true e u f =
        let q : step own state m ≡ silent taken = ap (λ (t : Bool). pick t (silent taken) (compare back)) e in
        subst P (sym q) (out e q)
    go false e true f =
        let q : step own state m ≡ poll back = all_in e ∙ ap (λ (t : Bool). pick t (poll back) (terminate back)) f in
        subst P (sym q) (polls e f q)
    go false e false f =
        let q : step own state m ≡ terminate back = all_in e ∙ ap (λ (t : Bool). pick t (poll back) (terminate back)) f in
        subst P (sym q) (ends e f q)

-- ---- everybody is where they were

pub placed_moved : (g : Search) (s : Session) (k : ℕ) → Placed g s → is_part g k ≡ true → (machine : Initiator) (o : Outgoing)
    → ToParticipants g o → IsLead g machine → Placed g (moved s machine (lengths_posted o (set s.lengths k 0)))
unfolding with_posted
placed_moved g s k placed there machine o to leads =
    placed_again g s placed k there machine s.participants o leads (follow_before g s placed) to
