-- The steps: states and what they send, as the definitions have them.
use mathlib.Core.Path.{◌≡◌, ap, ◌∙◌}
use mathlib.Core.Bool.{true, false}
use mathlib.Core.List.{List}
use Prim.Native.Nat.{ℕ, ◌-◌}
use lib.Dec.{eqb}
use borrow.Author.Tests.{eq-eqb, ne_eqb}
use Rattle.book.specs.declared.Checkpoint.{Checkpoint}
use Rattle.book.specs.declared.Count.{Count}
use Rattle.matrix.specs.Entries.{diff, patch}
use Rattle.message.specs.declared.Message.{Message}
use Rattle.mail.specs.declared.Outgoing.{Outgoing}
use Rattle.machine.specs.Own.{Own, sent_row, newest_permitted}
use Rattle.machine.specs.Sends.{other_head, only_to, is_termination}
use Rattle.participant.specs.declared.Participant.{Participant}
use Rattle.participant.specs.declared.ParticipantStep.{ParticipantStep}
use Rattle.participant.specs.declared.Stage.TheVariants.{Searching}
use Rattle.participant.specs.Step.{kind_awaited, awaits, end_on_oldest, end, step_back, report_of, silent, step}

-- ---- what a step makes

pub back_is : (own : Own) (state : Participant) (m : Message) (known : List Count) (r : Checkpoint) (row : List Count)
    → known ≡ patch state.column m.news → r.0 ≡ newest_permitted own known → row ≡ sent_row own r.0
    → ◌≡◌ {A = Participant} (record {
      n = state.n;
      me = state.me;
      initiator = state.initiator;
      purpose = state.purpose;
      stage = Searching;
      candidate = r;
      row = row;
      column = known;
    }) (step_back own state m)
unfolding step_back
back_is own state m known r row p q s =
    let back : r.0 ≡ newest_permitted own (patch state.column m.news) = q ∙ ap (λ (k : List Count). newest_permitted own k) p in
    let its : row ≡ sent_row own (newest_permitted own (patch state.column m.news)) = s ∙ ap (λ (k : ℕ). sent_row own k) back in
    λ i. record {
      n = state.n;
      me = state.me;
      initiator = state.initiator;
      purpose = state.purpose;
      stage = Searching;
      candidate = record { 0 = back i };
      row = its i;
      column = p i;
    }

pub report_is : (before after : Participant) (news : List Count) (o : Outgoing) → news ≡ diff after.row before.row
    → o ≡ only_to (other_head before.purpose before.me) (before.initiator.0 - 1) news
    → ◌≡◌ {A = ParticipantStep} (record { state = after; outgoing = o }) (report_of before after)
unfolding report_of
report_is before after news o p q =
    let sent = q ∙ ap (λ (k : List Count). only_to (other_head before.purpose before.me) (before.initiator.0 - 1) k) p in
    λ i. record { state = after; outgoing = sent i }

-- ---- which step

module _ (own : Own) (state : Participant) (m : Message) (after : Participant) (done : ParticipantStep) where
  pub on_oldest : m.head.purpose ≡ 2 → after ≡ end_on_oldest state → done ≡ silent after → done ≡ step own state m
  unfolding step
  on_oldest two p q = rw (eq-eqb m.head.purpose 2 two) (q ∙ ap (λ (t : Participant). silent t) p)

  module _ (other : m.head.purpose ≡ 2 → ⊥) where
    pub on_end : is_termination m ≡ true → after ≡ end state → done ≡ silent after → done ≡ step own state m
    unfolding step
    on_end t p q = rw (ne_eqb m.head.purpose 2 other, t) (q ∙ ap (λ (t : Participant). silent t) p)

    pub on_news : is_termination m ≡ false → after ≡ step_back own state m → done ≡ report_of state after → done ≡ step own state m
    unfolding step
    on_news t p q = rw (ne_eqb m.head.purpose 2 other, t) (q ∙ ap (λ (t : Participant). report_of state t) p)

-- ---- whether a message is awaited

module _ (state : Participant) (m : Message) where
  pub other_sender : eqb m.head.sender.0 state.initiator.0 ≡ false → false ≡ awaits state m
  unfolding awaits
  other_sender h = rw h

  module _ (from : eqb m.head.sender.0 state.initiator.0 ≡ true) where
    pub other_purpose : (m.head.purpose ≡ state.purpose → ⊥) → false ≡ awaits state m
    unfolding awaits
    other_purpose h = rw (from, ne_eqb m.head.purpose state.purpose h)

    pub by_kind : m.head.purpose ≡ state.purpose → kind_awaited state.stage m.head.kind ≡ awaits state m
    unfolding awaits
    by_kind h = rw (from, eq-eqb m.head.purpose state.purpose h)
