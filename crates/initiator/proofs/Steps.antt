-- The steps: states and what they send, as the definitions have them.
use mathlib.Core.Path.{◌≡◌, sym, ap, subst, ◌∙◌}
use mathlib.Core.Bool.{Bool, true, false}
use mathlib.Core.List.{List}
use Prim.Native.Nat.{ℕ, ◌-◌, ◌≤◌, ◌<◌}
use Rattle.book.specs.declared.Checkpoint.{Checkpoint}
use Rattle.book.specs.declared.Count.{Count}
use Rattle.book.specs.declared.Process.{Process}
use Rattle.lists.specs.Pick.{pick}
use Rattle.lists.proofs.Pick.{pick_yes, pick_no}
use Rattle.matrix.specs.Matrix.{column, with_row, not_known_matrix}
use Rattle.matrix.specs.Whole.{invitations}
use Rattle.message.specs.declared.Message.{Message}
use Rattle.machine.specs.Own.{Own, sent_row, newest_permitted}
use Rattle.machine.specs.Named.{tally_limit}
use Rattle.machine.specs.Sends.{invitation_head}
use Rattle.machine.specs.Flags.{someone, participants}
use Rattle.initiator.specs.declared.Initiator.{Initiator}
use Rattle.initiator.specs.declared.InitiatorStep.{InitiatorStep}
use Rattle.initiator.specs.Begin.{wait, without_wait, begin_search}
use Rattle.initiator.specs.Step.{take_report, step_back, compare, silent, step}

-- ---- the beginning

pub search_is : (own : Own) (me : Process) (purpose : ℕ) (sent unknown first : List Count) (to : List Bool) (news : List Count) (start state : Initiator)
    → sent ≡ sent_row own own.count → unknown ≡ not_known_matrix own.n → first ≡ with_row unknown (me.0 - 1) sent
    → to ≡ participants own.n (me.0 - 1) → news ≡ invitations (me.0 - 1) sent → start ≡ without_wait own.n me purpose own.count first
    → state ≡ pick (someone to) (wait start to) start
    → ◌≡◌ {A = InitiatorStep}
    (record { state = state; outgoing = record { head = invitation_head purpose me; to = to; news = news } }) (begin_search own me purpose)
unfolding begin_search
search_is own me purpose sent unknown first to news start state e f g h k l m = rw (m, l, k, h, g, f, e)

-- ---- the step back

pub back_is : (own : Own) (state : Initiator) (known : List Count) (r : Checkpoint) (row matrix : List Count)
    → known ≡ column state.matrix (state.me.0 - 1) → r.0 ≡ newest_permitted own known → row ≡ sent_row own r.0
    → matrix ≡ with_row state.matrix (state.me.0 - 1) row
    → ◌≡◌ {A = Initiator} (record {
      n = state.n;
      me = state.me;
      purpose = state.purpose;
      ended = state.ended;
      candidate = r;
      rounds = state.rounds;
      awaited = state.awaited;
      matrix = matrix;
      copy = state.copy;
    }) (step_back own state)
unfolding step_back
back_is own state known r row matrix k f s w =
    let me : ℕ = state.me.0 - 1 in
    let back : r.0 ≡ newest_permitted own (column state.matrix me) = f ∙ ap (λ (l : List Count). newest_permitted own l) k in
    let its : row ≡ sent_row own (newest_permitted own (column state.matrix me)) = s ∙ ap (λ (i : ℕ). sent_row own i) back in
    let all : matrix ≡ with_row state.matrix me (sent_row own (newest_permitted own (column state.matrix me)))
    = w ∙ ap (λ (l : List Count). with_row state.matrix me l) its in
    λ i. record {
      n = state.n;
      me = state.me;
      purpose = state.purpose;
      ended = state.ended;
      candidate = record { 0 = back i };
      rounds = state.rounds;
      awaited = state.awaited;
      matrix = all i;
      copy = state.copy;
    }

-- ---- a report, and what comes of it

-- a report changes neither the process nor the rounds
pub taken_me : (state : Initiator) (m : Message) (taken : Initiator) → taken ≡ take_report state m → taken.me.0 ≡ state.me.0
unfolding take_report
taken_me state m taken e = ap (λ (t : Initiator). t.me.0) e

-- nor does the step back
pub back_keeps : (own : Own) (state : Initiator) (m : Message) (taken back : Initiator) → taken ≡ take_report state m → back ≡ step_back own taken
    → 1 ≤ state.me.0 → state.rounds < tally_limit → (1 ≤ back.me.0) × (back.rounds < tally_limit)
unfolding take_report step_back
back_keeps own state m taken back e f named few =
    let is : back ≡ step_back own (take_report state m) = f ∙ ap (step_back own) e in
    subst (λ (t : Initiator). (1 ≤ t.me.0) × (t.rounds < tally_limit)) (sym is) (named, few)

module _ (own : ℕ → Own) (state : Initiator) (m : Message) (taken : Initiator) (is_taken : taken ≡ take_report state m) (done : InitiatorStep) where
  abbrev me : ℕ
  me = state.me.0 - 1

  abbrev report : Initiator
  report = take_report state m

  still : (b : Bool) → someone taken.awaited ≡ b → someone report.awaited ≡ b
  still b h = subst (λ (t : Initiator). someone t.awaited ≡ b) is_taken h

  -- reports are still out
  pub step_silent : someone taken.awaited ≡ true → done ≡ silent taken → done ≡ step (own me) state m
  unfolding step
  step_silent h e =
      e
      ∙ ap (λ (t : Initiator). silent t) is_taken
      ∙ pick_yes (someone report.awaited) (silent report) (compare (step_back (own me) report)) (still true h)

  -- all reports are in
  pub step_compared : (back : Initiator) → someone taken.awaited ≡ false → back ≡ step_back (own (taken.me.0 - 1)) taken → done ≡ compare back
      → done ≡ step (own me) state m
  unfolding step
  step_compared back h f e =
      let own_same : own (taken.me.0 - 1) ≡ own me = ap (λ (p : ℕ). own (p - 1)) (taken_me state m taken is_taken) in
      let is : back ≡ step_back (own me) report = f ∙ (λ i. step_back (own_same i) (is_taken i)) in
      e
      ∙ ap compare is
      ∙ pick_no (someone report.awaited) (silent report) (compare (step_back (own me) report)) (still false h)
