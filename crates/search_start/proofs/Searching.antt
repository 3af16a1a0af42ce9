-- A search has begun: everybody is on its newest checkpoint, at or above the line, and the initiator waits if there is somebody
-- to wait for.
use mathlib.Core.Path.{◌≡◌, refl, ap, ◌∙◌}
use mathlib.Core.Bool.{true, false}
use mathlib.Core.Logic.{inl, inr}
use Prim.Native.Nat.{ℕ, ◌≤◌, ◌<◌}
use native.Mathlib.Decide.{ℕ_discrete}
use native.Mathlib.Omega.{arith}
use borrow.Author.Tests.{lt-ltb, ne_eqb}
use lib.Dec.{eqb}
use Rattle.book.specs.declared.Process.{Process}
use Rattle.lists.proofs.Over.{get_d_tab}
use Rattle.machine.specs.Own.{Own}
use Rattle.machine.specs.Named.{is_participant}
use Rattle.machine.specs.Flags.{flag, someone, participants}
use Rattle.participant.specs.declared.Participant.{Participant}
use Rattle.machine_laws.proofs.Flags.{flagged_some, flagged_none}
use Rattle.initiator.specs.declared.Initiator.{Initiator}
use Rattle.initiator.specs.declared.InitiatorStep.{InitiatorStep}
use Rattle.initiator.specs.Begin.{wait, without_wait, begin_search, begin}
use Rattle.session.specs.Workers.{stands_on}
use Rattle.session_theory.proofs.Search.{Search, IsSearch, size, lead, own_in, view_in, line_in}
use Rattle.session_theory.proofs.Facts.{worker, part_within, stands_lead, stands_part, line_is}
use Rattle.search_start.proofs.Start.{others, ready, by_search, started, first_step, machine_is, leads, place_part}

-- ---- is there somebody to wait for?

module _ (n me : ℕ) where
  pub participant_flag : (k : ℕ) → k < 16 → flag (participants n me) k ≡ is_participant n me k
  unfolding participants
  participant_flag k h = get_d_tab 16 (λ p. is_participant n me p) k false h

  others_by : (k : ℕ) → k < 16 → is_participant n me k ≡ true → someone (participants n me) ≡ true
  others_by k h e = flagged_some (participants n me) k h (participant_flag k h ∙ e)

  -- the first process, or the second where the first began
  pub others_some : 2 ≤ n → someone (participants n me) ≡ true
  others_some two = elim (ℕ_discrete me 0) [
    | yes e ↦ others_by 1 (omega arith) (rw (lt-ltb 1 n (omega arith), ne_eqb 1 me (omega arith)))
    | no e ↦ others_by 0 (omega arith) (rw (lt-ltb 0 n (omega arith), ne_eqb 0 me (omega arith)))
  ]

  pub others_none : ((k : ℕ) → is_participant n me k ≡ false) → someone (participants n me) ≡ false
  others_none none = flagged_none (participants n me) (λ k h. participant_flag k h ∙ none k)

-- ---- the initiator's machine

module _ (own : Own) (me : Process) (purpose : ℕ) where
  begin_search_lem : eqb purpose 2 ≡ false → begin own me purpose ≡ begin_search own me purpose
  unfolding begin
  begin_search_lem e = rw e

  pub search_waits : someone (others own me purpose) ≡ true
      → (begin_search own me purpose).state ≡ wait (ready own me purpose) (others own me purpose)
  unfolding begin_search
  search_waits e = rw e

  pub search_alone : someone (others own me purpose) ≡ false → (begin_search own me purpose).state ≡ ready own me purpose
  unfolding begin_search
  search_alone e = rw e

  search_newest : (begin_search own me purpose).state.candidate.0 ≡ own.count
  unfolding wait without_wait
  search_newest = by_search own me purpose (λ m. m.candidate.0 ≡ own.count) refl refl

-- ---- where everybody stands

module _ (g : Search) (is : IsSearch g) (searches : eqb g.purpose 2 ≡ false) where
  pub first_search : first_step g ≡ begin_search (own_in g (lead g)) g.initiator g.purpose
  first_search = begin_search_lem (own_in g (lead g)) g.initiator g.purpose searches

  stands_first : (started g).machine.candidate.0 ≡ (view_in g).count (lead g)
  stands_first =
      ap (λ (m : Initiator). m.candidate.0) (machine_is g)
      ∙ (ap (λ (s : InitiatorStep). s.state.candidate.0) first_search
      ∙ search_newest (own_in g (lead g)) g.initiator g.purpose)

  pub stands_newest : (j : ℕ) → j < size g → stands_on (started g) j ≡ (view_in g).count j
  stands_newest j h = elim (worker g j h) [
    | inl e ↦ rw e (stands_lead g (started g) (leads g) ∙ stands_first)
    | inr there ↦
        stands_part g (started g) (leads g) j there
        ∙ ap (λ (p : Participant). p.candidate.0) (place_part g j (part_within g is j there) there)
  ]

  pub line_most : (j : ℕ) → j < size g → line_in g j ≤ (view_in g).count j
  line_most j h = (line_is g is).is_set.among j h

  pub above_line : (j : ℕ) → j < size g → line_in g j ≤ stands_on (started g) j
  above_line j h = rw (stands_newest j h) (line_most j h)
