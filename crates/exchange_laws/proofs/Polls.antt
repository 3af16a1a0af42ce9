-- Polls and terminations: the difference from the copied column, and no difference.
use mathlib.Core.Path.{◌≡◌, refl, sym, ap, subst, ◌∙◌}
use mathlib.Core.Bool.{Bool, true, false, not, ◌&&◌}
use mathlib.Core.List.{List}
use Prim.Native.Nat.{ℕ, ◌-◌, ◌≤◌, ◌<◌}
use native.Mathlib.Omega.{arith}
use borrow.Author.Tests.{eqb-false, eq-eqb, ne_eqb, not-true}
use lib.Dec.{eqb}
use Rattle.book.specs.declared.Count.{Count}
use Rattle.lists.proofs.Tests.{and_both}
use Rattle.lists.proofs.Over.{get_d_tab, all_witness}
use Rattle.consistency.specs.Known.{counters}
use Rattle.matrix.specs.Matrix.{row, column}
use Rattle.matrix.specs.Entries.{diff, patch, same, all_lower}
use Rattle.matrix.specs.Statements.{Fallen}
use Rattle.message.specs.declared.Message.{Message}
use Rattle.message.specs.Layout.{pair_count}
use Rattle.message.specs.Formed.{head_formed, invitation_formed}
use Rattle.machine.specs.Own.{Own}
use Rattle.machine.specs.Named.{is_participant}
use Rattle.machine.specs.Sends.{other_head, no_pairs, is_termination}
use Rattle.machine.specs.Flags.{flag}
use Rattle.machine_laws.proofs.Rows.{column_at, rest_in}
use Rattle.participant.specs.declared.Participant.{Participant}
use Rattle.participant.specs.declared.Stage.TheVariants.{Searching}
use Rattle.participant.specs.Step.{step}
use Rattle.participant_laws.specs.Accepts.{ends_it}
use Rattle.initiator.specs.declared.Initiator.{Initiator}
use Rattle.initiator.specs.Step.{polled, poll, terminate}
use Rattle.initiator_laws.proofs.Sends.{no_pairs_lem}
use Rattle.initiator_laws.proofs.Theorems.{poll_is_diff}
use Rattle.exchange_laws.specs.Ends.{is_search, SameEntries, message_down, PassesDown, TakesPart, HoldsCopy}
use Rattle.exchange_laws.specs.Statements.{PollPasses, TerminationPasses, PollTaken}
use Rattle.exchange_laws.proofs.Counts.{some_pair}
use Rattle.exchange_laws.proofs.Differences.{diff_told, diff_formed, received_lower, received_patch}
use Rattle.exchange_laws.proofs.Heads.{search_in, other_head_lem}
use Rattle.exchange_laws.proofs.Passing.{passes_down}
use Rattle.exchange_laws.proofs.Receivers.{column_taken, nothing_told, me_some, me_within, sender_named, right, empty_passes}

module _ (state : Initiator) (receiver : Participant) (few : state.n ≤ 16) (searches : is_search state.purpose ≡ true)
    (part : TakesPart state.n state.me state.purpose Searching receiver) where
  abbrev n : ℕ
  n = state.n

  abbrev p : ℕ
  p = receiver.me.0 - 1

  within : p < 16
  within = me_within n state.me state.purpose Searching receiver few part

  head_formed_lem : head_formed n 2 state.purpose state.me.0 ≡ true
  head_formed_lem = other_head_lem n state.purpose state.me.0 searches (sender_named n state.me state.purpose Searching receiver few part)

  -- ---- terminations

  ends : PassesDown n (terminate state).outgoing receiver × (is_termination (message_down (terminate state).outgoing receiver) ≡ true)
  unfolding terminate invitation_formed
  ends = (
    empty_passes n state.me state.purpose Searching receiver few part (other_head state.purpose state.me) refl refl refl head_formed_lem refl,
    eq-eqb (pair_count (row no_pairs p)) 0 (no_pairs_lem (row no_pairs p) (nothing_told p within)),
  )

  -- ---- polls

  module _ (holds : HoldsCopy state receiver) (is_polled : flag (polled state) p ≡ true) where
    abbrev m : Message
    m = message_down (poll state).outgoing receiver

    abbrev now : List Count
    now = column state.matrix p

    abbrev held : List Count
    held = column state.copy p

    told : m.news ≡ diff now held
    told = poll_is_diff state p within

    fallen : Fallen now held
    fallen k i = rw (column_at state.matrix k p i, column_at state.copy k p i) (holds.fell k i)

    polled_passes : PassesDown n (poll state).outgoing receiver
    unfolding poll invitation_formed
    polled_passes =
        passes_down n (poll state).outgoing receiver few part.named is_polled
        (diff_formed now held fallen n receiver.me.0 m (me_some n state.me state.purpose Searching receiver few part) told
        (rest_in n p held holds.zeros) head_formed_lem refl)
        (right n state.me state.purpose Searching receiver few part m refl refl refl)
        (subst (λ (l : List Count). all_lower l receiver.column ≡ true) (sym told)
        (received_lower now held fallen receiver.column holds.held))

    -- some entry differs
    differs : same now held ≡ false
    unfolding polled
    differs =
        let both = sym (get_d_tab 16 (λ q. tests q) p false within) ∙ is_polled in
        not-true (same now held) (and_both (is_participant n (state.me.0 - 1) p) (not (same now held)) both).1
      where
        tests : ℕ → Bool
        tests q = is_participant n (state.me.0 - 1) q && not (same (column state.matrix q) (column state.copy q))

    some : 1 ≤ pair_count m.news
    unfolding same
    some =
        let at = all_witness 16 (λ k. eqb (counters now k) (counters held k)) differs in
        subst (λ (l : List Count). 1 ≤ pair_count l) (sym told)
        (some_pair (diff now held) at.0 at.1 (diff_told now held fallen at.0 at.1 (eqb-false (counters now at.0) (counters held at.0) at.2)))

    no_end : is_termination m ≡ false
    unfolding poll
    no_end = ne_eqb (pair_count m.news) 0 (λ e. absurd (omega (arith, some, e)))

    going : ends_it m ≡ false
    unfolding poll
    going = rw (search_in state.purpose searches).1 no_end

    taken : (its : Own) → SameEntries (step its receiver m).state.column now
    taken its k i =
        ap (λ (l : List Count). counters l k) (column_taken its receiver m going ∙ ap (patch receiver.column) told)
        ∙ received_patch now held fallen receiver.column holds.held k i

pub poll_passes : PollPasses
poll_passes state receiver with_it holds is_polled = (
  polled_passes state receiver with_it.most with_it.searching with_it.part holds is_polled,
  no_end state receiver with_it.most with_it.searching with_it.part holds is_polled,
)

pub termination_passes : TerminationPasses
termination_passes state receiver with_it = ends state receiver with_it.most with_it.searching with_it.part

pub poll_taken : PollTaken
poll_taken state receiver with_it = taken state receiver with_it.most with_it.searching with_it.part
