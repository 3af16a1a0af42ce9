-- Question 13 of a session: each place, and the whole.
use mathlib.Core.Path.{◌≡◌, sym, ap, ◌∙◌}
use mathlib.Core.Bool.{Bool, true, false, not, ◌&&◌, true≢false}
use mathlib.Core.List.{List}
use Prim.Native.Nat.{ℕ, ◌-◌, ◌≤◌, ◌<◌}
use borrow.Author.Tests.{eq-eqb, ne_eqb, lt-ltb, le-ltb}
use lib.ListN.{length}
use lib.Dec.{eqb, ltb}
use Rattle.book.specs.Lent.{Tables}
use Rattle.lists.proofs.Tests.{and_both}
use Rattle.lists.specs.Over.{all_to}
use Rattle.lists.specs.Pick.{pick}
use Rattle.machine.specs.Own.{own_of}
use Rattle.machine.specs.Named.{is_participant, tally_limit}
use Rattle.machine.specs.Flags.{flag}
use Rattle.participant.specs.declared.Participant.{Participant}
use Rattle.initiator.specs.declared.Initiator.{Initiator}
use Rattle.initiator.specs.Calls.{message_question}
use Rattle.initiator.specs.Fits as initiator
use Rattle.initiator.proofs.Fitting.{fitting_size}
use Rattle.strands.specs.Strands.{length_on, strand_bytes}
use Rattle.session.specs.declared.Session.{Session}
use Rattle.session.specs.declared.Waiting.{Waiting}
use Rattle.session.specs.Workers.{initiator_of, participant_at}
use Rattle.session.specs.declared.Waiting.TheVariants.{Nothing, Asking, Ending, Report, Stray}
use Rattle.session.specs.Held.{held_up, is_report, is_stray, held}
use Rattle.session.specs.Fits.{initiator_fits, participant_fits, strand_within, strand_fits, is_absent, place_fits, session_fits}
use Rattle.session_check.specs.Parts.{initiator_on, machine_fits, held_fits, length_fits, bytes_on, held_of, with_above, Told, place_on, PlaceTold}
use Rattle.lists.proofs.Pick.{pick_yes, pick_no}
use Rattle.session_check.proofs.Chains.{first_of_three, second_of_three, third_of_three, first_of_four, second_of_four, last_of_four, but_last_of_four}
use Rattle.session_check.proofs.Strand.{above_fits, above_not}

-- a machine that fits is of as many processes as the tables
pub fitting_machine : (tables : Tables) (session : Session) → initiator_fits tables session ≡ true
    → session.machine.n ≡ tables.shape.n
unfolding initiator_fits
fitting_machine tables session h =
    let own = own_of tables (initiator_of session) in
    let machine = session.machine in
    let rest = (and_both (eqb machine.me.0 session.initiator.0) _ h).1 in
    fitting_size own machine (and_both (eqb machine.purpose session.purpose) (initiator.fits own machine) rest).1

-- what is told of the initiator's machine
pub begun_told : (tables : Tables) (session : Session) {t : Bool}
    → t ≡ initiator_on tables session.initiator.0 session.purpose session.machine → t ≡ initiator_fits tables session
unfolding initiator_fits
begun_told tables session e = e

-- ---- a place

module _ (tables : Tables) (of purpose : ℕ) (p : Participant) (awaited ended : Bool) (waits : ℕ) (strands : List ℕ) (k : ℕ) where
  abbrev there : Bool
  there = is_participant tables.shape.n (of - 1) k

  abbrev machine_there : Bool
  machine_there = machine_fits tables of purpose p k

  abbrev within_there : Bool
  within_there = length_fits tables.shape.n (of - 1) k waits (length strands)

  abbrev its : List ℕ
  its = bytes_on tables.shape.n (of - 1) waits strands k

  abbrev held_right : Initiator → Bool
  held_right m = held_fits awaited ended p.stage (held_of tables.shape.n of p m k its)

  abbrev Place : Waiting → Type 0
  Place w = PlaceTold tables of purpose p awaited ended waits strands k w

  abbrev on_place : Initiator → Bool
  on_place m = machine_there && (within_there && held_right m)

  abbrev no_place : Bool
  no_place = is_absent p && eqb waits 0

  abbrev place : Initiator → Bool
  place m = place_on tables of purpose p m awaited ended waits strands k

  is_there : there ≡ true → (m : Initiator) → on_place m ≡ place m
  unfolding place_on
  is_there h m = pick_yes there (on_place m) no_place h

  not_there : there ≡ false → (m : Initiator) → no_place ≡ place m
  unfolding place_on
  not_there h m = pick_no there (on_place m) no_place h

  pub place_absent : (w : Waiting) → there ≡ false → not (is_stray w) ≡ no_place → is_report w ≡ false → Place w
  place_absent w h e f =
      λ m.
      ap (λ (v : Waiting). not (is_stray v)) (sym (pick_no (is_report w) (held_up tables.shape.n m its) w f)) ∙ (e ∙ not_there h m)

  module _ (h : there ≡ true) where
    pub place_machine : machine_there ≡ false → Place Stray
    place_machine f = λ m. first_of_three machine_there within_there (held_right m) f ∙ is_there h m

    module _ (fits : machine_there ≡ true) where
      pub place_within : within_there ≡ false → Place Stray
      place_within f = λ m. second_of_three machine_there within_there (held_right m) fits f ∙ is_there h m

      module _ (within : within_there ≡ true) (w : Waiting) (told : Told tables.shape.n of p k its w) where
        by_held : (m : Initiator) {r : Bool} → r ≡ held_fits awaited ended p.stage (with_above tables.shape.n m its w) → r ≡ place m
        by_held m e =
            third_of_three machine_there within_there (held_right m) fits within
            (e ∙ ap (λ (v : Waiting). held_fits awaited ended p.stage v) (told m))
            ∙ is_there h m

        pub place_not : held_fits awaited ended p.stage w ≡ false → Place Stray
        unfolding held_up
        place_not f = λ m. by_held m (above_not awaited ended p.stage w (eqb (message_question tables.shape.n m its) 0) f)

        pub place_held : held_fits awaited ended p.stage w ≡ true → Place w
        unfolding held_up
        place_held f = λ m. by_held m (above_fits awaited ended p.stage w (eqb (message_question tables.shape.n m its) 0) f)

-- ---- a place of a session

told_stray : (w up : Waiting) {f : Bool} → not (is_stray (pick (is_report w) up w)) ≡ f → is_stray w ≡ true → f ≡ false
told_stray Nothing up e h = absurd (true≢false (sym h))
told_stray Asking up e h = absurd (true≢false (sym h))
told_stray Ending up e h = absurd (true≢false (sym h))
told_stray Report up e h = absurd (true≢false (sym h))
told_stray Stray up e h = sym e

module _ (tables : Tables) (session : Session) (strands : List ℕ) (k : ℕ) where
  abbrev Its : Waiting → Type 0
  Its w =
      PlaceTold tables session.initiator.0 session.purpose (participant_at session k) (flag session.machine.awaited k) session.machine.ended
      (length_on session.lengths k)
      strands
      k
      w

  abbrev at_initiator : Waiting
  at_initiator = held_up tables.shape.n session.machine (bytes_on tables.shape.n (initiator_of session) (length_on session.lengths k) strands k)

  module _ (w : Waiting) (told : Its w) where
    is_told : not (is_stray (pick (is_report w) at_initiator w)) ≡ place_fits tables session strands k
    unfolding place_fits participant_fits strand_within strand_fits place_on held_of held strand_bytes
    is_told = told session.machine

    pub fit_stray : is_stray w ≡ true → place_fits tables session strands k ≡ false
    fit_stray h = told_stray w at_initiator is_told h

    pub fit_other : is_stray w ≡ false → is_report w ≡ false → place_fits tables session strands k ≡ true
    fit_other h f = sym is_told ∙ (ap (λ (v : Waiting). not (is_stray v)) (sym (pick_no (is_report w) at_initiator w f)) ∙ ap not h)

    pub fit_report : {up : Waiting} {t : Bool} → is_report w ≡ true → up ≡ at_initiator → is_stray up ≡ t
        → place_fits tables session strands k ≡ not t
    fit_report h e f =
        sym is_told
        ∙ (ap (λ (v : Waiting). not (is_stray v)) (sym (pick_yes (is_report w) at_initiator w h) ∙ sym e) ∙ ap not f)

-- ---- the session

module _ (tables : Tables) (session : Session) (strands : List ℕ) where
  abbrev sized : Bool
  sized = eqb session.n tables.shape.n

  abbrev begun : Bool
  begun = initiator_fits tables session

  abbrev places : Bool
  places = all_to 16 (place_fits tables session strands)

  abbrev counted : Bool
  counted = ltb session.delivered tally_limit

  abbrev Whole : Bool → Type 0
  Whole r = r ≡ session_fits tables session strands

  pub other_size : (session.n ≡ tables.shape.n → ⊥) → Whole false
  unfolding session_fits
  other_size h = first_of_four sized begun places counted (ne_eqb session.n tables.shape.n h)

  module _ (size : session.n ≡ tables.shape.n) where
    its_size : sized ≡ true
    its_size = eq-eqb session.n tables.shape.n size

    pub initiator_not : begun ≡ false → Whole false
    unfolding session_fits
    initiator_not h = second_of_four sized begun places counted its_size h

    module _ (h : begun ≡ true) where
      pub too_many : tally_limit ≤ session.delivered → Whole false
      unfolding session_fits
      too_many m = last_of_four sized begun places counted its_size h (le-ltb session.delivered tally_limit m)

      pub as_places : {r : Bool} → session.delivered < tally_limit → r ≡ places → Whole r
      unfolding session_fits
      as_places l e = but_last_of_four sized begun places counted its_size h (lt-ltb session.delivered tally_limit l) e
