-- Question 13 of the machines of a session: what each test leaves to the later ones.
use mathlib.Core.Path.{◌≡◌, ap, ◌∙◌}
use mathlib.Core.Bool.{Bool, true, false}
use Prim.Native.Nat.{ℕ, suc, ◌+◌, ◌-◌}
use native.Mathlib.Numerals.{add-one}
use native.Mathlib.Omega.{arith}
use borrow.Author.Tests.{eq-eqb, ne_eqb}
use lib.Dec.{eqb}
use Rattle.book.specs.Lent.{Tables}
use Rattle.machine.specs.Own.{own_of}
use Rattle.participant.specs.declared.Participant.{Participant}
use Rattle.participant.specs.Fits as participant
use Rattle.initiator.specs.declared.Initiator.{Initiator}
use Rattle.initiator.specs.Fits as initiator
use Rattle.session_check.specs.Parts.{initiator_on, machine_fits}
use Rattle.session_check.proofs.Chains.{first_of_three, second_of_three, third_of_three, first_of_four, second_of_four, third_of_four, fourth_of_four}

-- ---- the initiator's

module _ (t : Tables) (of purpose : ℕ) (machine : Initiator) where
  abbrev same_me : Bool
  same_me = eqb machine.me.0 of

  abbrev same_purpose : Bool
  same_purpose = eqb machine.purpose purpose

  abbrev machine_on : Bool
  machine_on = initiator.fits (own_of t (of - 1)) machine

  abbrev On : Bool → Type 0
  On r = r ≡ initiator_on t of purpose machine

  pub other_initiator : (machine.me.0 ≡ of → ⊥) → On false
  other_initiator h = first_of_three same_me same_purpose machine_on (ne_eqb machine.me.0 of h)

  module _ (me : machine.me.0 ≡ of) where
    pub other_purpose : (machine.purpose ≡ purpose → ⊥) → On false
    other_purpose h = second_of_three same_me same_purpose machine_on (eq-eqb machine.me.0 of me) (ne_eqb machine.purpose purpose h)

    pub initiator_on_lem : {r : Bool} → machine.purpose ≡ purpose
        → r ≡ initiator.fits (own_of t (machine.me.0 - 1)) machine → On r
    initiator_on_lem h e =
        third_of_three same_me same_purpose machine_on (eq-eqb machine.me.0 of me) (eq-eqb machine.purpose purpose h)
        (e ∙ ap (λ (j : ℕ). initiator.fits (own_of t (j - 1)) machine) me)

-- ---- a participant's

module _ (t : Tables) (of purpose : ℕ) (p : Participant) (k : ℕ) where
  abbrev is_me : Bool
  is_me = eqb p.me.0 (suc k)

  abbrev is_its : Bool
  is_its = eqb p.initiator.0 of

  abbrev is_for : Bool
  is_for = eqb p.purpose purpose

  abbrev is_on : Bool
  is_on = participant.fits (own_of t k) p

  abbrev Fits : Bool → Type 0
  Fits r = r ≡ machine_fits t of purpose p k

  pub other_place : (p.me.0 ≡ k + 1 → ⊥) → Fits false
  other_place h = first_of_four is_me is_its is_for is_on (ne_eqb p.me.0 (suc k) (λ e. h (e ∙ omega arith)))

  module _ (me : p.me.0 ≡ k + 1) where
    its_place : is_me ≡ true
    its_place = eq-eqb p.me.0 (suc k) (me ∙ add-one k)

    pub other_search : (p.initiator.0 ≡ of → ⊥) → Fits false
    other_search h = second_of_four is_me is_its is_for is_on its_place (ne_eqb p.initiator.0 of h)

    pub other_aim : p.initiator.0 ≡ of → (p.purpose ≡ purpose → ⊥) → Fits false
    other_aim its h = third_of_four is_me is_its is_for is_on its_place (eq-eqb p.initiator.0 of its) (ne_eqb p.purpose purpose h)

    pub machine_on_lem : {r : Bool} → p.initiator.0 ≡ of → p.purpose ≡ purpose → r ≡ participant.fits (own_of t (p.me.0 - 1)) p
        → Fits r
    machine_on_lem its aim e =
        let place : p.me.0 - 1 ≡ k = omega arith in
        fourth_of_four is_me is_its is_for is_on its_place (eq-eqb p.initiator.0 of its) (eq-eqb p.purpose purpose aim)
        (e ∙ ap (λ (j : ℕ). participant.fits (own_of t j) p) place)
