-- A journal's events from a place on, event by event.
use Rattle.std.specs.Prelude.{Option, Some, None}
use mathlib.Core.Path.{◌≡◌, refl, sym, ap, ◌∙◌}
use mathlib.Core.Bool.{Bool, true, false}
use mathlib.Core.List.{List, [], ◌∷◌}
use Prim.Native.Nat.{ℕ, zero, suc, ◌-◌, ◌≤◌, ◌<◌}
use native.Mathlib.Omega.{arith}
use lib.ListN.{length}
use lib.Dec.{eqb}
use borrow.Author.Tests.{eq-eqb, ne_eqb}
use Rattle.varint.specs.Sequence.{Numbers}
use Rattle.varint.specs.Number.{read_number}
use Rattle.varint.proofs.Sequence.{numbers_none, numbers_more}
use Rattle.varint.proofs.Reading.{read_past}
use Rattle.book.specs.declared.Process.{Process}
use Rattle.book.specs.Questions.{nothing_follows}
use Rattle.lists.proofs.Pick.{pick_each}
use Rattle.journal.specs.declared.Event.{Event}
use Rattle.journal.specs.declared.Event.TheVariants.{Sent, Received}
use Rattle.journal.specs.Bounds.{journal_groups, journal_largest}
use Rattle.journal.specs.Events.{Front, Begins, NoEvent, with_partner, first_event, Events, events_up_to, events_in}
use Rattle.journal.specs.Calls.{numbers_logged, numbers_end}
use Rattle.journal.specs.Parts.{StandsAt, events_from}

-- an event in front of what is found after it
abbrev front : Event → Events → Events
front e r = record { found = e ∷ r.found; whole = r.whole }

up_to_begins : (fuel : ℕ) (ended : Bool) (vs : List ℕ) (e : Event) (rest : List ℕ) → first_event vs ≡ Begins e rest
    → events_up_to (suc fuel) ended vs ≡ front e (events_up_to fuel ended rest)
unfolding events_up_to
up_to_begins fuel ended vs e rest is = rw (is, events_up_to)

up_to_ends : (fuel : ℕ) (ended : Bool) (vs : List ℕ) → first_event vs ≡ NoEvent
    → events_up_to fuel ended vs ≡ record { found = []; whole = nothing_follows ended vs }
unfolding events_up_to
up_to_ends zero ended vs is = refl
up_to_ends (suc fuel) ended vs is = rw (is, events_up_to)

-- an event takes numbers: how many there are from an event on
abbrev size : Front → ℕ
size (Begins e rest) = suc (length rest)
size NoEvent = 0

partner_size : (event : Process → Process → Event) (process : ℕ) (vs : List ℕ) → size (with_partner event process vs) ≤ suc (length vs)
partner_size event process [] = omega arith
partner_size event process (partner ∷ vs) =
    pick_each (λ (f : Front). size f ≤ suc (suc (length vs))) (eqb process partner) NoEvent _ (omega arith) (omega arith)

first_size : (vs : List ℕ) → size (first_event vs) ≤ length vs
first_size [] = omega arith
first_size (kind ∷ []) = omega arith
first_size (kind ∷ process ∷ vs) =
    let P : Front → Type 0 = λ f. size f ≤ suc (suc (length vs)) in
    pick_each P (eqb kind 1) _ _ (omega (arith, partner_size Sent process vs))
    (pick_each P (eqb kind 2) _ _ (omega (arith, partner_size Received process vs))
    (pick_each P (eqb kind 3) _ _ (omega arith) (omega arith)))

shorter : (vs : List ℕ) (e : Event) (rest : List ℕ) → first_event vs ≡ Begins e rest → length rest < length vs
shorter vs e rest is = let is' : size (first_event vs) ≡ suc (length rest) = ap size is in omega (arith, first_size vs)

-- any fuel that reaches the end serves
up_to_fuel : (fuel more : ℕ) (ended : Bool) (vs : List ℕ) → length vs ≤ fuel → length vs ≤ more
    → events_up_to fuel ended vs ≡ events_up_to more ended vs
up_to_fuel zero more ended [] h k = up_to_ends zero ended [] refl ∙ sym (up_to_ends more ended [] refl)
up_to_fuel zero more ended (v ∷ vs) h k = absurd (omega arith)
up_to_fuel (suc fuel) zero ended [] h k = up_to_ends (suc fuel) ended [] refl ∙ sym (up_to_ends zero ended [] refl)
up_to_fuel (suc fuel) zero ended (v ∷ vs) h k = absurd (omega arith)
up_to_fuel (suc fuel) (suc more) ended vs h k = go (first_event vs) refl (λ rest. up_to_fuel fuel more ended rest)
  where
    go : (f : Front) → first_event vs ≡ f
        → ((rest : List ℕ) → length rest ≤ fuel → length rest ≤ more → events_up_to fuel ended rest ≡ events_up_to more ended rest)
        → events_up_to (suc fuel) ended vs ≡ events_up_to (suc more) ended vs
    go NoEvent e ih = up_to_ends (suc fuel) ended vs e ∙ sym (up_to_ends (suc more) ended vs e)
    go (Begins event rest) e ih =
        let less = shorter vs event rest e in
        up_to_begins fuel ended vs event rest e
        ∙ ap (front event) (ih rest (omega arith) (omega arith))
        ∙ sym (up_to_begins more ended vs event rest e)

-- what a list of numbers begins with
pub events_begin : (ended : Bool) (vs : List ℕ) (e : Event) (rest : List ℕ) → first_event vs ≡ Begins e rest
    → events_in ended vs ≡ front e (events_in ended rest)
unfolding events_in
events_begin ended vs e rest is =
    let less = shorter vs e rest is in
    let fuel : length vs ≡ suc (length vs - 1) = omega arith in
    ap (λ (k : ℕ). events_up_to k ended vs) fuel
    ∙ up_to_begins (length vs - 1) ended vs e rest is
    ∙ ap (front e) (up_to_fuel (length vs - 1) (length rest) ended rest (omega arith) (omega arith))

events_stop : (ended : Bool) (vs : List ℕ) → first_event vs ≡ NoEvent → events_in ended vs ≡ record { found = []; whole = nothing_follows ended vs }
unfolding events_in
events_stop ended vs is = up_to_ends (length vs) ended vs is

module _ (s : List ℕ) where
  -- where an event stands, it is found, and then what is found after it
  pub events_more : (at : ℕ) (e : Event) (next : ℕ) → StandsAt s at e next
      → events_from s at ≡ record { found = e ∷ (events_from s next).found; whole = (events_from s next).whole }
  events_more at e next stands =
      ap (λ (stop : ℕ). events_in (eqb stop (length s)) (numbers_logged s at).found) stands.stop
      ∙ events_begin (numbers_end s next) (numbers_logged s at).found e (numbers_logged s next).found stands.begins

  -- where none stands before the end, the journal is not whole
  pub events_broken : (at : ℕ) → at < length s → first_event (numbers_logged s at).found ≡ NoEvent
      → events_from s at ≡ record { found = []; whole = false }
  events_broken at inside none =
      events_stop (numbers_end s at) (numbers_logged s at).found none
      ∙ ap (λ (b : Bool). record { found = []; whole = b }) (go (read_number journal_groups journal_largest s at) refl)
    where
      go : (r : Option (ℕ × ℕ)) → read_number journal_groups journal_largest s at ≡ r → nothing_follows (numbers_end s at) (numbers_logged s at).found ≡ false
      go None e =
          ap (λ (ns : Numbers). nothing_follows (eqb ns.stop (length s)) ns.found) (numbers_none journal_groups journal_largest s at e)
          ∙ ne_eqb at (length s) (λ z. absurd (omega (arith, z)))
      go (Some (v, next)) e =
          ap (λ (ns : Numbers). nothing_follows (eqb ns.stop (length s)) ns.found) (numbers_more journal_groups journal_largest s at v next e)

  -- at the end it is
  pub events_end : events_from s (length s) ≡ record { found = []; whole = true }
  events_end =
      ap (λ (ns : Numbers). events_in (eqb ns.stop (length s)) ns.found)
      (numbers_none journal_groups journal_largest s (length s) (read_past journal_groups journal_largest s (length s) (omega arith)))
      ∙ events_stop (eqb (length s) (length s)) [] refl
      ∙ ap (λ (b : Bool). record { found = []; whole = b }) (eq-eqb (length s) (length s) refl)

  -- a journal's leading n, and its events after it
  pub journal_begins : (n at : ℕ) → read_number journal_groups journal_largest s 0 ≡ Some (n, at)
      → ((numbers_logged s 0).found ≡ n ∷ (numbers_logged s at).found) × (numbers_end s 0 ≡ numbers_end s at)
  journal_begins n at e =
      let is = numbers_more journal_groups journal_largest s 0 n at e in
      (ap (λ (ns : Numbers). ns.found) is, ap (λ (ns : Numbers). eqb ns.stop (length s)) is)
