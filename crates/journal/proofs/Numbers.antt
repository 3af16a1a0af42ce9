-- What begins a list of numbers: where it is an event, its numbers.
use mathlib.Core.Path.{◌≡◌, refl, ap}
use mathlib.Core.Bool.{Bool, true, false}
use mathlib.Core.List.{List, [], ◌∷◌, ◌++◌}
use Prim.Native.Nat.{ℕ}
use lib.Dec.{eqb}
use borrow.Author.Tests.{eqb-true}
use Rattle.lists.specs.Pick.{pick}
use Rattle.lists.proofs.Pick.{pick_each}
use Rattle.book.specs.declared.Process.{Process}
use Rattle.journal.specs.declared.Event.{Event}
use Rattle.journal.specs.declared.Event.TheVariants.{Sent, Received}
use Rattle.journal.specs.Events.{event_numbers, Front, Begins, NoEvent, with_partner, first_event}

abbrev pub HasNumbers : List ℕ → Front → Type 0
HasNumbers vs (Begins e rest) = vs ≡ event_numbers e ++ rest
HasNumbers vs NoEvent = Unit {0}

partner_numbers : (event : Process → Process → Event) (kind : ℕ)
    → ((process partner : Process) → kind ∷ process.0 ∷ partner.0 ∷ [] ≡ event_numbers (event process partner))
    → (process : ℕ) (vs : List ℕ) → HasNumbers (kind ∷ process ∷ vs) (with_partner event process vs)
partner_numbers event kind is process [] = tt
partner_numbers event kind is process (partner ∷ vs) =
    pick_each (HasNumbers (kind ∷ process ∷ partner ∷ vs)) (eqb process partner) NoEvent _ tt
    (ap (λ (l : List ℕ). l ++ vs) (is (record { 0 = process }) (record { 0 = partner })))

-- where the kind is this one, and where not
of_kind : (P : Front → Type 0) (kind one : ℕ) (a b : Front) → (kind ≡ one → P a) → P b → P (pick (eqb kind one) a b)
of_kind P kind one a b this other = go (eqb kind one) (eqb-true kind one)
  where
    go : (t : Bool) → (t ≡ true → kind ≡ one) → P (pick t a b)
    go true is = this (is refl)
    go false is = other

pub first_numbers : (vs : List ℕ) → HasNumbers vs (first_event vs)
first_numbers [] = tt
first_numbers (kind ∷ []) = tt
first_numbers (kind ∷ process ∷ vs) =
    let P : Front → Type 0 = HasNumbers (kind ∷ process ∷ vs) in
    of_kind P kind 1 _ _ (λ is. partner_numbers Sent kind (λ j p. rw is) process vs)
    (of_kind P kind 2 _ _ (λ is. partner_numbers Received kind (λ j p. rw is) process vs)
    (of_kind P kind 3 _ _ (λ is. rw is) tt))
