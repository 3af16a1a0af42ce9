-- A session with any purpose, a search or a bare restart: what every turn keeps of it, and that a start with room for all that can
-- wait is accepted.
use mathlib.Core.Path.{◌≡◌, refl, ap}
use mathlib.Core.Bool.{Bool, true, false, not}
use mathlib.Core.List.{List}
use Prim.Native.Nat.{ℕ, ◌≤◌}
use borrow.Author.Tests.{eqb-true}
use lib.ListN.{length}
use lib.Dec.{eqb}
use Rattle.book.specs.InTurn.{◌then◌, ask}
use Rattle.book.specs.Check.{tables_question}
use Rattle.lists.proofs.Tests.{both_and}
use Rattle.book.specs.Names.{is_named, is_purpose}
use Rattle.mail.specs.Outgoing.{bytes_to}
use Rattle.exchange_laws.specs.Ends.{is_search}
use Rattle.strands.specs.Strands.{room_for_all, have_room}
use Rattle.session.specs.declared.Session.{Session}
use Rattle.session.specs.Steps.{with_posted}
use Rattle.session.specs.Calls.{start_question}
use Rattle.session_theory.proofs.Search.{Search, IsSearch, size, lead}
use Rattle.session_theory.proofs.Moves.{begins, ToParticipants, Short}
use Rattle.strand_laws.proofs.Theorems.{room_suffices}
use Rattle.search_start.proofs.Theorems.{search_begins, restart_begins}
use Rattle.demand3.proofs.Kept.{Kept}
use Rattle.demand3.proofs.Searching.{InSearch, InRestart, search_kept, restart_kept}

-- what holds of a session: of a bare restart, or of a search
abbrev pub In : Bool → Search → Session → (ℕ → List ℕ) → Type 0
In true g s box = InRestart g s box
In false g s box = InSearch g s box

abbrev pub restarts : Search → Bool
restarts g = eqb g.purpose 2

abbrev pub InSession : Search → Session → (ℕ → List ℕ) → Type 0
InSession g s box = In (restarts g) g s box

-- the four parts of a start's question
all_yes : (tables : ℕ) (named purposed room : Bool) → tables ≡ 0 → named ≡ true → purposed ≡ true → room ≡ true
    → (tables then λ _. ask 10 named then λ _. ask 11 purposed then λ _. ask 17 room) ≡ 0
all_yes tables named purposed room a b c d = rw (a, b, c, d)

module _ (g : Search) (is : IsSearch g) where
  -- no restart, so a search
  pub is_searching : restarts g ≡ false → is_search g.purpose ≡ true
  is_searching other = both_and (is_purpose g.purpose) (not (restarts g)) is.purposed (ap not other)

  pub kept_in : Kept g (InSession g)
  kept_in = go (restarts g) refl
    where
      go : (v : Bool) → restarts g ≡ v → Kept g (In v g)
      go true e = restart_kept g is (eqb-true g.purpose 2 e)
      go false e = search_kept g is (is_searching e)

  pub begins_in : ToParticipants g (begins g).outgoing × InSession g (with_posted (begins g)) (bytes_to (begins g).outgoing)
  begins_in = go (restarts g) refl
    where
      go : (v : Bool) → restarts g ≡ v
          → ToParticipants g (begins g).outgoing × In v g (with_posted (begins g)) (bytes_to (begins g).outgoing)
      go true e = restart_begins g is (eqb-true g.purpose 2 e)
      go false e = search_begins g is (is_searching e)

  pub begins_short : Short g (begins g).outgoing
  begins_short k small sent =
      kept_in.short (with_posted (begins g)) (bytes_to (begins g).outgoing) begins_in.1 k (begins_in.0 k small sent)

  module _ (strands : List ℕ) (room : room_for_all (size g) ≤ length strands) where
    pub begins_room : have_room (size g) (lead g) (begins g).outgoing strands ≡ true
    begins_room = room_suffices g (begins g).outgoing strands is begins_in.0 begins_short room

    pub starts_with_room : start_question g.tables g.initiator g.purpose strands ≡ 0
    unfolding start_question
    starts_with_room =
        all_yes (tables_question g.tables) (is_named (size g) g.initiator.0) (is_purpose g.purpose)
        (have_room (size g) (lead g) (begins g).outgoing strands)
        is.accepted.passed is.named is.purposed begins_room
