-- What holds of a session after a start with room for all that can wait, with any purpose.
use mathlib.Core.Path.{◌≡◌, ap, ◌∙◌}
use mathlib.Core.List.{List}
use Prim.Native.Nat.{ℕ, ◌-◌, ◌≤◌}
use native.Mathlib.Omega.{arith}
use native.Mathlib.Nat.{mul-le-mul}
use lib.ListN.{length, length-replicate}
use Rattle.book.specs.Bounds.{most_processes}
use Rattle.book.proofs.Questions.{kept_passed}
use Rattle.mail.specs.Outgoing.{bytes_to}
use Rattle.strands.specs.Strands.{slot_size, room_for_all, posted}
use Rattle.session.specs.declared.Session.{Session}
use Rattle.session.specs.Steps.{with_posted}
use Rattle.session.specs.Calls.{no_session, start_question, session_started, strands_started}
use Rattle.session.specs.Turns.{Ongoing, started}
use Rattle.session_theory.proofs.Search.{Search, IsSearch, size, lead}
use Rattle.session_theory.proofs.Invariant.{Laid}
use Rattle.session_theory.proofs.Moves.{begins}
use Rattle.search_start.proofs.Start.{none_delivered}
use Rattle.demand3.proofs.Kept.{Holds}
use Rattle.demand3.proofs.Purposes.{InSession, begins_in, begins_short, begins_room, starts_with_room}
use Rattle.searches.specs.Lowest.{strands_inside}
use Rattle.strand_laws.proofs.Theorems.{laid_begun}

-- as the start leaves them
abbrev pub start_of : Search → List ℕ → Ongoing
start_of g strands = started g.tables g.initiator g.purpose strands

-- the strands inside have room for sixteen processes, and so for fewer
pub room_inside : (n : ℕ) → n ≤ 16 → room_for_all n ≤ length strands_inside
room_inside n small =
    let others : n - 1 ≤ 15 = omega arith in
    let slots : slot_size n ≤ slot_size most_processes = omega arith in
    let most : room_for_all n ≤ room_for_all most_processes = mul-le-mul others slots in
    omega (arith, most, length-replicate {A = ℕ} (room_for_all most_processes) 0)

module _ (g : Search) (is : IsSearch g) where
  module _ (strands : List ℕ) (room : room_for_all (size g) ≤ length strands) where
    session_left : (start_of g strands).session ≡ with_posted (begins g)
    unfolding session_started
    session_left =
        kept_passed (start_question g.tables g.initiator g.purpose strands) no_session
        (with_posted (begins g)) (starts_with_room g is strands room)

    strands_left : (start_of g strands).strands ≡ posted (size g) (lead g) (begins g).outgoing strands
    unfolding strands_started
    strands_left =
        kept_passed (start_question g.tables g.initiator g.purpose strands) strands
        (posted (size g) (lead g) (begins g).outgoing strands) (starts_with_room g is strands room)

    laid :
        Laid g (with_posted (begins g)) (posted (size g) (lead g) (begins g).outgoing strands) (bytes_to (begins g).outgoing)
        × (length (posted (size g) (lead g) (begins g).outgoing strands) ≡ length strands)
    laid = laid_begun g strands is (begins_in g is).0 (begins_short g is) (begins_room g is strands room)

    pub start_holds : Holds g (InSession g) (start_of g strands)
    start_holds =
        record {
          box = bytes_to (begins g).outgoing;
          laid = rw (session_left, strands_left) laid.0;
          state = rw session_left (begins_in g is).1;
        }

    pub start_long : length (start_of g strands).strands ≡ length strands
    start_long = ap length strands_left ∙ laid.1

    pub start_delivered : (start_of g strands).session.delivered ≡ 0
    start_delivered = ap (λ (s : Session). s.delivered) session_left ∙ none_delivered g
