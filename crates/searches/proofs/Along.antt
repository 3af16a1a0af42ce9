-- Turns until nothing waits: each is accepted, and counted, so that they come to an end within demand 3's bound.
use mathlib.Core.Path.{◌≡◌, refl, ap, ◌∙◌}
use mathlib.Core.Bool.{Bool, true, false}
use mathlib.Core.List.{List}
use mathlib.Core.Logic.{inl, inr}
use Prim.Native.Nat.{ℕ, zero, suc, ◌+◌, ◌-◌, ◌*◌, ◌≤◌}
use native.Mathlib.Omega.{arith}
use native.Mathlib.Nat.{mul-le-mul_left}
use borrow.Author.Tests.{eq-eqb}
use lib.ListN.{length}
use Rattle.book.specs.Lent.{Tables}
use Rattle.book.specs.declared.Process.{Process}
use Rattle.lists.specs.Pick.{pick}
use Rattle.strands.specs.Strands.{room_for_all}
use Rattle.session.specs.declared.Session.{Session}
use Rattle.session.specs.Turns.{Ongoing, after_turn}
use Rattle.session_theory.proofs.Search.{Search, IsSearch, size, most}
use Rattle.demand3.specs.Statement.{message_waits}
use Rattle.demand3.proofs.Turn.{question_of, next_of}
use Rattle.demand3.proofs.Kept.{Holds, holds_next, long_next, counted, room_answers}
use Rattle.demand3.proofs.Purposes.{In, InSession, restarts, kept_in}
use Rattle.searches.specs.Lowest.{lowest_waiting, to_end}
use Rattle.searches.proofs.Begin.{start_of, start_holds, start_long}
use Rattle.searches.proofs.Lowest.{found_waits, some_found}

-- ---- one turn more, or none

module _ (t : Tables) (o : Ongoing) where
  pub to_end_more : (left : ℕ) → message_waits o.session ≡ true → to_end t (suc left) o
      ≡ to_end t left (after_turn t o (lowest_waiting o.session))
  unfolding to_end
  to_end_more left h = rw (to_end, h)

  pub to_end_done : (left : ℕ) → message_waits o.session ≡ false → to_end t left o ≡ o
  unfolding to_end
  to_end_done zero h = refl
  to_end_done (suc left) h = rw (to_end, h)

  to_end_none : to_end t 0 o ≡ o
  unfolding to_end
  to_end_none = refl

-- ---- what holds of a session with room

pub record Runs (g : Search) (o : Ongoing) : Type 0 where
  pub holds : Holds g (InSession g) o
  pub room : room_for_all (size g) ≤ length o.strands

module _ (g : Search) where
  few_by : (v : Bool) (s : Session) (box : ℕ → List ℕ) → In v g s box → s.delivered ≤ most g
  few_by true s box r =
      let once : (size g - 1) * 1 ≤ most g = mul-le-mul_left (size g - 1) (omega arith) in
      omega (arith, once, r.1.deliveries)
  few_by false s box (inl w) = omega (arith, w.2.deliveries_left)
  few_by false s box (inr f) = omega (arith, f.1.deliveries_left)

  pub few_delivered : (o : Ongoing) → Runs g o → o.session.delivered ≤ most g
  few_delivered o runs = few_by (restarts g) o.session runs.holds.box runs.holds.state

module _ (g : Search) (is : IsSearch g) where
  pub start_runs : (strands : List ℕ) → room_for_all (size g) ≤ length strands → Runs g (start_of g strands)
  start_runs strands room =
      record { holds = start_holds g is strands room; room = omega (arith, room, start_long g is strands room) }

  -- the turn on the lowest strand
  abbrev pub lowest_next : Ongoing → Ongoing
  lowest_next o = next_of g o (lowest_waiting o.session)

  module _ (o : Ongoing) (runs : Runs g o) where
    pub next_runs : Runs g (lowest_next o)
    next_runs =
        let p : Process = lowest_waiting o.session in
        record {
          holds = holds_next g is (InSession g) (kept_in g is) o runs.holds p;
          room = omega (arith, runs.room, long_next g is (InSession g) (kept_in g is) o runs.holds p);
        }

    pub next_passes : message_waits o.session ≡ true → question_of g o (lowest_waiting o.session) ≡ 0
    next_passes waits =
        let p : Process = lowest_waiting o.session in
        let some : 1 ≤ p.0 = some_found o.session waits in
        room_answers g is (InSession g) (kept_in g is) o runs.holds p some
        (found_waits o.session some).waits runs.room

    pub next_counts : message_waits o.session ≡ true → (lowest_next o).session.delivered ≡ o.session.delivered + 1
    next_counts waits =
        let p : Process = lowest_waiting o.session in
        counted g is (InSession g) (kept_in g is) o runs.holds p
        ∙ ap (λ (v : Bool). o.session.delivered + pick v 1 0) (eq-eqb (question_of g o p) 0 (next_passes waits))

  -- ---- to the end

  abbrev pub end_from : ℕ → Ongoing → Ongoing
  end_from left o = to_end g.tables left o

  pub record Ended (o : Ongoing) : Type 0 where
    pub runs : Runs g o
    pub silent : message_waits o.session ≡ false

  pub comes_to_end : (left : ℕ) (o : Ongoing) → Runs g o → most g ≤ o.session.delivered + left → Ended (end_from left o)
  comes_to_end zero o runs enough = go (message_waits o.session) refl
    where
      go : (v : Bool) → message_waits o.session ≡ v → Ended (end_from 0 o)
      go true waits =
          absurd (omega (arith, next_counts o runs waits, few_delivered g (lowest_next o) (next_runs o runs), enough))
      go false none = rw (to_end_none g.tables o) (record { runs = runs; silent = none })
  comes_to_end (suc left) o runs enough =
      go (message_waits o.session) refl
      (λ waits. comes_to_end left (lowest_next o) (next_runs o runs) (omega (arith, next_counts o runs waits, enough)))
    where
      go : (v : Bool) → message_waits o.session ≡ v
          → (message_waits o.session ≡ true → Ended (end_from left (lowest_next o))) → Ended (end_from (suc left) o)
      go true waits rest = rw (to_end_more g.tables o left waits) (rest waits)
      go false none rest = rw (to_end_done g.tables o (suc left) none) (record { runs = runs; silent = none })
