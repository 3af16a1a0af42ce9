-- Demand 3, from what holds after a list of turns; and that a search comes to its end.
use mathlib.Core.Path.{◌≡◌, refl, sym, ap, ◌∙◌}
use mathlib.Core.Bool.{Bool, true, false, not, true≢false}
use mathlib.Core.List.{List}
use mathlib.Core.Logic.{◌⊎◌, inl, inr, ⊎_elim}
use Prim.Native.Nat.{ℕ, suc, ◌+◌, ◌-◌, ◌≤◌, ◌<◌}
use native.Mathlib.Omega.{arith}
use lib.ListN.{length}
use Rattle.book.specs.declared.Process.{Process}
use Rattle.book.specs.Bounds.{mark}
use Rattle.lists.specs.Over.{all_to}
use Rattle.line_theory.specs.Sets.{IsLine}
use Rattle.line_theory.specs.Search.{line}
use Rattle.lists.proofs.Over.{all_in, sum_at}
use Rattle.line_theory.proofs.Theorems.{line_is_line}
use Rattle.exchange_laws.specs.Ends.{is_search}
use Rattle.strands.specs.Strands.{room_for_all}
use Rattle.session.specs.declared.Session.{Session}
use Rattle.session.specs.Workers.{stands_on, has_ended, waits_on}
use Rattle.session.specs.Turns.{Ongoing, accepted_turns}
use Rattle.session_theory.proofs.Search.{Search, IsSearch, size, lead, is_part, line_in, most}
use Rattle.session_theory.proofs.Invariant.{Laid, Phase, quiet, reported, asked, weight, one}
use Rattle.session_theory.proofs.Facts.{worker, part_within, book_is}
use Rattle.session_theory.proofs.Search as theory
use Rattle.demand3.specs.Statement.{Beginning, shape_left, view_left, IsAccepted, Searches, at_start, after, next_question, message_waits, someone_goes_on, most_delivered, HoldsAfter, Demand3, tables_left}
use Rattle.demand3.specs.Beside.{AtEnd, accepted_in, GoesOn}
use Rattle.demand3.proofs.Kept.{Kept, answers, room_answers}
use Rattle.demand3.proofs.Lists.{Listed, listed}
use Rattle.demand3.proofs.Searching.{InSearch, search_kept, waits_tell, over_tell}
use Rattle.demand3.proofs.Start.{search_of, is_search_lem, searching, start_delivered, start_rounds, search_holds, search_long}
use Rattle.demand3.proofs.Workers.{none_ended, somebody, initiator_ended, closed_ended}
use Rattle.demand3.proofs.Exactly.{waits_found, going_exactly, over_exactly}

-- ---- what holds of a session at any moment of a search

module _
    (g : Search)
    (is : IsSearch g)
    (searches : is_search g.purpose ≡ true)
    (o : Ongoing)
    (box : ℕ → List ℕ)
    (laid : Laid g o.session o.strands box)
  where
    abbrev s : Session
    s = o.session

    exactly : InSearch g s box → message_waits s ≡ someone_goes_on (size g) s
    exactly (inl w) =
        going_exactly g is s o.strands box laid w.0 w.1 w.2
        (waits_tell g is searches s o.strands box w.0 w.1 w.2).some
    exactly (inr f) =
        over_exactly g is s o.strands box laid f.0 f.1.ends
        (over_tell g is searches s o.strands box f.0 f.1).some

    few_delivered : InSearch g s box → s.delivered ≤ most g
    few_delivered (inl w) = omega (arith, w.2.deliveries_left)
    few_delivered (inr f) = omega (arith, f.1.deliveries_left)

    few_rounds : InSearch g s box → s.machine.rounds ≤ theory.passed_in g + 2
    few_rounds (inl w) = omega (arith, w.2.rounds_left)
    few_rounds (inr f) = f.1.few_rounds

    none_below : InSearch g s box → (j : ℕ) → j < size g → line_in g j ≤ stands_on s j
    none_below (inl w) j h = w.2.above j h
    none_below (inr f) j h = omega (arith, f.1.on_line j h)

    on_line : InSearch g s box → (j : ℕ) → j < size g → has_ended s j ≡ true → stands_on s j ≡ line_in g j
    on_line (inl w) j h ended = absurd (true≢false (sym ended ∙ none_ended g is s box w.0 w.1 w.2 j h))
    on_line (inr f) j h ended = f.1.on_line j h

    -- when as many messages as can be were delivered, everybody has ended
    weighs : (f : Phase) → (f ≡ quiet → ⊥) → 1 ≤ weight f
    weighs quiet h = absurd (h refl)
    weighs reported h = omega arith
    weighs asked h = omega arith

    all_over : InSearch g s box → most g ≤ s.delivered → (j : ℕ) → j < size g → has_ended s j ≡ true
    all_over (inl w) many j h =
        let found = somebody g is s box w.0 w.1 w.2 in
        let k : ℕ = found.0 in
        let at_least : 1 ≤ weight (w.0 k) = weighs (w.0 k) found.2 in
        absurd (omega (
          arith,
          w.2.deliveries_left,
          sum_at 16 (λ q. weight (w.0 q)) k (part_within g is k found.1),
        ))
    all_over (inr f) many j h =
        ⊎_elim
        (λ (l : j ≡ lead g). rw l (initiator_ended g is s box f.0 f.1.ends))
        (λ (there : is_part g j ≡ true). at there (f.0 j) refl)
        (worker g j h)
      where
        at : is_part g j ≡ true → (v : Bool) → f.0 j ≡ v → has_ended s j ≡ true
        at there true e =
            let counts : one (f.0 j) ≡ 1 = ap one e in
            absurd (omega (arith, f.1.deliveries_left, sum_at 16 (λ q. one (f.0 q)) j (part_within g is j there)))
        at there false e = closed_ended g is s box f.0 f.1.ends j there e

module _ (b : Beginning) (a : IsAccepted b) (h : Searches b) (turns : List Process) where
  abbrev g : Search
  g = search_of b

  abbrev o : Ongoing
  o = after b turns

  is : IsSearch g
  is = is_search_lem b a

  kept : Kept g (InSearch g)
  kept = search_kept g is (searching b a h)

  all : Listed g (InSearch g) (at_start b) turns
  all = listed g is (InSearch g) kept turns (at_start b) (search_holds b a h)

  abbrev now : InSearch g o.session all.holds.box
  now = all.holds.state

  is_line : IsLine (view_left b) (line (view_left b))
  is_line = line_is_line mark (view_left b) (book_is g is)

  long : length o.strands ≡ length b.strands
  long = all.long ∙ search_long b a h

  counted : o.session.delivered ≡ accepted_turns (tables_left b) (at_start b) turns
  counted = omega (arith, all.delivered, start_delivered b a)

  with_room :
      (p : Process) → 1 ≤ p.0 → waits_on o.session (p.0 - 1) ≡ true
      → room_for_all (shape_left b).n ≤ length b.strands → next_question b turns p ≡ 0
  with_room p some waits room =
      room_answers g is (InSearch g) kept o all.holds p some waits (omega (arith, long, room))

  holds_after : HoldsAfter b turns
  holds_after =
      let sure : is_search b.purpose ≡ true = searching b a h in
      record {
        waits_exactly = exactly g is sure o all.holds.box all.holds.laid now;
        delivered = counted;
        few_delivered = few_delivered g is sure o all.holds.box all.holds.laid now;
        rounds = omega (arith, all.rounds, start_rounds b a h);
        few_rounds = few_rounds g is sure o all.holds.box all.holds.laid now;
        none_below = none_below g is sure o all.holds.box all.holds.laid now;
        ended_on_line = on_line g is sure o all.holds.box all.holds.laid now;
        line_set = is_line.is_set;
        line_consistent = is_line.pairwise;
        latest = is_line.latest;
        accepted_or_full = λ p some waits. answers g is (InSearch g) kept o all.holds p some waits;
        with_room = with_room;
      }

  module _ (room : room_for_all (shape_left b).n ≤ length b.strands) where
    goes : ((j : ℕ) → j < (shape_left b).n → has_ended o.session j ≡ true)
        ⊎ ((p : Process) × (next_question b turns p ≡ 0))
    goes = go (all_to (shape_left b).n (has_ended o.session)) refl
      where
        go : (v : Bool) → all_to (shape_left b).n (has_ended o.session) ≡ v
            → ((j : ℕ) → j < (shape_left b).n → has_ended o.session j ≡ true)
            ⊎ ((p : Process) × (next_question b turns p ≡ 0))
        go true e = inl (all_in (shape_left b).n (has_ended o.session) e)
        go false e =
            let found = waits_found o.session (holds_after.waits_exactly ∙ ap not e) in
            let p : Process = record { 0 = suc found.0 } in
            let here : suc found.0 - 1 ≡ found.0 = omega arith in
            let waits : waits_on o.session (p.0 - 1) ≡ true = rw here found.2 in
            inr (p, with_room p (omega arith) waits room)

    ends :
        most_delivered (view_left b) ≤ accepted_turns (tables_left b) (at_start b) turns → (j : ℕ) → j < (shape_left b).n
        → (has_ended o.session j ≡ true) × (stands_on o.session j ≡ line (view_left b) j)
    ends many j small =
        let ended : has_ended o.session j ≡ true =
        all_over g is (searching b a h) o all.holds.box all.holds.laid now (omega (arith, counted, many)) j small in
        (ended, holds_after.ended_on_line j small ended)

pub demand_3 : Demand3
demand_3 b a h turns = holds_after b a h turns

pub goes_on : GoesOn
goes_on b a h room turns = goes b a h turns room

-- where as many turns were accepted as can be
pub comes_to_end : (b : Beginning) → IsAccepted b → Searches b → room_for_all (shape_left b).n ≤ length b.strands
    → (turns : List Process) → most_delivered (view_left b) ≤ accepted_in b turns → AtEnd b turns
comes_to_end b a h room turns many j small = ends b a h turns room many j small
