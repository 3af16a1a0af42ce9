-- Purpose 2: what a bare restart comes to.
use mathlib.Core.Path.{◌≡◌, refl, sym, ap, subst, ◌∙◌}
use mathlib.Core.Bool.{Bool, true, false, true≢false}
use mathlib.Core.List.{List}
use Prim.Native.Nat.{ℕ, ◌-◌, ◌≤◌, ◌<◌}
use native.Mathlib.Omega.{arith}
use Rattle.book.specs.declared.Process.{Process}
use Rattle.lists.proofs.Over.{sum_at}
use Rattle.lists.specs.Pick.{pick}
use Rattle.mail.specs.Outgoing.{goes_to}
use Rattle.participant_laws.specs.Accepts.{ends_it}
use Rattle.session.specs.declared.Session.{Session}
use Rattle.session.specs.declared.Turned.{Turned}
use Rattle.session.specs.declared.Waiting.TheVariants.{Nothing, Ending}
use Rattle.session.specs.Workers.{stands_on, has_ended, waits_on}
use Rattle.session.specs.Turns.{Ongoing, accepted_turns}
use Rattle.session_theory.proofs.Search.{Search, IsSearch, size, is_part}
use Rattle.session_theory.proofs.Invariant.{one, Closing, IsEnding, Restarts}
use Rattle.session_theory.proofs.Facts.{few, lead_in}
use Rattle.session_theory.proofs.Moves.{goes_down}
use Rattle.demand3.specs.Statement.{Beginning, IsAccepted, at_start, after, next_question, tables_left}
use Rattle.demand3.specs.Beside.{RestartHolds, RestartEnds}
use Rattle.demand3.proofs.Turn.{goes}
use Rattle.demand3.proofs.Kept.{Kept, silent_answers, waits_part}
use Rattle.demand3.proofs.Lists.{Listed, listed}
use Rattle.demand3.proofs.Searching.{InRestart, restart_kept, restart_tell, goes_as}
use Rattle.demand3.proofs.Start.{search_of, is_search_lem, start_delivered, restart_holds}
use Rattle.demand3.proofs.Workers.{ended_closed}
use Rattle.demand3.proofs.Exactly.{closed_waits, all_closed, over_exactly}
use Rattle.demand3.proofs.Others.{end_silent}

module _ (b : Beginning) (a : IsAccepted b) (h : b.purpose ≡ 2) (turns : List Process) where
  abbrev g : Search
  g = search_of b

  abbrev o : Ongoing
  o = after b turns

  abbrev s : Session
  s = o.session

  is : IsSearch g
  is = is_search_lem b a

  kept : Kept g (InRestart g)
  kept = restart_kept g is h

  all : Listed g (InRestart g) (at_start b) turns
  all = listed g is (InRestart g) kept turns (at_start b) (restart_holds b a h)

  abbrev box : ℕ → List ℕ
  box = all.holds.box

  abbrev open' : ℕ → Bool
  open' = all.holds.state.0

  now : Restarts g s box open'
  now = all.holds.state.1

  counted : s.delivered ≡ accepted_turns (tables_left b) (at_start b) turns
  counted = omega (arith, all.delivered, start_delivered b a)

  on_oldest : (j : ℕ) → j < size g → has_ended s j ≡ true → stands_on s j ≡ 1
  on_oldest j small ended = now.on_oldest j small (ended_closed g is s box open' now.ends j small ended)

  -- as many as there are participants: nothing is on its way any more
  closed : s.delivered ≡ size g - 1 → (k : ℕ) → k < 16 → open' k ≡ false
  closed many k small = at (open' k) refl
    where
      at : (v : Bool) → open' k ≡ v → open' k ≡ false
      at true e =
          let counts : one (open' k) ≡ 1 = ap one e in
          absurd (omega (arith, now.deliveries, sum_at 16 (λ q. one (open' q)) k small))
      at false e = e

  module _ (p : Process) (some : 1 ≤ p.0) (waits : waits_on s (p.0 - 1) ≡ true) where
    abbrev k : ℕ
    k = p.0 - 1

    there : is_part g k ≡ true
    there = waits_part g is (InRestart g) kept o all.holds k waits

    still : open' k ≡ true
    still = at (open' k) refl
      where
        at : (v : Bool) → open' k ≡ v → open' k ≡ true
        at true e = e
        at false e =
            absurd (true≢false (sym waits
            ∙ closed_waits g is s o.strands box all.holds.laid open' now.ends
            (restart_tell g is h s o.strands box open' now).some k there e))

    ending : IsEnding g s k (box k)
    ending = subst (λ (v : Bool). Closing g s k (box k) v) still (now.ends.closing k there)

    taken : goes g s k (box k) ≡ goes_down g s k (box k)
    taken =
        goes_as g s k (box k) Ending
        ((restart_tell g is h s o.strands box open' now).holds k there
        ∙ ap (λ (v : Bool). pick v Ending Nothing) still)

    silent : (q : ℕ) → q < 16 → goes_to (goes g s k (box k)).outgoing q ≡ false
    silent q small =
        ap (λ (t : Turned). goes_to t.outgoing q) taken
        ∙ end_silent g s k (box k) q small
        (omega (arith, ap (λ (i : Process). i.0) now.ends.placed.leader, lead_in g is, few g is))
        (ap ends_it ending.read ∙ ending.ending)

    accepted : next_question b turns p ≡ 0
    accepted = silent_answers g is (InRestart g) kept o all.holds p some waits silent

  holds_restart : RestartHolds b turns
  holds_restart =
      record {
        waits_exactly =
            over_exactly g is s o.strands box all.holds.laid open' now.ends
            (restart_tell g is h s o.strands box open' now).some;
        few_delivered = omega (arith, counted, now.deliveries);
        delivered = counted;
        no_round = now.no_round;
        on_oldest = on_oldest;
        all_ended =
            λ many.
            all_closed g is s o.strands box all.holds.laid open' now.ends
            (restart_tell g is h s o.strands box open' now).some (closed (counted ∙ many));
        accepted = accepted;
      }

pub restart_ends : RestartEnds
restart_ends b a h turns = holds_restart b a h turns
