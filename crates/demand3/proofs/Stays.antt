-- A message stays on its strand until a turn delivers it: the initiator sends only when nothing waits on the other strands.
use mathlib.Core.Path.{◌≡◌, refl, sym, ap, subst, ◌∙◌}
use mathlib.Core.Bool.{Bool, true, false, not, ◌&&◌, ◌||◌, true≢false}
use mathlib.Core.List.{List, []}
use mathlib.Core.Logic.{inl, inr, ⊎_elim}
use Prim.Native.Nat.{ℕ, ◌-◌, ◌≤◌}
use native.Mathlib.Omega.{arith}
use borrow.Author.Tests.{ne_eqb, eqb-true, eqb-false, not-true}
use lib.ListN.{length}
use lib.Dec.{eqb}
use Rattle.book.specs.declared.Process.{Process}
use Rattle.lists.proofs.Tests.{and_both, first_of_or}
use Rattle.lists.proofs.Over.{all_in}
use Rattle.lists.specs.Pick.{pick}
use Rattle.machine.specs.Flags.{flag}
use Rattle.exchange_laws.specs.Ends.{is_search}
use Rattle.strands.specs.Strands.{length_on}
use Rattle.session.specs.declared.Session.{Session}
use Rattle.session.specs.declared.Waiting.{Waiting}
use Rattle.session.specs.declared.Waiting.TheVariants.{Nothing, Ending}
use Rattle.session.specs.Workers.{waits_on}
use Rattle.session.specs.Held.{waiting_bytes, held, is_report}
use Rattle.session.specs.Turns.{Ongoing}
use Rattle.session_theory.proofs.Search.{Search, IsSearch, size, is_part}
use Rattle.session_theory.proofs.Invariant.{box_after, Phase, quiet, reported, asked, InPhase, Waits, Finished, Restarts}
use Rattle.session_theory.proofs.Facts.{part_within, part_me}
use Rattle.demand3.specs.Statement.{at_start, after}
use Rattle.demand3.specs.Beside.{StaysUntilDelivered}
use Rattle.demand3.proofs.Workers.{box_waits}
use Rattle.demand3.proofs.Turn.{next_of, goes, Refused, named_part}
use Rattle.demand3.proofs.Kept.{Kept, Holds, Moved, turn, waits_part}
use Rattle.demand3.proofs.Counts.{last_awaited}
use Rattle.demand3.proofs.Lists.{listed}
use Rattle.demand3.proofs.Searching.{InSearch, over_tell, restart_tell}
use Rattle.demand3.proofs.Purposes.{In, InSession, restarts, is_searching, kept_in}
use Rattle.demand3.proofs.Start.{search_of, is_search_lem, session_holds}
use Rattle.demand3.proofs.Others.{is_last, box_left, DeliversAt, moved_other}

-- where a termination or nothing waits, no report does
no_last : (w : Waiting) (open' last : Bool) → w ≡ pick open' Ending Nothing → (is_report w && last) ≡ false
no_last w true last e = rw e
no_last w false last e = rw e

module _ (g : Search) (is : IsSearch g) (s : Session) (box : ℕ → List ℕ) where
  module _ (k : ℕ) (there : is_part g k ≡ true) (some : 1 ≤ length (box k)) where
    -- while the search goes on, whoever's strand is not empty is awaited,
    still_awaited : (f : Phase) → InPhase g s k (box k) f → flag s.machine.awaited k ≡ true
    still_awaited quiet i = absurd (omega (arith, some, ap length i.empty))
    still_awaited reported i =
        subst (λ (q : ℕ). flag s.machine.awaited q ≡ true) (part_me g is k there i.sender i.from)
        i.waits.awaited
    still_awaited asked i = i.awaited

    -- so that another's report is not the last,
    more_awaited : (j : ℕ) → (k ≡ j → ⊥) → flag s.machine.awaited k ≡ true → last_awaited s.machine j ≡ true → ⊥
    more_awaited j other awaited last =
        let only : (not (flag s.machine.awaited k) || eqb k j) ≡ true =
        all_in 16 (λ q. not (flag s.machine.awaited q) || eqb q j) last k (part_within g is k there) in
        true≢false (sym (first_of_or (not (flag s.machine.awaited k)) (eqb k j) only (ne_eqb k j other)) ∙ ap not awaited)

    going_last : (phase : ℕ → Phase) (ahead : ℕ) → Waits g s box phase ahead → (j : ℕ) → (k ≡ j → ⊥)
        → is_last g s j (box j) ≡ false
    going_last phase ahead w j other = go (is_last g s j (box j)) refl
      where
        go : (v : Bool) → is_last g s j (box j) ≡ v → is_last g s j (box j) ≡ false
        go false e = e
        go true e =
            absurd (more_awaited j other (still_awaited (phase k) (w.in_phase k there))
            (and_both (is_report (held (size g) s j (box j))) (last_awaited s.machine j) e).1)

  -- and once the search is over no report waits
  module _ (searches : is_search g.purpose ≡ true) where
    over_last : (open' : ℕ → Bool) → Finished g s box open' → (j : ℕ) → is_part g j ≡ true → is_last g s j (box j) ≡ false
    over_last open' f j named =
        no_last (held (size g) s j (box j)) (open' j) (last_awaited s.machine j)
        ((over_tell g is searches s [] box open' f).holds j named)

    search_last : InSearch g s box → (k : ℕ) → is_part g k ≡ true → 1 ≤ length (box k) → (j : ℕ) → is_part g j ≡ true
        → (k ≡ j → ⊥) → is_last g s j (box j) ≡ false
    search_last (inl w) k there some j named other = going_last k there some w.0 w.1 w.2 j other
    search_last (inr f) k there some j named other = over_last f.0 f.1 j named

  -- nor in a restart
  restart_last : g.purpose ≡ 2 → (open' : ℕ → Bool) → Restarts g s box open' → (j : ℕ) → is_part g j ≡ true
      → is_last g s j (box j) ≡ false
  restart_last h open' r j named =
      no_last (held (size g) s j (box j)) (open' j) (last_awaited s.machine j)
      ((restart_tell g is h s [] box open' r).holds j named)

  not_last : InSession g s box → (k : ℕ) → is_part g k ≡ true → 1 ≤ length (box k) → (j : ℕ) → is_part g j ≡ true
      → (k ≡ j → ⊥) → is_last g s j (box j) ≡ false
  not_last state k there some j named other = go (restarts g) refl state
    where
      go : (v : Bool) → restarts g ≡ v → In v g s box → is_last g s j (box j) ≡ false
      go true e r = restart_last (eqb-true g.purpose 2 e) r.0 r.1 j named
      go false e i = search_last (is_searching g is e) i k there some j named other

module _
    (g : Search)
    (is : IsSearch g)
    (o : Ongoing)
    (holds : Holds g (InSession g) o)
    (p : Process)
    (k : ℕ)
    (undelivered : DeliversAt g o p k → ⊥)
    (waits : waits_on o.session k ≡ true)
  where
    abbrev s : Session
    s = o.session

    abbrev j : ℕ
    j = p.0 - 1

    abbrev box : ℕ → List ℕ
    box = holds.box

    abbrev next : Ongoing
    next = next_of g o p

    kept : Kept g (InSession g)
    kept = kept_in g is

    there : is_part g k ≡ true
    there = waits_part g is (InSession g) kept o holds k waits

    some : 1 ≤ length (box k)
    some =
        let filled : length_on s.lengths k ≡ 0 → ⊥ =
        eqb-false (length_on s.lengths k) 0 (not-true (eqb (length_on s.lengths k) 0) waits) in
        omega (arith, filled, (holds.laid k there).long)

    moved : Moved g (InSession g) o p box
        → (waits_on next.session k ≡ true)
        × (waiting_bytes (size g) next.session next.strands k ≡ waiting_bytes (size g) s o.strands k)
    moved m =
        let now : ℕ → List ℕ = box_after (goes g s j (box j)).outgoing j box in
        let other : k ≡ j → ⊥ = moved_other g (InSession g) o p box k m undelivered in
        let same : now k ≡ box k =
        box_left g s j box k (part_within g is k there) other
        (not_last g is s box holds.state k there some j (named_part g p m.named) other) in (
          box_waits g next.session next.strands now m.laid k there (omega (arith, some, ap length same)),
          (m.laid k there).bytes ∙ same ∙ sym (holds.laid k there).bytes,
        )

    stays :
        (waits_on next.session k ≡ true)
        × (waiting_bytes (size g) next.session next.strands k ≡ waiting_bytes (size g) s o.strands k)
    stays =
        ⊎_elim
        (λ (r : Refused g o p). rw (r.session, r.strands) (waits, refl))
        (λ (m : Moved g (InSession g) o p box). moved m)
        (turn g is (InSession g) kept o holds p)

pub stays_until_delivered : StaysUntilDelivered
stays_until_delivered b a turns p k undelivered waits =
    let g : Search = search_of b in
    let is : IsSearch g = is_search_lem b a in
    let all = listed g is (InSession g) (kept_in g is) turns (at_start b) (session_holds b a) in
    stays g is (after b turns) all.holds p k undelivered waits
