-- Where nothing waits any more, everybody has ended, where a search or a restart ends: on the line, or on checkpoint 1.
use mathlib.Core.Path.{◌≡◌, refl, sym, ap, ◌∙◌}
use mathlib.Core.Bool.{Bool, true, false, true≢false}
use mathlib.Core.List.{List}
use mathlib.Core.Logic.{inl, inr}
use Prim.Native.Nat.{ℕ, ◌≤◌, ◌<◌}
use native.Mathlib.Decide.{dec_lt}
use native.Mathlib.Omega.{arith}
use borrow.Author.Tests.{lt-ltb, le-ltb, ne_eqb, eqb-true, not-false}
use lib.Dec.{eqb}
use Rattle.lists.specs.Over.{all_to}
use Rattle.lists.proofs.Over.{all_in}
use Rattle.line_theory.proofs.Line.{line_absent}
use Rattle.participant.specs.declared.Participant.{Participant}
use Rattle.participant.specs.Calls.{no_participant}
use Rattle.exchange_laws.specs.Ends.{is_search}
use Rattle.session.specs.declared.Session.{Session}
use Rattle.session.specs.Workers.{stands_on, has_ended}
use Rattle.session.specs.Turns.{Ongoing}
use Rattle.session_theory.proofs.Search.{Search, IsSearch, size, lead, is_part, view_in, line_in}
use Rattle.session_theory.proofs.Invariant.{Placed, Laid, Restarts}
use Rattle.session_theory.proofs.Facts.{lead_in}
use Rattle.demand3.specs.Statement.{message_waits, someone_goes_on}
use Rattle.demand3.proofs.Kept.{Holds, placed_in}
use Rattle.demand3.proofs.Searching.{InSearch, waits_tell, over_tell, restart_tell}
use Rattle.demand3.proofs.Purposes.{In, InSession, restarts, is_searching, kept_in}
use Rattle.demand3.proofs.Workers.{none_ended, ended_closed}
use Rattle.demand3.proofs.Exactly.{going_exactly, over_exactly}
use Rattle.searches.specs.Search.{end_of}

-- where everybody of a search ends
abbrev pub end_in : Search → ℕ → ℕ
end_in g j = end_of (view_in g) g.purpose j

no_candidate : no_participant.candidate.0 ≡ 0
unfolding no_participant
no_candidate = refl

all_ended : (n : ℕ) (s : Session) → message_waits s ≡ someone_goes_on n s → message_waits s ≡ false → (j : ℕ) → j < n → has_ended s j ≡ true
all_ended n s exactly silent =
    all_in n (has_ended s) (not-false (all_to n (has_ended s)) (sym exactly ∙ silent))

module _
    (g : Search)
    (is : IsSearch g)
    (s : Session)
    (strands : List ℕ)
    (box : ℕ → List ℕ)
    (laid : Laid g s strands box)
    (silent : message_waits s ≡ false)
  where
    abbrev AtEnd : (ℕ → ℕ) → Type 0
    AtEnd end = (j : ℕ) → j < size g → (has_ended s j ≡ true) × (stands_on s j ≡ end j)

    search_over : is_search g.purpose ≡ true → InSearch g s box → AtEnd (line_in g)
    search_over searching (inl w) j small =
        let told = waits_tell g is searching s strands box w.0 w.1 w.2 in
        let ended : has_ended s j ≡ true =
        all_ended (size g) s (going_exactly g is s strands box laid w.0 w.1 w.2 told.some) silent j small in
        absurd (true≢false (sym ended ∙ none_ended g is s box w.0 w.1 w.2 j small))
    search_over searching (inr f) j small =
        let told = over_tell g is searching s strands box f.0 f.1 in (
          all_ended (size g) s (over_exactly g is s strands box laid f.0 f.1.ends told.some) silent j small,
          f.1.on_line j small,
        )

    module _ (restart : g.purpose ≡ 2) (open' : ℕ → Bool) (r : Restarts g s box open') where
      restart_ended : (j : ℕ) → j < size g → has_ended s j ≡ true
      restart_ended =
          let told = restart_tell g is restart s strands box open' r in
          all_ended (size g) s (over_exactly g is s strands box laid open' r.ends told.some) silent

      restart_over : AtEnd (λ j. 1)
      restart_over j small = (
        restart_ended j small,
        r.on_oldest j small (ended_closed g is s box open' r.ends j small (restart_ended j small)),
      )

module _ (g : Search) (is : IsSearch g) (o : Ongoing) (holds : Holds g (InSession g) o) (silent : message_waits o.session ≡ false) where
  abbrev s : Session
  s = o.session

  pub ended_there : (j : ℕ) → j < size g → (has_ended s j ≡ true) × (stands_on s j ≡ end_in g j)
  ended_there j small = go (restarts g) refl holds.state
    where
      go : (v : Bool) → restarts g ≡ v → In v g s holds.box → (has_ended s j ≡ true) × (stands_on s j ≡ end_in g j)
      go true e state =
          rw (e, lt-ltb j (size g) small)
          (restart_over g is s o.strands holds.box holds.laid silent (eqb-true g.purpose 2 e) state.0 state.1 j small)
      go false e state =
          rw e (search_over g is s o.strands holds.box holds.laid silent (is_searching g is e) state j small)

  -- absent processes have 0
  absent_stands : (j : ℕ) → size g ≤ j → j < 16 → stands_on s j ≡ 0
  absent_stands j out small =
      let placed : Placed g s = placed_in g is (InSession g) (kept_in g is) o holds in
      let other : eqb j (lead g) ≡ false = ne_eqb j (lead g) (λ e. omega (arith, lead_in g is, out, e)) in
      let nobody : is_part g j ≡ false = rw (le-ltb j (size g) out) in
      rw (placed.leader, other) (ap (λ (p : Participant). p.candidate.0) (placed.absent j small nobody).0 ∙ no_candidate)

  absent_end : (j : ℕ) → size g ≤ j → end_in g j ≡ 0
  absent_end j out = go (restarts g) refl
    where
      go : (v : Bool) → restarts g ≡ v → end_in g j ≡ 0
      go true e = rw (e, le-ltb j (size g) out)
      go false e = rw e (line_absent (view_in g) j out)

  pub stands_there : (j : ℕ) → j < 16 → stands_on s j ≡ end_in g j
  stands_there j small =
      elim (dec_lt j (size g)) [
        | yes inside ↦ (ended_there j inside).1
        | no out ↦ absent_stands j (omega arith) small ∙ sym (absent_end j (omega arith))
      ]
