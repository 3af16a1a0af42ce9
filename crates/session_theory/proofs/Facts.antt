-- What follows at once from a search's tables and from where everybody is.
use mathlib.Core.Path.{◌≡◌, refl, ap}
use mathlib.Core.Bool.{true, not, ◌&&◌}
use mathlib.Core.Logic.{◌⊎◌, inl, inr}
use Prim.Native.Nat.{ℕ, suc, ◌-◌, ◌≤◌, ◌<◌}
use native.Mathlib.Decide.{ℕ_discrete}
use native.Mathlib.Omega.{arith}
use borrow.Author.Tests.{lt-ltb, eq-eqb, ne_eqb, eqb-true, eqb-false, le-leb, leb-true, not-true}
use lib.Dec.{ltb, leb, eqb}
use Rattle.book.specs.declared.Process.{Process}
use Rattle.book.specs.Bounds.{mark}
use Rattle.lists.proofs.Tests.{and_both, both_and}
use Rattle.line_theory.specs.Sets.{IsBook, IsLine}
use Rattle.line_theory.proofs.Accepted.{accepted_size, accepted_book}
use Rattle.line_theory.proofs.Theorems.{line_is_line}
use Rattle.book.specs.Names.{is_named}
use Rattle.machine.specs.Named.{participant_named}
use Rattle.machine_laws.specs.Own.{IsOwn}
use Rattle.machine_laws.proofs.Theorems.{is_own}
use Rattle.participant.specs.declared.Participant.{Participant}
use Rattle.initiator.specs.Fits.{fits}
use Rattle.session.specs.declared.Session.{Session}
use Rattle.session.specs.Workers.{participant_at, stands_on, has_ended, is_ended}
use Rattle.session.proofs.Places.{participant_there}
use Rattle.session_theory.proofs.Search.{Search, IsSearch, size, lead, is_part, own_in, view_in, line_in}
use Rattle.session_theory.proofs.Invariant.{Part, Placed}

module _ (g : Search) (is : IsSearch g) where
  sizes : (1 ≤ size g) × (size g ≤ 16)
  sizes = accepted_size is.accepted

  pub some : 1 ≤ size g
  some = sizes.0

  pub few : size g ≤ 16
  few = sizes.1

  initiator_in : (1 ≤ g.initiator.0) × (g.initiator.0 ≤ size g)
  initiator_in =
      let b = and_both (leb 1 g.initiator.0) (leb g.initiator.0 (size g)) is.named in
      (leb-true 1 g.initiator.0 b.0, leb-true g.initiator.0 (size g) b.1)

  pub initiator_some : 1 ≤ g.initiator.0
  initiator_some = initiator_in.0

  pub initiator_most : g.initiator.0 ≤ size g
  initiator_most = initiator_in.1

  pub lead_in : lead g < size g
  lead_in = omega (arith, initiator_in)

  pub own_is : (j : ℕ) → j < size g → IsOwn (own_in g j) j
  own_is j h = is_own is.accepted j h

  pub book_is : IsBook mark (view_in g)
  book_is = accepted_book is.accepted

  pub line_is : IsLine (view_in g) (line_in g)
  line_is = line_is_line mark (view_in g) book_is

-- ---- participants

module _ (g : Search) (k : ℕ) where
  pub is_part_lem : k < size g → (k ≡ lead g → ⊥) → is_part g k ≡ true
  is_part_lem h other = rw (lt-ltb k (size g) h, ne_eqb k (lead g) other)

  pub part_in : is_part g k ≡ true → k < size g
  part_in = participant_there (size g) (lead g) k

  pub part_other : is_part g k ≡ true → k ≡ lead g → ⊥
  part_other h = eqb-false k (lead g) (not-true (eqb k (lead g)) (and_both (ltb k (size g)) (not (eqb k (lead g))) h).1)

  -- a worker is the initiator or a participant
  pub worker : k < size g → (k ≡ lead g) ⊎ (is_part g k ≡ true)
  worker h = elim (ℕ_discrete k (lead g)) [ yes e ↦ inl e | no other ↦ inr (is_part_lem h other) ]

module _ (g : Search) (is : IsSearch g) (k : ℕ) (there : is_part g k ≡ true) where
  pub part_within : k < 16
  part_within = omega (arith, part_in g k there, few g is)

  pub part_own : IsOwn (own_in g k) k
  part_own = own_is g is k (part_in g k there)

  module _ (p : Participant) (part : Part g k p) where
    pub part_me : p.me.0 - 1 ≡ k
    part_me = omega (arith, ap (λ (q : Process). q.0) part.me)

    pub part_named : participant_named (size g) p.me.0 p.initiator.0 ≡ true
    part_named =
        rw (part.me, part.leader)
        (both_and (is_named (size g) (suc k)) (is_named (size g) g.initiator.0 && not (eqb (suc k) g.initiator.0))
        (both_and (leb 1 (suc k)) (leb (suc k) (size g)) (le-leb 1 (suc k) (omega arith))
        (le-leb (suc k) (size g) (omega (arith, part_in g k there))))
        (both_and (is_named (size g) g.initiator.0) (not (eqb (suc k) g.initiator.0)) is.named
        (rw (ne_eqb (suc k) g.initiator.0 (λ e. part_other g k there (omega (arith, e)))))))

-- ---- the session's workers

module _ (g : Search) (s : Session) (leads : s.initiator ≡ g.initiator) where
  pub stands_lead : stands_on s (lead g) ≡ s.machine.candidate.0
  stands_lead = rw (leads, eq-eqb (lead g) (lead g) refl)

  pub ended_lead : has_ended s (lead g) ≡ s.machine.ended
  ended_lead = rw (leads, eq-eqb (lead g) (lead g) refl)

  pub stands_part : (k : ℕ) → is_part g k ≡ true → stands_on s k ≡ (participant_at s k).candidate.0
  stands_part k there = rw (leads, ne_eqb k (lead g) (part_other g k there))

  pub ended_part : (k : ℕ) → is_part g k ≡ true → has_ended s k ≡ is_ended (participant_at s k).stage
  ended_part k there = rw (leads, ne_eqb k (lead g) (part_other g k there))

pub machine_n : (g : Search) (s : Session) → Placed g s → s.machine.n ≡ size g
unfolding fits
machine_n g s placed = eqb-true s.machine.n (size g) (and_both (eqb s.machine.n (size g)) _ placed.machine_fits).0
