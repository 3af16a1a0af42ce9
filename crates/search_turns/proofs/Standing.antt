-- Where workers stand: each on a checkpoint that there is.
use mathlib.Core.Path.{sym, subst}
use mathlib.Core.Logic.{inl, inr}
use Prim.Native.Nat.{ℕ, ◌≤◌, ◌<◌}
use native.Mathlib.Omega.{arith}
use Rattle.machine_laws.proofs.Checkpoints.{checkpoint_in}
use Rattle.machine_laws.proofs.Theorems.{sent_falls}
use Rattle.participant_laws.proofs.Accepted as participant
use Rattle.initiator_laws.proofs.Fit as initiator
use Rattle.session.specs.declared.Session.{Session}
use Rattle.session.specs.Workers.{participant_at, stands_on}
use Rattle.session_theory.proofs.Search.{Search, IsSearch, size, lead, own_in, line_in, sent_in}
use Rattle.session_theory.proofs.Facts.{few, own_is, line_is, worker, stands_lead, stands_part}
use Rattle.session_theory.proofs.Invariant.{Placed}

module _ (g : Search) (s : Session) (placed : Placed g s) (j : ℕ) (h : j < size g) where
  pub stands_in : (1 ≤ stands_on s j) × (stands_on s j ≤ (own_in g j).count)
  stands_in = elim (worker g j h) [
    | inl e ↦
        let fit = initiator.fits_in (own_in g (lead g)) s.machine placed.machine_fits in
        subst (λ (i : ℕ). (1 ≤ stands_on s i) × (stands_on s i ≤ (own_in g i).count)) (sym e)
        (rw (stands_lead g s placed.leader) (fit.some, fit.among))
    | inr is ↦
        rw (stands_part g s placed.leader j is)
        (checkpoint_in (own_in g j) (participant_at s j).candidate.0
        (participant.fits_in (own_in g j) (participant_at s j) (placed.part j is).fitting).there)
  ]

module _ (g : Search) (is : IsSearch g) where
  pub line_some : (j : ℕ) → j < size g → 1 ≤ line_in g j
  line_some j h = (line_is g is).is_set.some j h

  -- an earlier checkpoint had sent no more
  pub sent_less : (j r r' p : ℕ) → j < size g → p < size g → 1 ≤ r' → r' ≤ r → r ≤ (own_in g j).count
      → sent_in g j r' p ≤ sent_in g j r p
  sent_less j r r' p h i some back among =
      sent_falls (own_in g j) j r r' p (own_is g is j h) (omega (arith, few g is)) some back among
