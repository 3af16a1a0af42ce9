-- They hold, by computation.
-- Assumes nothing.
use mathlib.Core.Path.{◌≡◌, refl}
use Prim.Native.Nat.{ℕ, zero, suc, ◌≤◌, ◌<◌}
use native.Mathlib.Omega.{arith}
use Rattle.book.specs.Tables as tables
use Rattle.line_theory.specs.Sets.{View}
use Rattle.line_theory.specs.OfTables.{view_of}
use Rattle.shown.specs.Shown as shown
use Rattle.shown.specs.Statements.{IsLonger}
use Rattle.restart.specs.Plan as plan
use Rattle.restart.specs.Values as values
use Rattle.restart.specs.Calls as calls
use Rattle.move_laws.specs.Appended as appended
use Rattle.session_examples.proofs.Computing.{computing}
use Rattle.examples.specs.InFlight.{half_received, Smallest, HalfReceived}

-- ---- the checkpoints of two processes with two each

-- what holds of both holds of every process, or partner, that there is
by_process : (P : ℕ → Type 0) → P 0 → P 1 → (j : ℕ) → j < 2 → P j
by_process P a b zero h = a
by_process P a b (suc zero) h = b
by_process P a b (suc (suc j)) h = absurd (omega arith)

by_checkpoint : (P : ℕ → Type 0) → P 1 → P 2 → (r : ℕ) → 1 ≤ r → r ≤ 2 → P r
by_checkpoint P a b zero first last = absurd (omega arith)
by_checkpoint P a b (suc zero) first last = a
by_checkpoint P a b (suc (suc zero)) first last = b
by_checkpoint P a b (suc (suc (suc r))) first last = absurd (omega arith)

by_counter : (P : ℕ → ℕ → ℕ → Type 0) → P 0 1 0 → P 0 2 0 → P 1 1 0 → P 1 2 0 → P 0 1 1 → P 0 2 1 → P 1 1 1 → P 1 2 1
    → (j r p : ℕ) → j < 2 → 1 ≤ r → r ≤ 2 → p < 2 → P j r p
by_counter P a b c d a' b' c' d' j r p h first last o =
    by_process (P j r)
    (by_process (λ i. P i r 0) (by_checkpoint (λ s. P 0 s 0) a b r first last) (by_checkpoint (λ s. P 1 s 0) c d r first last) j h)
    (by_process (λ i. P i r 1) (by_checkpoint (λ s. P 0 s 1) a' b' r first last) (by_checkpoint (λ s. P 1 s 1) c' d' r first last) j h)
    p o

abbrev v : View
v = view_of half_received.before

abbrev u : View
u = view_of half_received.whole

counts : (j : ℕ) → j < 2 → v.count j ≡ 2
unfolding computing
counts = by_process (λ j. v.count j ≡ 2) refl refl

grown : IsLonger v u
unfolding computing
grown = record {
  n = refl;
  count = by_process (λ j. v.count j ≤ u.count j) (omega arith) (omega arith);
  S = λ j r p at.
      by_counter (λ j r p. u.S j r p ≡ v.S j r p) refl refl refl refl refl refl refl refl j r p at.process at.first
      (rw (counts j at.process) at at.last) at.partner;
  R = λ j r p at.
      by_counter (λ j r p. u.R j r p ≡ v.R j r p) refl refl refl refl refl refl refl refl j r p at.process at.first
      (rw (counts j at.process) at at.last) at.partner;
}

-- ---- both books

both : Smallest × HalfReceived
unfolding computing shown.book_shown plan.planned plan.applied values.order_of values.numbers calls.move_question calls.book_moved calls.order_given calls.shape_moved calls.sent_moved calls.received_moved appended.view_appended tables.partner_column
both = (
  record { line = refl; moved = refl; later = refl; same = (refl, refl) },
  record {
    in_flight = record { line = refl; moved = refl; later = refl; same = (refl, refl) };
    off = (refl, refl);
    accepted = (record { sixteen = refl; passed = refl }, record { sixteen = refl; passed = refl });
    grown = grown;
  },
)

pub smallest_holds : Smallest
smallest_holds = both.0

pub half_received_holds : HalfReceived
half_received_holds = both.1
