-- The book as a plan leaves it: each kept counter and what was taken off it are the old counter, and it is a book again.
use mathlib.Core.Path.{◌≡◌, ◌∙◌}
use Prim.Native.Nat.{ℕ, zero, suc, ◌+◌, ◌-◌, ◌≤◌, ◌<◌}
use native.Mathlib.Nat.{sub-add_cancel, sub_self}
use native.Mathlib.Decide.{ℕ_discrete}
use native.Mathlib.Omega.{arith}
use Rattle.book.specs.Bounds.{mark}
use Rattle.lists.specs.Over.{sum_to}
use Rattle.line_theory.specs.Sets.{View, IsBook}
use Rattle.lists.proofs.Over.{sum_le}
use Rattle.shown.specs.Statements.{IsCounter, ShowsBook, SameCounters}
use Rattle.restart.specs.Plan.{Planned, applied}
use Rattle.restart.proofs.Plans.{IsPlan}

module _ (v : View) (shows : ShowsBook v) where
  -- counters rise from each checkpoint to each later one
  rising_by : (j a p k : ℕ) → j < v.n → p < v.n → 1 ≤ a → a + k ≤ v.count j
      → (v.S j a p ≤ v.S j (a + k) p) × (v.R j a p ≤ v.R j (a + k) p)
  rising_by j a p zero h o some few = let e : a + 0 ≡ a = omega arith in rw e (omega arith, omega arith)
  rising_by j a p (suc k) h o some few =
      let e : a + suc k ≡ suc (a + k) = omega arith in
      let so_far = rising_by j a p k h o some (omega arith) in
      let next = shows.rising j (a + k) p (record { process = h; first = omega arith; last = omega arith; partner = o }) (omega arith) in
      rw e (omega (arith, so_far.0, next.0), omega (arith, so_far.1, next.1))

  pub rises : (j a b p : ℕ) → j < v.n → p < v.n → 1 ≤ a → a ≤ b → b ≤ v.count j
      → (v.S j a p ≤ v.S j b p) × (v.R j a p ≤ v.R j b p)
  rises j a b p h o some later few =
      let e : a + (b - a) ≡ b = omega arith in
      rw e at (rising_by j a p (b - a) h o some (omega arith))

  module _ (book : IsBook mark v) (plan : Planned) (is : IsPlan v plan) where
    -- what is checkpoint r now was a checkpoint of the old book
    was_counter : (j r p : ℕ) → IsCounter (applied plan v) j r p → IsCounter v j (plan.before j + r) p
    unfolding applied
    was_counter j r p at = record {
      process = at.process;
      first = omega (arith, at.first);
      last = omega (arith, at.last, is.adds_up j at.process);
      partner = at.partner;
    }

    module _ (j r p : ℕ) (at : IsCounter (applied plan v) j r p) where
      -- it is there, and no earlier than the line's checkpoint
      in_order : (j < v.n) × (p < v.n) × (1 ≤ plan.line j) × (plan.line j ≤ plan.before j + r) × (plan.before j + r ≤ v.count j)
      in_order =
          let w : IsCounter v j (plan.before j + r) p = was_counter j r p at in
          (w.process, w.partner, is.line.some j w.process, omega (arith, is.before j w.process, at.first), w.last)

      -- what the receiver's line checkpoint had received, the sender's had sent; own columns are zero
      off_sent : plan.off j p ≤ v.S j (plan.before j + r) p
      off_sent =
          let l = in_order in
          let later = (rises j (plan.line j) (plan.before j + r) p l.0 l.1 l.2 l.3 l.4).0 in
          elim (ℕ_discrete p j) [
            | yes e ↦
                let none : v.R p (plan.line p) j ≡ 0 = rw e (book.own j (plan.line j) l.0 l.2 (omega arith)).1 in
                omega (arith, is.off j p)
            | no ne ↦ omega (arith, is.off j p, is.pairwise p j l.1 l.0 ne)
          ]

      sent_falls : (applied plan v).S j r p + plan.off j p ≡ v.S j (plan.before j + r) p
      unfolding applied
      sent_falls = sub-add_cancel off_sent

      received_falls : (applied plan v).R j r p + plan.off p j ≡ v.R j (plan.before j + r) p
      unfolding applied
      received_falls =
          let l = in_order in
          let later = (rises j (plan.line j) (plan.before j + r) p l.0 l.1 l.2 l.3 l.4).1 in
          sub-add_cancel (omega (arith, is.off p j))

    pub applied_shows : ShowsBook (applied plan v)
    unfolding applied
    applied_shows = record {
      size = shows.size;
      some = is.some;
      few =
          let less : sum_to v.n plan.kept ≤ sum_to v.n v.count
          = sum_le v.n plan.kept v.count (λ j h. omega (arith, is.adds_up j h)) in
          omega (arith, shows.few);
      known = λ j r p at.
          let k = shows.known j (plan.before j + r) p (was_counter j r p at) in
          (omega (arith, k.0), omega (arith, k.1));
      oldest_received = λ j p h o. rw (is.off p j, is.before j h) (sub_self (v.R j (plan.line j) p));
      rising = λ j r p at m.
          let e : plan.before j + suc r ≡ suc (plan.before j + r) = omega arith in
          let k = shows.rising j (plan.before j + r) p (was_counter j r p at) (omega (arith, m, is.adds_up j at.process)) in
          rw e (omega (arith, k.0), omega (arith, k.1));
    }

    -- Of a book with the same counters, such as that of the moved tables, which is zero in own columns as this one is:
    module _ (w : View) (same : SameCounters w (applied plan v)) (after : IsBook mark w) (j r p : ℕ) (at : IsCounter w j r p) where
      at_applied : IsCounter (applied plan v) j r p
      at_applied = record {
        process = rw same.n at at.process;
        first = at.first;
        last = rw (same.count j at.process) at at.last;
        partner = rw same.n at at.partner;
      }

      -- nothing was taken off own columns
      own_back : p ≡ j
          → (w.S j r p + plan.off j p ≡ v.S j (plan.before j + r) p) × (w.R j r p + plan.off p j ≡ v.R j (plan.before j + r) p)
      own_back e =
          let l = in_order j r p at_applied in
          let now = after.own j r at.process at.first at.last in
          let none : plan.off j j ≡ 0 = is.off j j ∙ (book.own j (plan.line j) l.0 l.2 (omega arith)).1 in
          let old = book.own j (plan.before j + r) l.0 (omega arith) l.4 in
          rw e (omega (arith, now.0, old.0), omega (arith, now.1, old.1))

      pub sent_back : w.S j r p + plan.off j p ≡ v.S j (plan.before j + r) p
      sent_back = elim (ℕ_discrete p j) [
        | yes e ↦ (own_back e).0
        | no ne ↦ rw (same.S j r p at ne) (sent_falls j r p at_applied)
      ]

      pub received_back : w.R j r p + plan.off p j ≡ v.R j (plan.before j + r) p
      received_back = elim (ℕ_discrete p j) [
        | yes e ↦ (own_back e).1
        | no ne ↦ rw (same.R j r p at ne) (received_falls j r p at_applied)
      ]
