-- A step back to the newest permitted checkpoint: there is one, and it is not earlier than any consistent set's.
use mathlib.Core.Path.{◌≡◌}
use mathlib.Core.Bool.{Bool, true}
use Prim.Native.Nat.{ℕ, zero, suc, ◌+◌, ◌-◌, ◌≤◌, ◌<◌}
use native.Mathlib.Decide.{ℕ_discrete}
use native.Mathlib.Omega.{arith}
use Rattle.line_theory.specs.Sets.{View, IsBook, IsSet, Consistent}
use Rattle.line_theory.specs.Search.{permitted, newest, sent_to}
use Rattle.line_theory.specs.Statements.{NewestIsNewest, NewestFromCandidate, NotKnownPermits}
use Rattle.lists.proofs.Over.{last_back, last_true, last_later, last_from, last_again}
use Rattle.line_theory.proofs.Tests.{permitted_in, permitted_out, consistent_is_permitted}

-- more known, no less permitted
pub permitted_more : (n : ℕ) (row known known' : ℕ → ℕ) → ((p : ℕ) → p < n → known p ≤ known' p)
    → permitted n row known ≡ true → permitted n row known' ≡ true
permitted_more n row known known' more h =
    permitted_out n row known' (λ p k. omega (arith, permitted_in n row known h p k, more p k))

module _ (m : ℕ) (v : View) (book : IsBook m v) where
  -- sent counters rise from each checkpoint to each later one
  rising_by : (j r p k : ℕ) → j < v.n → p < v.n → 1 ≤ r → r + k ≤ v.count j → v.S j r p ≤ v.S j (r + k) p
  rising_by j r p zero a b c d = let e : r + 0 ≡ r = omega arith in rw e (omega arith)
  rising_by j r p (suc k) a b c d =
      let e : r + suc k ≡ suc (r + k) = omega arith in
      let ih : v.S j r p ≤ v.S j (r + k) p = rising_by j r p k a b c (omega arith) in
      rw e (omega (arith, book.rising j (r + k) p a b (omega arith) (omega arith)))

  pub sent_rises : (j r r' p : ℕ) → j < v.n → p < v.n → 1 ≤ r → r ≤ r' → r' ≤ v.count j → v.S j r p ≤ v.S j r' p
  sent_rises j r r' p a b c d e =
      let s : r + (r' - r) ≡ r' = omega arith in
      rw s at (rising_by j r p (r' - r) a b c (omega arith))

  -- the oldest checkpoint is always permitted
  oldest_permitted : (j : ℕ) (known : ℕ → ℕ) → j < v.n → permitted v.n (v.R j 1) known ≡ true
  oldest_permitted j known a = permitted_out v.n (v.R j 1) known (λ p k. omega (arith, book.oldest j p a k))

  module _ (d c known : ℕ → ℕ) (there : IsSet v d) (pairwise : Consistent v d) (below : (p : ℕ) → p < v.n → d p ≤ c p)
      (among : (p : ℕ) → p < v.n → c p ≤ v.count p) (j : ℕ) (a : j < v.n)
      (at_least : (p : ℕ) → p < v.n → sent_to v c j p ≤ known p) where
    -- A consistent set's checkpoint is permitted by all that is at least what any later set has sent.
    pub consistent_permitted : permitted v.n (v.R j (d j)) known ≡ true
    consistent_permitted =
        permitted_more v.n (v.R j (d j)) (sent_to v d j) known
        (λ p k. omega (arith, sent_rises p (d p) (c p) j k a (there.some p k) (below p k) (among p k), at_least p k))
        (consistent_is_permitted m v d book there pairwise j a)

    -- So the newest permitted checkpoint is not earlier.
    pub newest_above : (r : ℕ) → d j ≤ r → d j ≤ newest v.n (v.R j) known r
    unfolding newest
    newest_above r h = last_from (λ s. permitted v.n (v.R j s) known) _ (d j) consistent_permitted (omega arith)

pub newest_is_newest : NewestIsNewest
unfolding newest
newest_is_newest m v j r known book a some among =
    let f : ℕ → Bool = λ s. permitted v.n (v.R j s) known in
    let first : 1 ≤ newest v.n (v.R j) known r = last_from f _ 1 (oldest_permitted m v book j known a) (omega arith) in
    record { some = first; back = last_back f r; permits = last_true f r first; later = last_later f r }

pub newest_from_candidate : NewestFromCandidate
unfolding newest
newest_from_candidate n rows known known' r less =
    last_again (λ s. permitted n (rows s) known) (λ s. permitted n (rows s) known')
    (λ s h. permitted_more n (rows s) known' known less h) r

pub not_known_permits : NotKnownPermits
not_known_permits m v j r known book a some among enough =
    permitted_out v.n (v.R j r) known (λ p k. elim (ℕ_discrete (known p) m) [
      | yes e ↦ rw e (book.received j r p a k some among)
      | no e ↦ enough p k e
    ])
