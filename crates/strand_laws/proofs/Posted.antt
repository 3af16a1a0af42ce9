-- The buffer after posting: each strand that got a message holds it, and every other what it held.
use mathlib.Core.Path.{◌≡◌, refl, sym, subst, ◌∙◌}
use mathlib.Core.Bool.{Bool, true, not, ◌||◌}
use mathlib.Core.List.{List}
use Prim.Native.Nat.{ℕ, zero, suc, ◌+◌, ◌≤◌, ◌<◌}
use native.Mathlib.Decide.{ℕ_discrete}
use native.Mathlib.Omega.{arith}
use borrow.Author.Tests.{le-leb, leb-true}
use lib.ListN.{length, take, drop}
use lib.Dec.{leb}
use lib.Seq.{sets, length-sets}
use Rattle.book.specs.Bounds.{most_processes}
use Rattle.lists.proofs.Over.{all_in, all_out}
use Rattle.lists.proofs.Tests.{if_then, then_if}
use Rattle.mail.specs.declared.Outgoing.{Outgoing}
use Rattle.mail.specs.Outgoing.{goes_to, bytes_to}
use Rattle.strands.specs.Strands.{strand_start, have_room, posted_to}
use Rattle.strand_laws.proofs.Runs.{sets_there}

-- ---- question 17

module _ (n i : ℕ) (o : Outgoing) (strands : List ℕ) where
  -- a message's bytes fit
  abbrev pub Fits : ℕ → Type 0
  Fits k = strand_start n i k + length (bytes_to o k) ≤ length strands

  fit : ℕ → Bool
  fit k = leb (strand_start n i k + length (bytes_to o k)) (length strands)

  pub room_in : have_room n i o strands ≡ true → (k : ℕ) → k < most_processes → goes_to o k ≡ true → Fits k
  unfolding have_room fit
  room_in h k small goes =
      let f : ℕ → Bool = λ j. not (goes_to o j) || fit j in
      leb-true (strand_start n i k + length (bytes_to o k)) (length strands)
      (if_then (goes_to o k) (fit k) (all_in most_processes f h k small) goes)

  pub room_out : ((k : ℕ) → k < most_processes → goes_to o k ≡ true → Fits k) → have_room n i o strands ≡ true
  unfolding have_room fit
  room_out fits =
      let f : ℕ → Bool = λ j. not (goes_to o j) || fit j in
      all_out most_processes f
      (λ k small. then_if (goes_to o k) (fit k)
      (λ goes. le-leb (strand_start n i k + length (bytes_to o k)) (length strands) (fits k small goes)))

-- ---- the bytes

module _ (n i : ℕ) (o : Outgoing) (strands : List ℕ) where
  pub length_posted : (k : ℕ) → length (posted_to k n i o strands) ≡ length strands
  unfolding posted_to
  length_posted zero = refl
  length_posted (suc k) =
      length-sets (posted_to k n i o strands) (strand_start n i k) (bytes_to o k) ∙ length_posted k

  -- what k's message leaves as it was
  abbrev pub Untouched : ℕ → ℕ → ℕ → Type 0
  Untouched a m k = (l : List ℕ) → take m (drop a (sets l (strand_start n i k) (bytes_to o k))) ≡ take m (drop a l)

  pub posted_other :
      (k a m : ℕ) → ((j : ℕ) → j < k → Untouched a m j)
      → take m (drop a (posted_to k n i o strands)) ≡ take m (drop a strands)
  unfolding posted_to
  posted_other zero a m free = refl
  posted_other (suc k) a m free =
      free k (omega arith) (posted_to k n i o strands) ∙ posted_other k a m (λ j h. free j (omega arith))

  pub posted_there :
      (k q : ℕ) → q < k → strand_start n i q + length (bytes_to o q) ≤ length strands
      → ((j : ℕ) → j < k → (j ≡ q → ⊥) → Untouched (strand_start n i q) (length (bytes_to o q)) j)
      → take (length (bytes_to o q)) (drop (strand_start n i q) (posted_to k n i o strands)) ≡ bytes_to o q
  unfolding posted_to
  posted_there zero q h fits free = absurd (omega arith)
  posted_there (suc k) q h fits free =
      elim (ℕ_discrete k q) [
        | yes e ↦ subst
            (λ (j : ℕ).
            take (length (bytes_to o q))
            (drop (strand_start n i q) (sets (posted_to k n i o strands) (strand_start n i j) (bytes_to o j)))
            ≡ bytes_to o q)
            (sym e)
            (sets_there (bytes_to o q) (posted_to k n i o strands) (strand_start n i q) (omega (arith, length_posted k)))
        | no other ↦ free k (omega arith) other (posted_to k n i o strands)
            ∙ posted_there k q (let b : q < k = omega (arith, other) in b) fits (λ j b. free j (omega arith))
      ]
