-- The view of accepted tables: zero elsewhere, and as a book is asked to be.
use mathlib.Core.Path.{◌≡◌}
use mathlib.Core.Bool.{true}
use mathlib.Core.List.{List}
use mathlib.Core.Logic.{inr}
use Prim.Native.Nat.{ℕ, zero, suc, ◌+◌, ◌-◌, ◌≤◌, ◌<◌}
use native.Mathlib.Omega.{arith}
use lib.ListN.{take}
use Rattle.book.specs.declared.Shape.{Shape}
use Rattle.book.specs.Bounds.{mark}
use Rattle.book.specs.Lent.{lent}
use Rattle.book.specs.Accepted.{AreAccepted}
use Rattle.book.specs.Questions.{all_zero, unused_from}
use Rattle.book.specs.View.{counter_at, count, S, R}
use Rattle.book.proofs.Counts.{few_in_all}
use Rattle.lists.specs.Over.{sum_to}
use Rattle.line_theory.specs.Sets.{View, IsBook}
use Rattle.line_theory.specs.OfTables.{view_of}
use Rattle.line_theory.proofs.Accepted.{by_column, checked, well, unused_entry, inside, received_own, received_of, received_rises, accepted_book}
use Rattle.shown.specs.Statements.{IsCounter, ShowsBook, ZeroElsewhere, AcceptedShows, AcceptedZeroElsewhere}
use Rattle.book.proofs.Sums.{sum_of}

module _ {shape : Shape} {sent received : List ℕ} (are : AreAccepted (lent shape sent received)) where
  abbrev v : View
  v = view_of (lent shape sent received)

  is_book : IsBook mark v
  is_book = accepted_book are

  -- a column of an absent process, at a checkpoint
  absent_entry : (table : List ℕ) → all_zero (unused_from shape.n 0 (take shape.n shape.counts) table) ≡ true → (j r p : ℕ)
      → j < shape.n → 1 ≤ r → r ≤ count shape j → shape.n ≤ p → p < 16 → counter_at shape.counts table j r p ≡ 0
  absent_entry table z j zero p h a m absent few = absurd (omega arith)
  absent_entry table z j (suc r) p h a m absent few =
      unused_entry are table z j r p h m (inr (absent, few))

  zero_elsewhere : ZeroElsewhere v (S shape sent) × ZeroElsewhere v (R shape received)
  zero_elsewhere = (
    λ j r h a m. ((is_book.own j r h a m).0, λ p i l. absent_entry sent (checked are).sent_zero j r p h a m i l),
    λ j r h a m. ((is_book.own j r h a m).1, λ p i l. absent_entry received (checked are).received_zero j r p h a m i l),
  )

  few : sum_to shape.n (count shape) ≤ 256
  few = rw (sum_of shape.counts shape.n) (few_in_all (take shape.n shape.counts) (checked are).counts)

  -- of a checkpoint, counted from 0
  module _ (j r : ℕ) (h : j < shape.n) (m : r < count shape j) where
    received_known : (p : ℕ) → p < shape.n → R shape received j (suc r) p < mark
    received_known =
        by_column (λ q. R shape received j (suc r) q < mark) shape.n j h (rw (received_own are j r h m) (omega arith))
        (λ k i. rw (received_of are j r h m k i) ((well are).known j r (shape.n - 1 + k) h (inside are j r h m) (omega arith)))

  shows : ShowsBook v
  shows =
      record {
        size = ((checked are).some, (checked are).few);
        some = is_book.some;
        few = few;
        known = known;
        oldest_received = is_book.oldest;
        rising = rising;
      }
    where
      known : (j r p : ℕ) → IsCounter v j r p → (S shape sent j r p < mark) × (R shape received j r p < mark)
      known j zero p is = absurd (omega (arith, is.first))
      known j (suc r) p is = (
        is_book.below j (suc r) p is.process is.partner (omega arith) is.last,
        received_known j r is.process is.last p is.partner,
      )

      rising : (j r p : ℕ) → IsCounter v j r p → r < count shape j
          → (S shape sent j r p ≤ S shape sent j (suc r) p) × (R shape received j r p ≤ R shape received j (suc r) p)
      rising j zero p is m = absurd (omega (arith, is.first))
      rising j (suc r) p is m = (
        is_book.rising j (suc r) p is.process is.partner (omega arith) m,
        received_rises are j (suc r) p is.process is.partner (omega arith) m,
      )

pub accepted_zero_elsewhere : AcceptedZeroElsewhere
accepted_zero_elsewhere t = zero_elsewhere

pub accepted_shows : AcceptedShows
accepted_shows t = shows
