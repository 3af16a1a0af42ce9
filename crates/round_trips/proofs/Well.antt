-- A good book is a well-formed one.
use mathlib.Core.Path.{◌≡◌, refl}
use mathlib.Core.Bool.{true}
use mathlib.Core.List.{List, [], ◌∷◌}
use Prim.Native.Nat.{ℕ, zero, suc, ◌+◌, ◌-◌, ◌≤◌, ◌<◌}
use native.Mathlib.Omega.{arith}
use borrow.Author.Tests.{eqb-true, eq-eqb}
use lib.ListN.{length, get_or, get_or-replicate}
use Rattle.book.specs.Bounds.{mark}
use Rattle.book.specs.Tables.{counts_of}
use Rattle.book.specs.Layout.{width, Book, joined}
use Rattle.book.specs.Along.{sent_zeros, received_zeros, process_question}
use Rattle.round_trips.specs.WellFormed.{process, checkpoint, counter, WellFormed}
use Rattle.book.proofs.Counts.{few_in_all, counts_some, counts_given}
use Rattle.round_trips.proofs.ToTables.{length_counts_of}
use Rattle.round_trips.proofs.Books.{Good}
use Rattle.round_trips.proofs.Counters.{AllPass, by_half, oldest_at, before_at, process_each, each_process, rows_each, each_rows}

get_d_counts_of : (ps : List (List (List ℕ))) (j : ℕ) → get_or (counts_of ps) j 0 ≡ length (get_or ps j [])
unfolding counts_of
get_d_counts_of [] j = refl
get_d_counts_of (cs ∷ ps) zero = refl
get_d_counts_of (cs ∷ ps) (suc j) = get_d_counts_of ps j

module _ (book : Book) where
  abbrev ps : List (List (List ℕ))
  ps = book.processes

  pub good_well : Good mark book → WellFormed book
  unfolding sent_zeros received_zeros
  good_well g =
      record {
        size = (g.some, g.few);
        processes = g.long;
        some = some;
        few = few_in_all (counts_of ps) g.sound.counts;
        counters = λ j r h k. g.sound.wide j r (within j h) k;
        known = λ j r k h m i. known j r h m k i;
        oldest_received = oldest_received;
        rising = λ j r k h m i. rising j r h m k i;
      }
    where
      within : (j : ℕ) → j < book.n → j < length ps
      within j h = rw g.long h

      some : (j : ℕ) → j < book.n → 1 ≤ length (process book j)
      some j h =
          rw (get_d_counts_of ps j) at (counts_some 0 (counts_of ps) g.sound.counts j (rw (length_counts_of ps) (within j h)))

      passes : (j r : ℕ) → j < book.n → r < length (process book j)
          → AllPass mark book.n (oldest_at true r) (before_at (width book.n) (process book j) r) (checkpoint book j r)
      passes j r h m =
          process_each mark book.n (process book j) (λ q p. g.sound.wide j q (within j h) p)
          (rows_each mark book.n ps g.sound.asked j (within j h)) r m

      known : (j r : ℕ) → j < book.n → r < length (process book j) → (k : ℕ) → k < width book.n → counter book j r k < mark
      known j r h m =
          let all = passes j r h m in
          by_half (λ k. counter book j r k < mark) (book.n - 1) (λ k i. (all.sent k i).known) (λ k i. (all.received k i).known)

      rising : (j r : ℕ) → j < book.n → suc r < length (process book j) → (k : ℕ) → k < width book.n
          → counter book j r k ≤ counter book j (suc r) k
      rising j r h m =
          let all = passes j (suc r) h m in
          by_half (λ k. counter book j r k ≤ counter book j (suc r) k) (book.n - 1) (λ k i. (all.sent k i).rising) (λ k i. (all.received k i).rising)

      oldest_received : (j k : ℕ) → j < book.n → k < book.n - 1 → counter book j 0 (book.n - 1 + k) ≡ 0
      oldest_received j k h i = eqb-true (counter book j 0 (book.n - 1 + k)) 0 ((passes j 0 h (some j h)).received k i).zero

  pub well_good : WellFormed book → Good mark book
  unfolding sent_zeros received_zeros
  well_good w =
      record {
        some = w.size.0;
        few = w.size.1;
        long = w.processes;
        sound = record {
          wide = λ j r h k. w.counters j r (within j h) k;
          counts = counts_given 0 (counts_of ps) some (omega (arith, w.few));
          asked = each_rows mark book.n ps one;
        };
      }
    where
      within : (j : ℕ) → j < length ps → j < book.n
      within j h = rw w.processes at h

      some : (j : ℕ) → j < length (counts_of ps) → 1 ≤ get_or (counts_of ps) j 0
      some j h = rw (get_d_counts_of ps j) (w.some j (within j (rw (length_counts_of ps) at h)))

      -- before the oldest there are zeros
      first : (j k : ℕ) → k < width book.n → get_or (before_at (width book.n) (process book j) 0) k 0 ≤ counter book j 0 k
      first j k i = rw (get_or-replicate {A = ℕ} (width book.n) k 0 0 i) (omega arith)

      passes : (j r : ℕ) → j < book.n → r < length (process book j)
          → AllPass mark book.n (oldest_at true r) (before_at (width book.n) (process book j) r) (checkpoint book j r)
      passes j zero h m =
          record {
            sent = λ k i.
                record {
                  known = w.known j 0 k h m (omega arith);
                  zero = refl;
                  rising = first j k (omega arith);
                };
            received = λ k i.
                record {
                  known = w.known j 0 (book.n - 1 + k) h m (omega arith);
                  zero = eq-eqb (counter book j 0 (book.n - 1 + k)) 0 (w.oldest_received j k h i);
                  rising = first j (book.n - 1 + k) (omega arith);
                };
          }
      passes j (suc r) h m =
          record {
            sent = λ k i.
                record { known = w.known j (suc r) k h m (omega arith); zero = refl; rising = w.rising j r k h m (omega arith) };
            received = λ k i.
                record {
                  known = w.known j (suc r) (book.n - 1 + k) h m (omega arith);
                  zero = refl;
                  rising = w.rising j r (book.n - 1 + k) h m (omega arith);
                };
          }

      one : (j : ℕ) → j < length ps → process_question mark book.n (length (process book j)) (joined (process book j)) ≡ 0
      one j h =
          each_process mark book.n (process book j) (λ r k. w.counters j r (within j h) k) (λ r m. passes j r (within j h) m)
