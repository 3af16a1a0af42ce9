-- The counters of the book that a view shows: those of the view.
use mathlib.Core.Path.{◌≡◌, refl, sym, ap, ap₂, ◌∙◌}
use mathlib.Core.List.{List, [], ◌++◌}
use Prim.Native.Nat.{ℕ, zero, suc, ◌+◌, ◌-◌, ◌<◌}
use native.Mathlib.Omega.{arith}
use lib.ListN.{length, take, drop, get_or, length-append, get_or-append}
use lib.Seq.{take_at, drop_at, get_or-append-add}
use Rattle.book.specs.Layout.{width, Book}
use Rattle.book.specs.Tables.{partner_column}
use Rattle.book.proofs.Rows.{column_within}
use Rattle.round_trips.specs.WellFormed.{process, checkpoint, counter}
use Rattle.lists.specs.Over.{tab}
use Rattle.line_theory.specs.Sets.{View}
use Rattle.lists.proofs.Over.{length_tab, get_d_tab, tab_same}
use Rattle.shown.specs.Shown.{counters_shown, book_shown}
use Rattle.shown.specs.Statements.{IsCounter, SameCounters, SameBook}
use Rattle.line_theory.proofs.Accepted.{by_column}
use Rattle.shown.proofs.Columns.{column_other}

-- ---- one checkpoint

module _ (v : View) (j r : ℕ) where
  abbrev sent_shown : ℕ → ℕ
  sent_shown k = v.S j r (partner_column j k)

  abbrev received_shown : ℕ → ℕ
  received_shown k = v.R j r (partner_column j k)

  pub length_counters : length (counters_shown v j r) ≡ width v.n
  length_counters =
      length-append (tab (v.n - 1) sent_shown) (tab (v.n - 1) received_shown)
      ∙ omega (arith, length_tab (v.n - 1) sent_shown, length_tab (v.n - 1) received_shown)

  pub sent_half : take (v.n - 1) (counters_shown v j r) ≡ tab (v.n - 1) sent_shown
  sent_half = take_at (tab (v.n - 1) sent_shown) (tab (v.n - 1) received_shown) (v.n - 1) (length_tab (v.n - 1) sent_shown)

  pub received_half : drop (v.n - 1) (counters_shown v j r) ≡ tab (v.n - 1) received_shown
  received_half = drop_at (tab (v.n - 1) sent_shown) (tab (v.n - 1) received_shown) (v.n - 1) (length_tab (v.n - 1) sent_shown)

  sent_counter : (k : ℕ) → k < v.n - 1 → get_or (counters_shown v j r) k 0 ≡ v.S j r (partner_column j k)
  sent_counter k h =
      get_or-append (tab (v.n - 1) sent_shown) (tab (v.n - 1) received_shown) 0 k (omega (arith, length_tab (v.n - 1) sent_shown))
      ∙ get_d_tab (v.n - 1) sent_shown k 0 h

  received_counter : (k : ℕ) → k < v.n - 1 → get_or (counters_shown v j r) (v.n - 1 + k) 0 ≡ v.R j r (partner_column j k)
  received_counter k h =
      let e : v.n - 1 + k ≡ length (tab (v.n - 1) sent_shown) + k = omega (arith, length_tab (v.n - 1) sent_shown) in
      ap (λ (i : ℕ). get_or (counters_shown v j r) i 0) e
      ∙ get_or-append-add (tab (v.n - 1) sent_shown) (tab (v.n - 1) received_shown) k 0
      ∙ get_d_tab (v.n - 1) received_shown k 0 h

-- ---- a process

module _ (v : View) (j : ℕ) (h : j < v.n) where
  process_shown : process (book_shown v) j ≡ tab (v.count j) (λ r. counters_shown v j (suc r))
  unfolding book_shown
  process_shown = get_d_tab v.n (λ j. tab (v.count j) (λ r. counters_shown v j (suc r))) j [] h

  pub length_shown : length (process (book_shown v) j) ≡ v.count j
  length_shown = ap length process_shown ∙ length_tab (v.count j) (λ r. counters_shown v j (suc r))

  pub checkpoint_shown : (r : ℕ) → r < v.count j → checkpoint (book_shown v) j r ≡ counters_shown v j (suc r)
  checkpoint_shown r m =
      ap (λ (cs : List (List ℕ)). get_or cs r []) process_shown ∙ get_d_tab (v.count j) (λ r. counters_shown v j (suc r)) r [] m

  pub sent_shown_lem : (r k : ℕ) → r < v.count j → k < v.n - 1 → counter (book_shown v) j r k ≡ v.S j (suc r) (partner_column j k)
  sent_shown_lem r k m i = ap (λ (c : List ℕ). get_or c k 0) (checkpoint_shown r m) ∙ sent_counter v j (suc r) k i

  pub received_shown_lem : (r k : ℕ) → r < v.count j → k < v.n - 1 → counter (book_shown v) j r (v.n - 1 + k) ≡ v.R j (suc r) (partner_column j k)
  received_shown_lem r k m i = ap (λ (c : List ℕ). get_or c (v.n - 1 + k) 0) (checkpoint_shown r m) ∙ received_counter v j (suc r) k i

-- the counters for the others
pub is_counter : (v : View) (j r k : ℕ) → j < v.n → r < v.count j → k < v.n - 1 → IsCounter v j (suc r) (partner_column j k)
is_counter v j r k h m i = record { process = h; first = omega arith; last = m; partner = omega (arith, column_within j k) }

-- ---- views with the same counters show the same book

module _ (v w : View) (same : SameCounters v w) where
  same_counters : (j r : ℕ) → j < v.n → r < v.count j → counters_shown v j (suc r) ≡ counters_shown w j (suc r)
  same_counters j r h m =
      ap₂ {C = List ℕ} (λ (a b : List ℕ). a ++ b)
      (tab_same (v.n - 1) (w.n - 1) (sent_shown v j (suc r)) (sent_shown w j (suc r)) fewer
      (λ k i. same.S j (suc r) (partner_column j k) (is_counter v j r k h m i) (column_other j k)))
      (tab_same (v.n - 1) (w.n - 1) (received_shown v j (suc r)) (received_shown w j (suc r)) fewer
      (λ k i. same.R j (suc r) (partner_column j k) (is_counter v j r k h m i) (column_other j k)))
    where
      fewer : v.n - 1 ≡ w.n - 1
      fewer = ap (λ (n : ℕ). n - 1) same.n

pub same_book : SameBook
unfolding book_shown
same_book v w same =
    ap₂ {C = Book} (λ (n : ℕ) (ps : List (List (List ℕ))). record { n = n; processes = ps }) same.n
    (tab_same v.n w.n (λ j. tab (v.count j) (λ r. counters_shown v j (suc r))) (λ j. tab (w.count j) (λ r. counters_shown w j (suc r)))
    same.n (λ j h.
    tab_same (v.count j) (w.count j) (λ r. counters_shown v j (suc r)) (λ r. counters_shown w j (suc r)) (same.count j h)
    (λ r m. same_counters v w same j r h m)))

-- and views that show the same book have the same counters
module _ (v w : View) (e : book_shown v ≡ book_shown w) where
  same_n : v.n ≡ w.n
  unfolding book_shown
  same_n = ap (λ (b : Book). b.n) e

  same_count : (j : ℕ) → j < v.n → v.count j ≡ w.count j
  same_count j h = sym (length_shown v j h) ∙ ap (λ (b : Book). length (process b j)) e ∙ length_shown w j (rw same_n at h)

  module _ (j r k : ℕ) (h : j < v.n) (m : r < v.count j) (i : k < v.n - 1) where
    same_sent : v.S j (suc r) (partner_column j k) ≡ w.S j (suc r) (partner_column j k)
    same_sent =
        sym (sent_shown_lem v j h r k m i) ∙ ap (λ (b : Book). counter b j r k) e
        ∙ sent_shown_lem w j (rw same_n at h) r k (rw (same_count j h) at m) (rw same_n at i)

    same_received : v.R j (suc r) (partner_column j k) ≡ w.R j (suc r) (partner_column j k)
    same_received =
        sym (received_shown_lem v j h r k m i) ∙ ap₂ (λ (b : Book) (n : ℕ). counter b j r (n - 1 + k)) e same_n
        ∙ received_shown_lem w j (rw same_n at h) r k (rw (same_count j h) at m) (rw same_n at i)

  pub book_same : SameCounters v w
  book_same = record { n = same_n; count = same_count; S = sent; R = received }
    where
      sent : (j r p : ℕ) → IsCounter v j r p → (p ≡ j → ⊥) → v.S j r p ≡ w.S j r p
      sent j zero p is = absurd (omega (arith, is.first))
      sent j (suc r) p is =
          by_column (λ q. (q ≡ j → ⊥) → v.S j (suc r) q ≡ w.S j (suc r) q) v.n j is.process (λ other. absurd (other refl))
          (λ k i other. same_sent j r k is.process is.last i) p is.partner

      received : (j r p : ℕ) → IsCounter v j r p → (p ≡ j → ⊥) → v.R j r p ≡ w.R j r p
      received j zero p is = absurd (omega (arith, is.first))
      received j (suc r) p is =
          by_column (λ q. (q ≡ j → ⊥) → v.R j (suc r) q ≡ w.R j (suc r) q) v.n j is.process (λ other. absurd (other refl))
          (λ k i other. same_received j r k is.process is.last i) p is.partner
