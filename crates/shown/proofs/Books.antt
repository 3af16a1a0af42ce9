-- The book that a view shows and the book that tables hold: accepted tables hold the book that their view shows, and a view that
-- shows a book is the view of its tables.
use mathlib.Core.Path.{◌≡◌, sym, ap, ◌∙◌}
use mathlib.Core.List.{[]}
use Prim.Native.Nat.{ℕ, suc, ◌+◌, ◌-◌, ◌≤◌, ◌<◌}
use native.Mathlib.Omega.{arith}
use lib.ListN.{length}
use lib.Seq.{ext_get_or}
use Rattle.book.specs.declared.Shape.{Shape}
use Rattle.book.specs.Bounds.{mark}
use Rattle.book.specs.Lent.{lent, Tables}
use Rattle.book.specs.Accepted.{AreAccepted}
use Rattle.book.specs.Layout.{width, Book}
use Rattle.book.specs.Tables.{partner_column, counts_of, shape_of, sent_table, received_table, book_of, tables_of}
use Rattle.book.specs.View.{sum, count}
use Rattle.round_trips.specs.WellFormed.{process, checkpoint, counter, WellFormed}
use Rattle.round_trips.proofs.Counters.{by_half}
use Rattle.round_trips.proofs.ToTables.{length_counts_of}
use Rattle.round_trips.proofs.Tables.{good_of, good_tables, of_shape, of_sent, of_received}
use Rattle.round_trips.proofs.View.{view_count}
use Rattle.round_trips.proofs.Well.{well_good}
use Rattle.round_trips.proofs.Zeros.{length_padded}
use Rattle.line_theory.specs.Sets.{View}
use Rattle.line_theory.specs.OfTables.{view_of}
use Rattle.line_theory.proofs.Accepted.{checked, well, inside, sent_of, received_of}
use Rattle.lists.proofs.Over.{length_tab}
use Rattle.shown.specs.Shown.{book_shown}
use Rattle.shown.specs.Statements.{ShowsBook, TablesShown, ShownIsAccepted, ShownIsView}
use Rattle.shown.proofs.Rows.{counts_shown}
use Rattle.shown.proofs.Sums.{sum_tab}
use Rattle.shown.proofs.Counters.{length_counters, is_counter, length_shown, checkpoint_shown, sent_shown_lem, received_shown_lem, book_same}

-- ---- the view of accepted tables

module _ {t : Tables} (are : AreAccepted t) where
  abbrev v : View
  v = view_of t

  abbrev held : Book
  held = book_of t

  -- they are compared counter by counter
  same_checkpoint : (j r : ℕ) → j < t.shape.n → r < count t.shape j → checkpoint (book_shown v) j r ≡ checkpoint held j r
  same_checkpoint j r h m =
      let long : length (checkpoint (book_shown v) j r) ≡ width t.shape.n
      = ap length (checkpoint_shown v j h r m) ∙ length_counters v j (suc r) in
      ext_get_or 0 (checkpoint (book_shown v) j r) (checkpoint held j r) (long ∙ sym ((well are).counters j r h (inside are j r h m))) (λ k i.
      by_half (λ k. counter (book_shown v) j r k ≡ counter held j r k) (t.shape.n - 1)
      (λ k i. sent_shown_lem v j h r k m i ∙ sent_of are j r h m k i)
      (λ k i. received_shown_lem v j h r k m i ∙ received_of are j r h m k i) k (rw long at i))

  same_process : (j : ℕ) → j < t.shape.n → process (book_shown v) j ≡ process held j
  same_process j h =
      ext_get_or [] (process (book_shown v) j) (process held j)
      (length_shown v j h ∙ view_count are.sixteen (checked are) j h)
      (λ r m. same_checkpoint j r h (rw (length_shown v j h) at m))

  shown_held : book_shown v ≡ held
  unfolding book_shown
  shown_held =
      let long : length (book_shown v).processes ≡ t.shape.n = length_tab t.shape.n _ in
      ap {B = Book} (λ ps. record { n = t.shape.n; processes = ps })
      (ext_get_or [] (book_shown v).processes held.processes (long ∙ sym (well are).processes) (λ j h. same_process j (rw long at h)))

pub tables_shown : TablesShown
tables_shown t are =
    let c = checked are in
    rw (shown_held are) (
      of_shape are.sixteen c,
      of_sent are.sixteen c,
      of_received are.sixteen c,
    )

-- ---- a view that shows a book

module _ (v : View) (shows : ShowsBook v) where
  abbrev book : Book
  book = book_shown v

  few : sum (counts_of book.processes) ≤ 256
  few = rw (counts_shown v, sum_tab v.n v.count) shows.few

  well_shown : WellFormed book
  unfolding book_shown
  well_shown =
      record {
        size = shows.size;
        processes = length_tab v.n _;
        some = λ j h. rw (length_shown v j h) (shows.some j h);
        few = few;
        counters = λ j r h m. ap length (checkpoint_shown v j h r (inside j r h m)) ∙ length_counters v j (suc r);
        known = λ j r k h m i. known j r h (inside j r h m) k i;
        oldest_received = oldest_received;
        rising = λ j r k h m i. rising j r h (inside j (suc r) h m) k i;
      }
    where
      inside : (j r : ℕ) → j < v.n → r < length (process book j) → r < v.count j
      inside j r h m = rw (length_shown v j h) at m

      known : (j r : ℕ) → j < v.n → r < v.count j → (k : ℕ) → k < width v.n → counter book j r k < mark
      known j r h m =
          by_half (λ k. counter book j r k < mark) (v.n - 1)
          (λ k i. rw (sent_shown_lem v j h r k m i) (shows.known j (suc r) (partner_column j k) (is_counter v j r k h m i)).0)
          (λ k i. rw (received_shown_lem v j h r k m i) (shows.known j (suc r) (partner_column j k) (is_counter v j r k h m i)).1)

      oldest_received : (j k : ℕ) → j < v.n → k < v.n - 1 → counter book j 0 (v.n - 1 + k) ≡ 0
      oldest_received j k h i =
          let some : 1 ≤ v.count j = shows.some j h in
          received_shown_lem v j h 0 k some i ∙ shows.oldest_received j (partner_column j k) h (is_counter v j 0 k h some i).partner

      rising : (j r : ℕ) → j < v.n → suc r < v.count j → (k : ℕ) → k < width v.n → counter book j r k ≤ counter book j (suc r) k
      rising j r h m =
          let m' : r < v.count j = omega arith in
          by_half (λ k. counter book j r k ≤ counter book j (suc r) k) (v.n - 1)
          (λ k i.
          rw (sent_shown_lem v j h r k m' i, sent_shown_lem v j h (suc r) k m i)
          (shows.rising j (suc r) (partner_column j k) (is_counter v j r k h m' i) m).0)
          (λ k i.
          rw (received_shown_lem v j h r k m' i, received_shown_lem v j h (suc r) k m i)
          (shows.rising j (suc r) (partner_column j k) (is_counter v j r k h m' i) m).1)

  shown_accepted : AreAccepted (tables_of book)
  shown_accepted =
      record {
        sixteen =
            length_padded 16 (counts_of book.processes)
            (rw (length_counts_of book.processes, well_shown.processes) well_shown.size.1);
        passed = good_tables book (well_good book well_shown);
      }

pub shown_is_accepted : ShownIsAccepted
shown_is_accepted = shown_accepted

-- the view of the tables shows that book again
pub shown_is_view : ShownIsView
shown_is_view v shows =
    let book : Book = book_shown v in
    let shape : Shape = shape_of book in
    book_same (view_of (lent shape (sent_table book) (received_table book))) v
    (shown_held (shown_accepted v shows) ∙ good_of book (well_good book (well_shown v shows)))
