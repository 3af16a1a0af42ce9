-- Good books and tables that pass the check.
use mathlib.Core.Path.{◌≡◌, sym, ap, ◌∙◌}
use mathlib.Core.Bool.{Bool, true, ◌&&◌}
use mathlib.Core.List.{List}
use Prim.Native.Nat.{ℕ, ◌-◌, ◌*◌, ◌≤◌}
use native.Mathlib.Omega.{arith}
use lib.ListN.{length, take, drop, replicate}
use lib.Seq.{length-take-le, take_at, drop_at}
use Rattle.book.specs.Lent.{Tables, lent}
use Rattle.book.specs.declared.Shape.{Shape}
use Rattle.book.specs.Bounds.{mark}
use Rattle.book.specs.Tables.{padded, rows_from, sent_table, received_table, counts_of, shape_of, processes_of, book_of, tables_of}
use Rattle.book.specs.View.{sum}
use Rattle.book.specs.Check.{counts_question, rows_question, contents_question, tables_question}
use Rattle.book.specs.Layout.{width, Book}
use Rattle.book.specs.InTurn.{◌then◌, ask}
use Rattle.book.specs.Questions.{size_question, length_question, all_zero, unused_from, unused_zero}
use Rattle.book.proofs.Questions.{then_none, then_both, asked_yes, ask_yes}
use Rattle.lists.proofs.Tests.{and_both, both_and}
use Rattle.round_trips.proofs.Zeros.{zeros, length_padded, padded_take}
use Rattle.book.proofs.Counts.{lengths_taken, lengths_given, size_taken, size_given_lem, few_in_all}
use Rattle.round_trips.proofs.Books.{Good}
use Rattle.round_trips.proofs.ToTables.{length_counts_of, length_sent, length_received, length_rows_from, unused_processes, processes_back}
use Rattle.round_trips.proofs.FromTables.{counts_of_processes_of, wide_processes_of, unused_rest, processes_rows}

-- what the check asks, question by question
pub record Checked (t : Tables) : Type 0 where
  pub sent : length t.sent ≡ 4096
  pub received : length t.received ≡ 4096
  pub some : 1 ≤ t.shape.n
  pub few : t.shape.n ≤ 16
  pub counts : counts_question 0 (take t.shape.n t.shape.counts) ≡ 0
  pub asked : rows_question mark t.shape.n (book_of t).processes ≡ 0
  pub counts_zero : all_zero (drop t.shape.n t.shape.counts) ≡ true
  pub sent_zero : all_zero (unused_from t.shape.n 0 (take t.shape.n t.shape.counts) t.sent) ≡ true
  pub received_zero : all_zero (unused_from t.shape.n 0 (take t.shape.n t.shape.counts) t.received) ≡ true

module _ (t : Tables) where
  -- the check from each question on
  abbrev from_unused : Unit {0} → ℕ
  from_unused _ = ask 9 (unused_zero t)

  abbrev from_rows : Unit {0} → ℕ
  from_rows _ = rows_question mark t.shape.n (book_of t).processes then from_unused

  abbrev from_counts : Unit {0} → ℕ
  from_counts _ = counts_question 0 (take t.shape.n t.shape.counts) then from_rows

  abbrev from_size : Unit {0} → ℕ
  from_size _ = size_question t.shape.n then from_counts

  pub tables_taken : tables_question t ≡ 0 → Checked t
  unfolding tables_question contents_question
  tables_taken h =
      let a = then_none (length_question t.sent t.received) from_size h in
      let b = then_none (size_question t.shape.n) from_counts a.1 in
      let c = then_none (counts_question 0 (take t.shape.n t.shape.counts)) from_rows b.1 in
      let d = then_none (rows_question mark t.shape.n (book_of t).processes) from_unused c.1 in
      let l = lengths_taken t.sent t.received a.0 in
      let n = size_taken t.shape.n b.0 in
      let z0 : Bool = all_zero (drop t.shape.n t.shape.counts) in
      let z1 : Bool = all_zero (unused_from t.shape.n 0 (take t.shape.n t.shape.counts) t.sent) in
      let z2 : Bool = all_zero (unused_from t.shape.n 0 (take t.shape.n t.shape.counts) t.received) in
      let e = and_both z0 (z1 && z2) (asked_yes 8 (unused_zero t) d.1) in
      let f = and_both z1 z2 e.1 in
      record {
        sent = l.0;
        received = l.1;
        some = n.0;
        few = n.1;
        counts = c.0;
        asked = d.0;
        counts_zero = e.0;
        sent_zero = f.0;
        received_zero = f.1;
      }

  pub tables_given : Checked t → tables_question t ≡ 0
  unfolding tables_question contents_question
  tables_given c =
      let z0 : Bool = all_zero (drop t.shape.n t.shape.counts) in
      let z1 : Bool = all_zero (unused_from t.shape.n 0 (take t.shape.n t.shape.counts) t.sent) in
      let z2 : Bool = all_zero (unused_from t.shape.n 0 (take t.shape.n t.shape.counts) t.received) in
      then_both (length_question t.sent t.received) from_size (lengths_given t.sent t.received c.sent c.received)
      (then_both (size_question t.shape.n) from_counts (size_given_lem t.shape.n c.some c.few)
      (then_both (counts_question 0 (take t.shape.n t.shape.counts)) from_rows c.counts
      (then_both (rows_question mark t.shape.n (book_of t).processes) from_unused c.asked
      (ask_yes 9 (unused_zero t) (both_and z0 (z1 && z2) c.counts_zero (both_and z1 z2 c.sent_zero c.received_zero))))))

-- ---- the tables of a good book

module _ (book : Book) (good : Good mark book) where
  length_counts : length (counts_of book.processes) ≡ book.n
  length_counts = length_counts_of book.processes ∙ good.long

  take_counts : take book.n (shape_of book).counts ≡ counts_of book.processes
  take_counts = take_at (counts_of book.processes) (replicate (16 - length (counts_of book.processes)) 0) book.n length_counts

  few_rows : sum (counts_of book.processes) * 16 ≤ 4096
  few_rows = let f = few_in_all (counts_of book.processes) good.sound.counts in omega arith

  -- they hold the book
  processes_of_lem : processes_of book.n 0 (take book.n (shape_of book).counts) (sent_table book) (received_table book) ≡ book.processes
  processes_of_lem =
      rw take_counts
      (processes_back book.n good.few 0 book.processes
      (replicate (4096 - length (rows_from (take (book.n - 1)) 0 book.processes)) 0)
      (replicate (4096 - length (rows_from (drop (book.n - 1)) 0 book.processes)) 0)
      (rw good.long (omega arith)) good.sound.wide)

  pub good_of : book_of (tables_of book) ≡ book
  good_of = ap {B = Book} (λ ps. record { n = book.n; processes = ps }) processes_of_lem

  -- each of them is long enough, and zero where nothing is held
  table_good : (half : List ℕ → List ℕ) → ((c : List ℕ) → length c ≡ width book.n → length (half c) ≡ book.n - 1)
      → (length (padded 4096 (rows_from half 0 book.processes)) ≡ 4096)
      × (all_zero (unused_from book.n 0 (take book.n (shape_of book).counts) (padded 4096 (rows_from half 0 book.processes))) ≡ true)
  table_good half halves =
      let rows : List ℕ = rows_from half 0 book.processes in
      let l : length rows ≡ sum (counts_of book.processes) * 16
      = length_rows_from half book.n good.few halves 0 book.processes (rw good.long (omega arith)) good.sound.wide in (
        length_padded 4096 rows (rw l few_rows),
        rw take_counts
            (unused_processes half book.n good.few halves 0 book.processes (replicate (4096 - length rows) 0)
            (rw good.long (omega arith)) good.sound.wide (zeros (4096 - length rows))),
      )

  -- so they pass the check
  pub good_tables : tables_question (tables_of book) ≡ 0
  good_tables =
      let sent = table_good (take (book.n - 1)) (length_sent book.n) in
      let received = table_good (drop (book.n - 1)) (length_received book.n) in
      let counts : List ℕ = counts_of book.processes in
      tables_given (tables_of book)
      (record {
        sent = sent.0;
        received = received.0;
        some = good.some;
        few = good.few;
        counts = rw take_counts good.sound.counts;
        asked = rw processes_of_lem good.sound.asked;
        counts_zero = rw (drop_at counts (replicate (16 - length counts) 0) book.n length_counts) (zeros (16 - length counts));
        sent_zero = sent.1;
        received_zero = received.1;
      })

-- ---- the book that tables hold

module _ {shape : Shape} {s r : List ℕ} (sixteen : length shape.counts ≡ 16) (c : Checked (lent shape s r)) where
  -- the counts of the processes that there are
  abbrev held : List ℕ
  held = take shape.n shape.counts

  length_held : length held ≡ shape.n
  length_held = length-take-le shape.n shape.counts (rw sixteen c.few)

  held_rows : sum held * 16 ≤ 4096
  held_rows = let f = few_in_all held c.counts in omega arith

  -- it is good
  pub of_good : Good mark (book_of (lent shape s r))
  of_good =
      let counts : counts_of (processes_of shape.n 0 held s r) ≡ held = counts_of_processes_of shape.n 0 held s r in
      record {
        some = c.some;
        few = c.few;
        long = sym (length_counts_of (processes_of shape.n 0 held s r)) ∙ ap length counts ∙ length_held;
        sound = record {
          wide = wide_processes_of shape.n 0 held s r (rw length_held (omega arith)) c.few (rw c.sent held_rows) (rw c.received held_rows);
          counts = rw counts c.counts;
          asked = c.asked;
        };
      }

  -- and its tables are those
  pub of_shape : shape_of (book_of (lent shape s r)) ≡ shape
  of_shape =
      ap {B = Shape} (λ counts. record { n = shape.n; counts = counts })
      (rw (counts_of_processes_of shape.n 0 held s r) (padded_take shape.n 16 shape.counts sixteen c.few c.counts_zero))

  rows_held : (rows_from (take (shape.n - 1)) 0 (processes_of shape.n 0 held s r) ≡ take (sum held * 16) s)
      × (rows_from (drop (shape.n - 1)) 0 (processes_of shape.n 0 held s r) ≡ take (sum held * 16) r)
  rows_held =
      processes_rows shape.n 0 held s r (rw length_held (omega arith)) c.few (rw c.sent held_rows) (rw c.received held_rows)
      c.sent_zero c.received_zero

  pub of_sent : sent_table (book_of (lent shape s r)) ≡ s
  of_sent = rw rows_held.0 (padded_take (sum held * 16) 4096 s c.sent held_rows (unused_rest shape.n 0 held s c.sent_zero))

  pub of_received : received_table (book_of (lent shape s r)) ≡ r
  of_received =
      rw rows_held.1 (padded_take (sum held * 16) 4096 r c.received held_rows (unused_rest shape.n 0 held r c.received_zero))
