-- What is proved of the book that a view shows.
use Rattle.std.specs.Prelude.{◌≡◌, ℕ, suc, ◌≤◌, ◌<◌}
use Rattle.book.specs.Bounds.{mark, most_processes, most_checkpoints, entries}
use Rattle.book.specs.Layout.{Book}
use Rattle.book.specs.Lent.{Tables}
use Rattle.book.specs.Tables.{shape_of, sent_table, received_table, padded, tables_of}
use Rattle.book.specs.View.{count, S, R}
use Rattle.book.specs.Accepted.{AreAccepted}
use Rattle.lists.specs.Over.{sum_to, tab}
use Rattle.line_theory.specs.Sets.{View}
use Rattle.line_theory.specs.OfTables.{view_of}
use Rattle.shown.specs.Shown.{book_shown}
use Rattle.shown.specs.Rows.{all_rows_to}

-- a checkpoint of a process that there is, and a partner
pub record IsCounter (v : View) (j r p : ℕ) : Type 0 where
  pub process : j < v.n
  pub first : 1 ≤ r
  pub last : r ≤ v.count j
  pub partner : p < v.n

-- What questions 4 to 8 ask of a book, of a view: then the book that it shows is accepted.
pub record ShowsBook (v : View) : Type 0 where
  pub size : (1 ≤ v.n) × (v.n ≤ most_processes)
  pub some : (j : ℕ) → j < v.n → 1 ≤ v.count j
  pub few : sum_to v.n v.count ≤ most_checkpoints
  pub known : (j r p : ℕ) → IsCounter v j r p → (v.S j r p < mark) × (v.R j r p < mark)
  pub oldest_received : (j p : ℕ) → j < v.n → p < v.n → v.R j 1 p ≡ 0
  pub rising :
      (j r p : ℕ) → IsCounter v j r p → r < v.count j → (v.S j r p ≤ v.S j (suc r) p) × (v.R j r p ≤ v.R j (suc r) p)

-- "unused .. columns, and a process's own column are zero", in the rows of one table
abbrev pub ZeroElsewhere : View → (ℕ → ℕ → ℕ → ℕ) → Type 0
ZeroElsewhere v row =
    (j r : ℕ) → j < v.n → 1 ≤ r → r ≤ v.count j
    → (row j r j ≡ 0) × ((p : ℕ) → v.n ≤ p → p < most_processes → row j r p ≡ 0)

-- two views that show the same counters; own columns do not count
pub record SameCounters (v w : View) : Type 0 where
  pub n : v.n ≡ w.n
  pub count : (j : ℕ) → j < v.n → v.count j ≡ w.count j
  pub S : (j r p : ℕ) → IsCounter v j r p → (p ≡ j → ⊥) → v.S j r p ≡ w.S j r p
  pub R : (j r p : ℕ) → IsCounter v j r p → (p ≡ j → ⊥) → v.R j r p ≡ w.R j r p

-- a view of a book with later checkpoints appended: what it had is still there
pub record IsLonger (v longer : View) : Type 0 where
  pub n : longer.n ≡ v.n
  pub count : (j : ℕ) → j < v.n → v.count j ≤ longer.count j
  pub S : (j r p : ℕ) → IsCounter v j r p → longer.S j r p ≡ v.S j r p
  pub R : (j r p : ℕ) → IsCounter v j r p → longer.R j r p ≡ v.R j r p

-- The tables of the book that a view shows are its rows of sixteen, where they are zero elsewhere.
abbrev pub SentRowsShown : Type 0
SentRowsShown =
    (v : View) → v.n ≤ most_processes → ZeroElsewhere v v.S
    → sent_table (book_shown v) ≡ padded entries (all_rows_to v.count v.S v.n)

abbrev pub ReceivedRowsShown : Type 0
ReceivedRowsShown =
    (v : View) → v.n ≤ most_processes → ZeroElsewhere v v.R
    → received_table (book_shown v) ≡ padded entries (all_rows_to v.count v.R v.n)

-- Its shape has the view's counts, and zeros for absent processes.
abbrev pub ShapeShown : Type 0
ShapeShown = (v : View) → shape_of (book_shown v) ≡ record { n = v.n; counts = padded most_processes (tab v.n v.count) }

-- Views with the same counters show the same book.
abbrev pub SameBook : Type 0
SameBook = (v w : View) → SameCounters v w → book_shown v ≡ book_shown w

-- The view of accepted tables is as asked, zero elsewhere, and the tables are those of the book that it shows.
abbrev pub AcceptedShows : Type 0
AcceptedShows = (tables : Tables) → AreAccepted tables → ShowsBook (view_of tables)

abbrev pub AcceptedZeroElsewhere : Type 0
AcceptedZeroElsewhere =
    (tables : Tables) → AreAccepted tables
    → ZeroElsewhere (view_of tables) (S tables.shape tables.sent) × ZeroElsewhere (view_of tables) (R tables.shape tables.received)

abbrev pub TablesShown : Type 0
TablesShown =
    (tables : Tables) → AreAccepted tables → let book : Book = book_shown (view_of tables) in
    (shape_of book ≡ tables.shape) × (sent_table book ≡ tables.sent) × (received_table book ≡ tables.received)

-- The tables of the book that such a view shows are accepted, and their view is that view again.
abbrev pub ShownIsAccepted : Type 0
ShownIsAccepted =
    (v : View) → ShowsBook v
    → let book : Book = book_shown v in
    AreAccepted (tables_of book)

abbrev pub ShownIsView : Type 0
ShownIsView =
    (v : View) → ShowsBook v
    → let book : Book = book_shown v in
    SameCounters (view_of (tables_of book)) v
