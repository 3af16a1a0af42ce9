-- Document 02, E4: "A user who appends the same later checkpoints, their counters in the moved book less what the move took off, to a
-- book moved with purpose 1 and to the unmoved one". Processes and partners count from 0, checkpoints from 1.
use Rattle.std.specs.Prelude.{◌≡◌, List, [], ◌∷◌, ℕ, ◌+◌, ◌-◌, ◌<◌, get_or, leb}
use Rattle.lists.specs.Pick.{pick}
use Rattle.book.specs.Lent.{Tables}
use Rattle.book.specs.Tables.{tables_of}
use Rattle.book.specs.Accepted.{AreAccepted}
use Rattle.line_theory.specs.Sets.{View}
use Rattle.line_theory.specs.OfTables.{view_of}
use Rattle.shown.specs.Shown.{book_shown}
use Rattle.shown.specs.Statements.{IsCounter, IsLonger}
use Rattle.restart.specs.Plan.{taken_off}
use Rattle.move_laws.specs.Moves.{Move, order_with, tables_after}

-- a book that was moved with purpose 1, any number of times: its tables as they are now, and of all these moves together how many of
-- each process's checkpoints went before, and what was taken off the channel from a to b
pub record MovedBook : Type 0 where
  pub tables : Tables
  pub gone : ℕ → ℕ
  pub off : ℕ → ℕ → ℕ

abbrev pub unmoved : Tables → MovedBook
unmoved tables = record { tables = tables; gone = λ j. 0; off = λ a b. 0 }

-- a move with purpose 1
abbrev pub advance : Tables → Move
advance tables = record { tables = tables; purpose = 1 }

-- moved once more
abbrev pub advanced : MovedBook → MovedBook
advanced k =
    record {
      tables = tables_after (advance k.tables);
      gone = λ j. k.gone j + get_or (order_with (advance k.tables)).before j 0;
      off = λ a b. k.off a b + taken_off (view_of k.tables) 1 a b;
    }

-- The moved book with "the same later checkpoints" as `whole`, which never was moved: its checkpoint r is the other's `gone` + r, and
-- the counters of those appended are "less what the move took off".
pub record IsAppended (k : MovedBook) (whole v : View) : Type 0 where
  pub longer : IsLonger (view_of k.tables) v
  pub count : (j : ℕ) → j < v.n → k.gone j + v.count j ≡ whole.count j
  pub S :
      (j r p : ℕ) → IsCounter v j r p → (view_of k.tables).count j < r → v.S j r p ≡ whole.S j (k.gone j + r) p - k.off j p
  pub R :
      (j r p : ℕ) → IsCounter v j r p → (view_of k.tables).count j < r → v.R j r p ≡ whole.R j (k.gone j + r) p - k.off p j

-- one such view: `AppendedIsAccepted` says that its tables are accepted, and hold that book
unfoldable pub view_appended : MovedBook → View → View
view_appended k whole =
    let held : View = view_of k.tables in
    record {
      n = whole.n;
      count = λ j. whole.count j - k.gone j;
      S = λ j r p. pick (leb r (held.count j)) (held.S j r p) (whole.S j (k.gone j + r) p - k.off j p);
      R = λ j r p. pick (leb r (held.count j)) (held.R j r p) (whole.R j (k.gone j + r) p - k.off p j);
    }

abbrev pub appended : MovedBook → Tables → MovedBook
appended k whole = record { tables = tables_of (book_shown (view_appended k (view_of whole))); gone = k.gone; off = k.off }

-- ---- along a chain of moves

-- a book that never is moved, from time to time: each is accepted, and the next one longer
unfoldable pub Grows : Tables → List Tables → Type 0
Grows whole [] = AreAccepted whole
Grows whole (next ∷ books) = AreAccepted whole × (IsLonger (view_of whole) (view_of next) × Grows next books)

unfoldable pub last_of : Tables → List Tables → Tables
last_of whole [] = whole
last_of whole (next ∷ books) = last_of next books

-- the book that is moved each time, before the same later checkpoints are appended to it
unfoldable pub along : MovedBook → List Tables → MovedBook
along k [] = k
along k (next ∷ books) = along (appended (advanced k) next) books
