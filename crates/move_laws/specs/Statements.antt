-- What is proved of a move. Processes and partners count from 0, checkpoints from 1.
use Rattle.std.specs.Prelude.{◌≡◌, List, ℕ, ◌+◌, ◌<◌, length, get_or}
use Rattle.book.specs.Bounds.{entries}
use Rattle.book.specs.Lent.{Tables}
use Rattle.book.specs.Accepted.{AreAccepted}
use Rattle.book.specs.View.{count}
use Rattle.book.specs.Read.{read_question, shape_read, sent_read, received_read}
use Rattle.book.specs.Write.{bytes_of}
use Rattle.line_theory.specs.Search.{line}
use Rattle.line_theory.specs.OfTables.{view_of}
use Rattle.consistency.specs.Set.{chosen}
use Rattle.finder.specs.Line.{checkpoints, line_found}
use Rattle.shown.specs.Statements.{IsCounter, IsLonger}
use Rattle.restart.specs.Plan.{taken_off}
use Rattle.restart.specs.Values.{present}
use Rattle.move_laws.specs.Moves.{Move, IsAccepted, Advances, Restarts, view_before, shape_after, sent_after, received_after, view_after, order_with, with_purpose, again, tables_after}
use Rattle.move_laws.specs.Appended.{MovedBook, unmoved, advanced, IsAppended, appended, Grows, last_of, along}

-- ---- the moved book

-- Moved tables pass the check of tables, with as many processes as before.
abbrev pub MovedIsAccepted : Type 0
MovedIsAccepted =
    (m : Move) → IsAccepted m → AreAccepted (tables_after m) × ((shape_after m).n ≡ m.tables.shape.n)

-- A moved book passes all questions of a read, into any two tables of 4,096 entries, and is read as the moved tables.
abbrev pub MovedPassesRead : Type 0
MovedPassesRead =
    (m : Move) (into into' : List ℕ) → IsAccepted m → length into ≡ entries → length into' ≡ entries
    → let bytes : List ℕ = bytes_of (tables_after m) in
    (read_question bytes into into' ≡ 0)
    × (shape_read bytes into into' ≡ shape_after m)
    × (sent_read bytes into into' ≡ sent_after m)
    × (received_read bytes into into' ≡ received_after m)

-- Each kept counter and what was taken off it add up to the old counter: nothing falls below zero. Checkpoint r of the moved book was
-- as many checkpoints later as go before.
abbrev pub FallsExactly : Type 0
FallsExactly =
    (m : Move) (j r p : ℕ) → IsAccepted m → IsCounter (view_after m) j r p
    → let was : ℕ = get_or (order_with m).before j 0 + r in
    ((view_after m).S j r p + taken_off (view_before m) m.purpose j p ≡ (view_before m).S j was p)
    × ((view_after m).R j r p + taken_off (view_before m) m.purpose p j ≡ (view_before m).R j was p)

-- "With 2 that is checkpoint 1, so they stay": nothing is taken off.
abbrev pub TheyStay : Type 0
TheyStay =
    (m : Move) (a b : ℕ) → IsAccepted m → m.purpose ≡ 2 → a < m.tables.shape.n → b < m.tables.shape.n
    → taken_off (view_before m) 2 a b ≡ 0

-- After every move the line is checkpoint 1 everywhere,
abbrev pub LineIsOldest : Type 0
LineIsOldest = (m : Move) (j : ℕ) → IsAccepted m → j < m.tables.shape.n → line (view_after m) j ≡ 1

-- so that moving again with purpose 1 changes nothing.
abbrev pub AgainIsSame : Type 0
AgainIsSame =
    (m : Move) → IsAccepted m
    → IsAccepted (again m 1)
    × (shape_after (again m 1) ≡ shape_after m)
    × (sent_after (again m 1) ≡ sent_after m)
    × (received_after (again m 1) ≡ received_after m)

-- With purpose 2 or 3 every process keeps exactly one checkpoint.
abbrev pub OneIsKept : Type 0
OneIsKept = (m : Move) (j : ℕ) → IsAccepted m → Restarts m → j < m.tables.shape.n → count (shape_after m) j ≡ 1

-- The received counters of the oldest checkpoint are zero, with every purpose,
abbrev pub NoneReceived : Type 0
NoneReceived =
    (m : Move) (j p : ℕ) → IsAccepted m → j < m.tables.shape.n → p < m.tables.shape.n → (view_after m).R j 1 p ≡ 0

-- and its sent counters are exactly what was on its way across the order's checkpoints, which are the line's with purpose 1 or 3:
-- these counters, and what the receiver's checkpoint had received, are what the sender's had sent.
abbrev pub SentIsOnItsWay : Type 0
SentIsOnItsWay =
    (m : Move) (j p : ℕ) → IsAccepted m → j < m.tables.shape.n → p < m.tables.shape.n
    → let from : ℕ → ℕ = chosen (order_with m).from in
    (view_after m).S j 1 p + (view_before m).R p (from p) j ≡ (view_before m).S j (from j) p

-- "The then oldest": purpose 3 leaves what purpose 1 and then purpose 2 leave.
abbrev pub ThreeIsOneThenTwo : Type 0
ThreeIsOneThenTwo =
    (m : Move) → IsAccepted m → m.purpose ≡ 3
    → let both : Move = again (with_purpose m 1) 2 in
    (shape_after m ≡ shape_after both) × (sent_after m ≡ sent_after both) × (received_after m ≡ received_after both)

-- ---- the restart order

-- The order's checkpoints are those of the line found in these tables (1, 3),
abbrev pub OrderIsLine : Type 0
OrderIsLine = (m : Move) → IsAccepted m → Advances m → (order_with m).from ≡ line_found m.tables

-- or checkpoint 1 (2).
abbrev pub OrderIsOldest : Type 0
OrderIsOldest =
    (m : Move) → IsAccepted m → m.purpose ≡ 2 → (order_with m).from ≡ checkpoints (present m.tables.shape.n (λ _. 1))

-- What goes before is every earlier checkpoint, and with 2 or 3 what goes after is every later one;
abbrev pub GoesAround : Type 0
GoesAround =
    (m : Move) (j : ℕ) → IsAccepted m → j < m.tables.shape.n
    → (get_or (order_with m).before j 0 + 1 ≡ chosen (order_with m).from j)
    × (Restarts m → chosen (order_with m).from j + get_or (order_with m).after j 0 ≡ count m.tables.shape j)

-- "with 1 none after, with 2 none before".
abbrev pub NoneGo : Type 0
NoneGo =
    (m : Move) (j : ℕ) → IsAccepted m
    → (m.purpose ≡ 1 → get_or (order_with m).after j 0 ≡ 0) × (m.purpose ≡ 2 → get_or (order_with m).before j 0 ≡ 0)

-- Those that go before, those that go after and those that are kept are all of a process's checkpoints.
abbrev pub AddsUp : Type 0
AddsUp =
    (m : Move) (j : ℕ) → IsAccepted m → j < m.tables.shape.n
    → get_or (order_with m).before j 0 + get_or (order_with m).after j 0 + count (shape_after m) j ≡ count m.tables.shape j

-- ---- messages on their way when the line moves (document 02, E4)

-- "A user who appends the same later checkpoints, their counters in the moved book less what the move took off, to a book moved with
-- purpose 1 and to the unmoved one finds the same physical checkpoints on the line of both, if both are accepted". The unmoved book is
-- then `whole`, the moved one `longer`, and checkpoint r of `longer` was as many checkpoints later as went before.
abbrev pub SameLine : Type 0
SameLine =
    (tables whole longer : Tables) → AreAccepted tables
    → let k : MovedBook = advanced (unmoved tables) in
    IsLonger (view_of tables) (view_of whole) → IsAppended k (view_of whole) (view_of longer) → AreAccepted whole → AreAccepted longer
    → (j : ℕ) → j < tables.shape.n → k.gone j + line (view_of longer) j ≡ line (view_of whole) j

-- There is such a `longer`, accepted whenever `whole` is. (The converse is false: `whole` can have more than 256 checkpoints, or a
-- counter at the mark.)
abbrev pub AppendedIsAccepted : Type 0
AppendedIsAccepted =
    (tables whole : Tables) → AreAccepted tables
    → let k : MovedBook = advanced (unmoved tables) in
    IsLonger (view_of tables) (view_of whole) → AreAccepted whole
    → AreAccepted (appended k whole).tables × IsAppended k (view_of whole) (view_of (appended k whole).tables)

-- Along a chain of moves and appendings, however long, the line of the book that is moved each time is that of the whole book, which
-- never is;
abbrev pub SameLineAlong : Type 0
SameLineAlong =
    (tables : Tables) (books : List Tables) → Grows tables books
    → let k : MovedBook = along (unmoved tables) books in
    AreAccepted k.tables
    × ((j : ℕ) → j < tables.shape.n → k.gone j + line (view_of k.tables) j ≡ line (view_of (last_of tables books)) j)

-- and what is appended to it next, after one move more, are the same later checkpoints.
abbrev pub AppendedAlong : Type 0
AppendedAlong =
    (tables next : Tables) (books : List Tables) → Grows tables books
    → let k : MovedBook = advanced (along (unmoved tables) books) in
    IsLonger (view_of (last_of tables books)) (view_of next) → AreAccepted next
    → AreAccepted (appended k next).tables × IsAppended k (view_of next) (view_of (appended k next).tables)
