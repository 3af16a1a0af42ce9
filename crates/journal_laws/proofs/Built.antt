-- The tables built are accepted, and are read again from their bytes.
use Rattle.std.specs.Prelude.{Ok}
use mathlib.Core.Path.{◌≡◌, sym, subst}
use mathlib.Core.List.{List}
use Prim.Native.Nat.{ℕ}
use native.Mathlib.Omega.{arith}
use lib.ListN.{length}
use Rattle.book.specs.Bounds.{entries}
use Rattle.book.specs.Lent.{Tables}
use Rattle.book.specs.Tables.{tables_of}
use Rattle.book.specs.Accepted.{AreAccepted}
use Rattle.book.specs.Read.{read_question, tables_read}
use Rattle.book.specs.Write.{bytes_of, answer_to_write}
use Rattle.round_trips.proofs.Writing.{write_given, answer_given, bytes_left}
use Rattle.round_trips.proofs.Theorems.{never_too_long, written_then_read}
use Rattle.shown.proofs.Theorems.{shown_is_accepted}
use Rattle.journal.specs.Built.{view_built}
use Rattle.journal.specs.Calls.{journal_question, leading_n, events_logged, journal_book, shape_built, sent_built, received_built, tables_built}
use Rattle.journal_laws.specs.Statements.{BuiltIsAccepted, BuiltIsRead}
use Rattle.journal_laws.proofs.Shows.{shows_journal}

-- the tables built are those of the journal's book
pub tables_built_lem : (bytes sent received : List ℕ) → journal_question bytes sent received ≡ 0
    → tables_built bytes sent received ≡ tables_of (journal_book bytes)
unfolding shape_built sent_built received_built
tables_built_lem bytes sent received h = rw h

pub built_is_accepted : BuiltIsAccepted
built_is_accepted bytes sent received h =
    subst AreAccepted (sym (tables_built_lem bytes sent received h))
    (shown_is_accepted (view_built (leading_n bytes) (events_logged bytes)) (shows_journal bytes sent received h))

-- accepted tables, written to a buffer just as long as their bytes, are read from it
pub accepted_is_read : (tables : Tables) (into into' : List ℕ) → AreAccepted tables → length into ≡ entries → length into' ≡ entries
    → (read_question (bytes_of tables) into into' ≡ 0) × (tables_read (bytes_of tables) into into' ≡ tables)
accepted_is_read tables into into' are l l' =
    let out : List ℕ = bytes_of tables in
    let answer : answer_to_write tables out ≡ Ok (length out)
    = answer_given tables out (write_given tables out are.passed (omega arith)) in
    let read = rw (bytes_left tables out (length out) answer) at
    (written_then_read tables out into into' (length out) are.sixteen l l' answer) in
    (read.0, rw (read.1, read.2, read.3))

pub built_is_read : BuiltIsRead
built_is_read bytes sent received into into' h l l' =
    let tables : Tables = tables_built bytes sent received in
    let are : AreAccepted tables = built_is_accepted bytes sent received h in
    let read = accepted_is_read tables into into' are l l' in
    (never_too_long tables are, read.0, read.1)
