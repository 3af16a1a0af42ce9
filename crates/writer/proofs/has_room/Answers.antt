-- `writer::has_room` meets its contract: the largest book has room in a buffer of 65,536 bytes.
use mathlib.Core.Path.{sym, ap}
use Prim.Native.Nat.{ℕ}
use native.Mathlib.Omega.{arith}
use borrow.Author.Tests.{le-leb}
use lib.ListN.{length}
use lib.Dec.{leb}
use Rattle.book.specs.Lent.{lent}
use Rattle.book.specs.Write.{bytes_of}
use Rattle.round_trips.proofs.Theorems.{never_too_long}
use Rattle.writer.proofs.Answers.{accepted}
use Rattle.writer.proofs.has_room.Goals as goal

pub returns-then-room-ge-MOST_BYTES : goal.returns-then-room-ge-MOST_BYTES
returns-then-room-ge-MOST_BYTES c = let a = c.args in
    let few = never_too_long (lent a.shape a.sent.now a.received.now) c.requires in
    sym (le-leb (length (bytes_of (lent a.shape a.sent.now a.received.now))) a.room (omega (arith, few, c.if-room-ge-MOST_BYTES.true)))

pub book_size-requires : goal.book_size-requires
book_size-requires c = let both = accepted _ c.requires.passed in record { book_fits = both.0; book_fits_2 = both.1 }

pub returns : goal.returns
returns c = ap (λ (size : ℕ). leb size c.args.room) c.book_size.ensures
