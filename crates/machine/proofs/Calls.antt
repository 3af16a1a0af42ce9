-- What the functions below a call use of accepted tables.
use mathlib.Core.Path.{◌≡◌}
use mathlib.Core.List.{List}
use Prim.Native.Nat.{ℕ, ◌-◌, ◌≤◌, ◌<◌}
use native.Mathlib.Omega.{arith}
use Rattle.book.specs.Lent.{lent}
use Rattle.book.specs.declared.Count.{Count}
use Rattle.book.specs.declared.TableRows.{TableRows}
use Rattle.book.specs.Bounds.{mark}
use Rattle.book.specs.View.{count, R}
use Rattle.book.specs.Accepted.{AcceptedRows, IsProcess}
use Rattle.line_theory.specs.Search.{newest}
use Rattle.line_theory.specs.OfTables.{view_of}
use Rattle.line_theory.proofs.Accepted.{accepted_book}
use Rattle.line_theory.proofs.Theorems.{newest_is_newest}
use Rattle.consistency.specs.Known.{counters}

-- the newest permitted checkpoint of a process exists
pub newest_there : {rows : TableRows} {sent received : List ℕ} (me : ℕ) (known : List Count) {found : ℕ} → AcceptedRows rows sent received → IsProcess rows me
    → found ≡ newest rows.shape.n (λ r p. R rows.shape received (me - 1) r p) (counters known) (count rows.shape (me - 1))
    → (1 ≤ found) × (found ≤ count rows.shape (me - 1))
newest_there {rows} {sent} {received} me known given named e =
    let v = view_of (lent rows.shape sent received) in
    let book = accepted_book given.accepted in
    let present : me - 1 < rows.shape.n = omega (arith, named) in
    let is = newest_is_newest mark v (me - 1) (count rows.shape (me - 1)) (counters known) book present (book.some (me - 1) present) (omega arith) in
    (rw e is.some, rw e is.back)
