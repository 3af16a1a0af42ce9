-- `accepted_event` meets its contract.
use Rattle.std.specs.Prelude.{Some}
use mathlib.Core.Path.{◌≡◌}
use mathlib.Core.List.{List}
use Prim.Native.Nat.{ℕ, ◌≤◌}
use native.Mathlib.Omega.{arith}
use borrow.Author.Rules.{rules}
use Rattle.varint.specs.Number.{read_number}
use Rattle.varint.proofs.Reading.{read_next}
use Rattle.journal.specs.Bounds.{journal_groups, journal_largest}
use Rattle.journal.proofs.Short.{event_bytes, checkpoint_stands, sending_stands, receipt_stands}
use Rattle.journal.proofs.accepted_event.Goals as goal

small : (s : List ℕ) (at v : ℕ) {next : ℕ} → read_number journal_groups journal_largest s at ≡ Some (v, next) → v ≤ journal_largest
small s at v {next} read = (read_next journal_groups journal_largest s at v next read).2

pub bounds-s-at : goal.bounds-s-at
bounds-s-at c = let b = event_bytes _ _ c.requires in
    omega (arith, b.head.inside)

pub overflow_add-process : goal.overflow_add-process
overflow_add-process c = let b = event_bytes _ _ c.requires in
    let inside = b.head.inside in search rules

pub bounds-s-at-2 : goal.bounds-s-at-2
bounds-s-at-2 c = let b = event_bytes _ _ c.requires in
    b.head.inside

pub overflow_cast-by : goal.overflow_cast-by
overflow_cast-by c = let b = event_bytes _ _ c.requires in
    omega (arith, small _ _ _ b.head.process)

pub overflow_add-result : goal.overflow_add-result
overflow_add-result c = let b = event_bytes _ _ c.requires in
    let inside = b.head.inside in search rules

pub returns-then-kind-eq3 : goal.returns-then-kind-eq3
returns-then-kind-eq3 c = let b = event_bytes _ _ c.requires in
    checkpoint_stands _ _ b.head c.if-kind-eq3.true

pub overflow_add-partner : goal.overflow_add-partner
overflow_add-partner c = let b = event_bytes _ _ c.requires in
    let p = b.partner c.if-kind-eq3.false in
    let inside = p.inside in search rules

pub bounds-s-at-3 : goal.bounds-s-at-3
bounds-s-at-3 c = let b = event_bytes _ _ c.requires in
    let p = b.partner c.if-kind-eq3.false in
    p.inside

pub overflow_cast-with : goal.overflow_cast-with
overflow_cast-with c = let b = event_bytes _ _ c.requires in
    let p = b.partner c.if-kind-eq3.false in
    omega (arith, small _ _ _ p.read)

pub overflow_add-result-then-kind-eq1 : goal.overflow_add-result-then-kind-eq1
overflow_add-result-then-kind-eq1 c = let b = event_bytes _ _ c.requires in
    let p = b.partner c.if-kind-eq3.false in
    let inside = p.inside in search rules

pub returns-then-kind-eq1 : goal.returns-then-kind-eq1
returns-then-kind-eq1 c = let b = event_bytes _ _ c.requires in
    let p = b.partner c.if-kind-eq3.false in
    sending_stands _ _ b.head p c.if-kind-eq1.true

pub overflow_add-result-2 : goal.overflow_add-result-2
overflow_add-result-2 c = let b = event_bytes _ _ c.requires in
    let p = b.partner c.if-kind-eq3.false in
    let inside = p.inside in search rules

pub returns : goal.returns
returns c = let b = event_bytes _ _ c.requires in
    let p = b.partner c.if-kind-eq3.false in
    receipt_stands _ _ b.head p (b.received c.if-kind-eq3.false c.if-kind-eq1.false)
