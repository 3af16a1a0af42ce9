-- The statements of `specs/Statements.antt` hold.
-- Assumes nothing.
use mathlib.Core.Path.{◌≡◌, sym, ◌∙◌}
use Prim.Native.Nat.{ℕ, zero, suc, ◌+◌, ◌-◌, ◌≤◌, ◌<◌}
use native.Mathlib.Decide.{dec_lt}
use native.Mathlib.Omega.{arith}
use Rattle.book.specs.Bounds.{mark}
use Rattle.book.specs.Lent.{Tables}
use Rattle.book.specs.Accepted.{AreAccepted}
use Rattle.book.specs.View.{count, S}
use Rattle.line_theory.specs.Sets.{View, IsBook, IsLine}
use Rattle.line_theory.specs.OfTables.{view_of}
use Rattle.line_theory.specs.Search.{line}
use Rattle.line_theory.specs.Statements.{AboveLine}
use Rattle.line_theory.proofs.Accepted.{accepted_size, accepted_book}
use Rattle.line_theory.proofs.Theorems.{line_is_line, step_stays_above}
use Rattle.consistency.specs.Known.{counters}
use Rattle.machine.specs.Own.{own_of}
use Rattle.machine_laws.specs.Own.{IsOwn, SameTo}
use Rattle.machine_laws.specs.Statements.{AcceptedIsOwn, NewestExists, NewestFalls, SentFalls, SameNewest, SameRow, StaysAboveLine}
use Rattle.machine_laws.proofs.Pairs.{no_pair, absent_no_pair}
use Rattle.machine_laws.proofs.Rows.{row_ext}
use Rattle.machine_laws.proofs.Checkpoints.{checkpoint_out}
use Rattle.machine_laws.proofs.Absent.{absent_sent}
use Rattle.machine_laws.proofs.Newest as last

-- ---- accepted tables

module _ {t : Tables} (accepted : AreAccepted t) (j : ℕ) (present : j < t.shape.n) where
  book : IsBook mark (view_of t)
  book = accepted_book accepted

  absent : (r p : ℕ) → 1 ≤ r → r ≤ count t.shape j → t.shape.n ≤ p → p < 16 → S t.shape t.sent j r p ≡ 0
  absent r p a b h m = absent_sent t accepted.passed j r p present a b h m

  pub is_own : IsOwn (own_of t j) j
  is_own =
      record {
        most = (accepted_size accepted).1;
        present = present;
        some = book.some j present;
        rising = λ r p h a b. elim (dec_lt p t.shape.n) [
          | yes m ↦ book.rising j r p present m a b
          | no m ↦ omega (arith, absent r p a (omega arith) (omega arith) h)
        ];
        below = λ r p h a b. elim (dec_lt p t.shape.n) [
          | yes m ↦ book.below j r p present m a b
          | no m ↦ omega (arith, absent r p a b (omega arith) h)
        ];
        rest = λ r p h a b none. elim (dec_lt p t.shape.n) [
          | yes m ↦ rw (no_pair t.shape.n j p present none m) (book.own j r present a b).0
          | no m ↦ absent r p a b (omega arith) h
        ];
        received = λ r p h a b. book.received j r p present h a b;
        oldest = λ p h. book.oldest j p present h;
        none_from_itself = λ r a b. (book.own j r present a b).1;
      }

pub accepted_is_own : AcceptedIsOwn
accepted_is_own t j accepted present = is_own accepted j present

-- of two accepted tables that are the same to it
pub both_own : {j : ℕ} {tables tables' : Tables} → SameTo j tables tables' → j < tables.shape.n → IsOwn (own_of tables j) j
    × IsOwn (own_of tables' j) j
both_own {j} same there = (is_own same.accepted j there, is_own same.accepted' j (omega (arith, same.agree.processes)))

-- ---- one process's checkpoints

pub newest_exists : NewestExists
newest_exists own j known is =
    let n : ℕ = own.n in
    let found = last.newest_some n own.R own.R (counters known) (counters known) own.count is.oldest is.some in
    checkpoint_out own _ found.0 found.1

pub newest_falls : NewestFalls
newest_falls own known known' less =
    last.newest_falls own.n own.R own.R (counters known) (counters known') own.count less

pub sent_falls : SentFalls
sent_falls own j r r' p is within some back most =
    let e : r' + (r - r') ≡ r = omega arith in
    rw e at (rises (r - r') (omega arith))
  where
    rises : (k : ℕ) → r' + k ≤ own.count → own.S r' p ≤ own.S (r' + k) p
    rises zero h = let e : r' + 0 ≡ r' = omega arith in rw e (omega arith)
    rises (suc k) h =
        let e : r' + suc k ≡ suc (r' + k) = omega arith in
        let ih : own.S r' p ≤ own.S (r' + k) p = rises k (omega arith) in
        rw e (omega (arith, is.rising (r' + k) p within (omega arith) (omega arith)))

pub same_newest : SameNewest
same_newest a b known agree =
    last.newest_same a.n a.R b.R (counters known) (counters known) a.count agree.received
    ∙ rw (agree.processes, agree.checkpoints)

pub same_row : SameRow
same_row a b j r is_a is_b agree some most =
    row_ext (a.S r) (b.S r) at
  where
    at : (p : ℕ) → p < 16 → a.S r p ≡ b.S r p
    at p h = elim (dec_lt p a.n) [
      | yes m ↦ agree.sent r p m some most
      | no m ↦ is_a.rest r p h some most (absent_no_pair a.n j p (omega arith))
          ∙ sym (is_b.rest r p h some (omega (arith, agree.checkpoints)) (absent_no_pair b.n j p (omega (arith, agree.processes))))
    ]

pub stays_above_line : StaysAboveLine
stays_above_line t j known accepted present at_least =
    let v : View = view_of t in
    let book : IsBook mark v = accepted_book accepted in
    let is : IsLine v (line v) = line_is_line mark v book in
    let above : AboveLine v (line v) = record { above = λ i h. omega arith; among = is.is_set.among } in
    step_stays_above mark v (line v) (counters known) j (count t.shape j) book above present at_least (is.is_set.among j present) (omega arith)
