-- The view that events show is a book's.
use mathlib.Core.Path.{◌≡◌, ap}
use mathlib.Core.Bool.{Bool}
use mathlib.Core.List.{List}
use Prim.Native.Nat.{ℕ, suc, ◌-◌, ◌≤◌, ◌<◌}
use native.Mathlib.Omega.{arith}
use lib.ListN.{length}
use Rattle.book.specs.Bounds.{mark}
use Rattle.shown.specs.Statements.{ShowsBook}
use Rattle.journal.specs.declared.Event.{Event}
use Rattle.journal.specs.Counting.{how_many, is_sending, is_receipt}
use Rattle.journal.specs.Built.{up_to_checkpoint, view_built}
use Rattle.journal.specs.Calls.{leading_n, events_logged, journal_question}
use Rattle.journal.proofs.Accepted.{AcceptedEvents, journal_passed, journal_accepted}
use Rattle.journal.proofs.Counting.{how_many_few}
use Rattle.journal.proofs.Checkpoints.{up_to_none, up_to_rises, up_to_few}
use Rattle.journal_laws.proofs.Sizes.{logged_few}

-- what is counted up to checkpoint r of a process; both count from 1
module _ (such : Event → Bool) (j : ℕ) (es : List Event) where
  counted_first : how_many such (up_to_checkpoint j (1 - 1) es) ≡ 0
  unfolding how_many
  counted_first = ap (how_many such) (up_to_none j es)

  counted_few : (r : ℕ) → how_many such (up_to_checkpoint j (r - 1) es) ≤ length es
  counted_few r = omega (arith, up_to_few such j (r - 1) es, how_many_few such es)

  counted_rises : (r : ℕ) → 1 ≤ r → how_many such (up_to_checkpoint j (r - 1) es) ≤ how_many such (up_to_checkpoint j (suc r - 1) es)
  counted_rises r h = let next : suc r - 1 ≡ suc (r - 1) = omega arith in rw next (up_to_rises such j (r - 1) es)

pub shows_logged : (n : ℕ) (es : List Event) → AcceptedEvents n es → length es < mark → ShowsBook (view_built n es)
shows_logged n es events short =
    record {
      size = (events.some, events.few);
      some = λ j h. omega arith;
      few = events.in_all;
      known = λ j r p is. (
        omega (arith, counted_few (is_sending (suc j) (suc p)) (suc j) es r),
        omega (arith, counted_few (is_receipt (suc j) (suc p)) (suc j) es r),
      );
      oldest_received = λ j p h m. counted_first (is_receipt (suc j) (suc p)) (suc j) es;
      rising = λ j r p is m. (
        counted_rises (is_sending (suc j) (suc p)) (suc j) es r is.first,
        counted_rises (is_receipt (suc j) (suc p)) (suc j) es r is.first,
      );
    }

pub shows_journal : (bytes sent received : List ℕ) → journal_question bytes sent received ≡ 0
    → ShowsBook (view_built (leading_n bytes) (events_logged bytes))
shows_journal bytes sent received h =
    let passed = journal_passed bytes sent received h in
    shows_logged (leading_n bytes) (events_logged bytes) (journal_accepted bytes passed.numbers) (omega (arith, logged_few bytes, passed.short))
