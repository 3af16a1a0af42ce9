-- What the filling pass knows when it begins.
use Rattle.std.specs.Prelude.{Some}
use mathlib.Core.Path.{◌≡◌, sym, ap, ◌∙◌}
use mathlib.Core.List.{List}
use Prim.Native.Nat.{ℕ, ◌+◌, ◌-◌, ◌≤◌}
use native.Mathlib.Decide.{dec_lt}
use native.Mathlib.Omega.{arith}
use lib.ListN.{length, get_or, replicate, length-replicate, get_or-eq_default}
use lib.Seq.{sets, length-sets}
use Rattle.lists.proofs.Over.{replicate_at}
use Rattle.varint.specs.Number.{read_number}
use Rattle.varint.proofs.Reading.{read_next}
use Rattle.book.specs.declared.Shape.{Shape}
use Rattle.book.specs.Bounds.{most_processes, most_checkpoints, entries}
use Rattle.book.specs.Tables.{shape_of}
use Rattle.book.specs.View.{sum, first_rows}
use Rattle.journal.specs.declared.Event.{Event}
use Rattle.journal.specs.declared.counts.Counts.{Counts}
use Rattle.journal.specs.Bounds.{journal_groups, journal_largest}
use Rattle.journal.specs.Questions.{journal_numbers_question}
use Rattle.journal.specs.Calls.{numbers_logged, numbers_end, leading_n, events_logged, journal_book, journal_question}
use Rattle.journal.specs.Built.{view_built}
use Rattle.journal.specs.Running.{no_counts}
use Rattle.journal.proofs.Accepted.{journal_passed, leading_is, events_are, journal_whole, journal_accepted}
use Rattle.shown.proofs.Places.{get_d_within}
use Rattle.journal_reader.specs.Filling.{IsClear, ToFill}
use Rattle.journal_reader.proofs.FillPlaces.{shown_in_all, shown_starts}
use Rattle.journal_reader.proofs.FillTurns.{Filling, Known, filling_begun}

-- ---- before the tables are filled

-- a table with zeros stored all along it
cleared : (t t' : List ℕ) (k : ℕ) → length t ≡ k → t' ≡ sets t 0 (replicate (k - 0) 0) → (length t' ≡ k) × ((i : ℕ) → get_or t' i 0 ≡ 0)
cleared t t' k long put = (same, zero_at)
  where
    same : length t' ≡ k
    same = ap length put ∙ length-sets t 0 (replicate (k - 0) 0) ∙ long

    zeros : length {A = ℕ} (replicate (k - 0) 0) ≡ k
    zeros = length-replicate {A = ℕ} (k - 0) 0 ∙ omega arith

    zero_at : (i : ℕ) → get_or t' i 0 ≡ 0
    zero_at i =
        let here : 0 + i ≡ i = omega arith in
        elim (dec_lt i k) [
          | yes h ↦
              ap (λ (l : List ℕ). get_or l i 0) put
              ∙ ap (λ (m : ℕ). get_or (sets t 0 (replicate (k - 0) 0)) m 0) (sym here)
              ∙ get_d_within (replicate (k - 0) 0) t 0 i (omega (arith, zeros)) (omega (arith, zeros))
              ∙ replicate_at (k - 0) 0 i
          | no h ↦ get_or-eq_default t' 0 {n = i} (omega (arith, same))
        ]

clear_of : (t t' : List ℕ) → length t ≡ entries → t' ≡ sets t 0 (replicate (entries - 0) 0) → IsClear t'
clear_of t t' long put = let both = cleared t t' entries long put in record { long = both.0; zeros = both.1 }

module _ (s sent received : List ℕ) (shape : Shape) (asked : journal_question s sent received ≡ 0) (is : shape ≡ shape_of (journal_book s)) where
  abbrev passed : journal_numbers_question (numbers_end s 0) (numbers_logged s 0).found ≡ 0
  passed = (journal_passed s sent received asked).numbers

  -- the rows of the book fit the tables
  pub shape_fits : sum shape.counts ≤ most_checkpoints
  shape_fits =
      let events = journal_accepted s passed in
      rw is (omega (arith, shown_in_all (view_built (leading_n s) (events_logged s)) events.few, events.in_all))

  pub to_fill : (v at : ℕ) → read_number journal_groups journal_largest s 0 ≡ Some (v, at) → (first : List ℕ) → first ≡ first_rows shape.counts
      → (sent' received' : List ℕ) → sent' ≡ sets sent 0 (replicate (entries - 0) 0) → received' ≡ sets received 0 (replicate (entries - 0) 0)
      → ToFill s at first sent' received'
  to_fill v at leads first starts sent' received' cleared_sent cleared_received =
      let all = journal_passed s sent received asked in
      record {
        short = all.short;
        passed = passed;
        leads = leads ∙ ap (λ (k : ℕ). Some (k, at)) (sym (leading_is s passed v at leads));
        starts = starts ∙ ap (λ (shape : Shape). first_rows shape.counts) is;
        sent_clear = clear_of sent sent' all.sent_long cleared_sent;
        received_clear = clear_of received received' all.received_long cleared_received;
      }

-- ---- before the first event

module _ {s : List ℕ} {at : ℕ} {first sent received : List ℕ} (ready : ToFill s at first sent received) where
  abbrev n : ℕ
  n = leading_n s

  abbrev es : List Event
  es = events_logged s

  pub known_first : Known n es s first
  known_first =
      let events = journal_accepted s ready.passed in
      record {
        accepted = events;
        short = ready.short;
        starts = λ j h. ap (λ (l : List ℕ). get_or l j 0) ready.starts ∙ shown_starts (view_built n es) events.few j h;
      }

  pub begun : (c : Counts) → c ≡ no_counts → Filling n es s sent received (replicate most_processes c) at
  begun c none =
      let led = read_next journal_groups journal_largest s 0 n at ready.leads in
      filling_begun n es s sent received at c led.0 led.1
      (events_are s ready.passed n at ready.leads) (journal_whole s ready.passed n at ready.leads) none ready.sent_clear
      ready.received_clear
