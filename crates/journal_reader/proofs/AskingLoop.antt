-- The turns of the loop over a journal's events.
use Rattle.std.specs.Prelude.{Result, Ok, Err}
use mathlib.Core.Path.{◌≡◌, refl, sym, ap, ◌∙◌}
use mathlib.Core.Bool.{Bool, true, false}
use mathlib.Core.List.{List, [], ◌∷◌, ◌++◌, append-nil}
use Prim.Native.Nat.{ℕ, suc, ◌≤◌, ◌<◌}
use native.Mathlib.Omega.{arith}
use lib.ListN.{length, length-append, length-replicate}
use lib.Seq.{append_snoc}
use Rattle.lists.specs.Over.{tab}
use Rattle.book.specs.declared.Question.{Question}
use Rattle.book.specs.declared.Shape.{Shape}
use Rattle.book.specs.Bounds.{most_processes, most_checkpoints, most_bytes}
use Rattle.book.specs.Tables.{padded, shape_of}
use Rattle.book.specs.InTurn.{◌then◌, ask}
use Rattle.book.specs.Numbers.{number}
use Rattle.book.proofs.Questions.{then_passed, then_refused}
use Rattle.book.proofs.Refusals.{refused_by, is_refused, is_accepted, value_is, accepts}
use Rattle.shown.proofs.Rows.{shape_shown}
use Rattle.journal.specs.Counting.{checkpoint_count}
use Rattle.journal.specs.declared.Event.{Event}
use Rattle.journal.specs.Events.{NoEvent, first_event, Events}
use Rattle.journal.specs.Questions.{event_question, events_question}
use Rattle.journal.specs.Built.{view_built, book_built}
use Rattle.journal.specs.Calls.{numbers_logged}
use Rattle.journal.specs.Parts.{StandsAt, events_from}
use Rattle.journal.proofs.Reading.{events_more, events_broken, events_end}
use Rattle.journal_reader.specs.Asking.{channels, Kept, none_underway, first_counts, HasRoom, total_after, EventTaken, EventsTaken}
use Rattle.journal_reader.proofs.Kept.{kept_none, kept_sixteen, kept_fits}
use Rattle.journal_reader.proofs.Taken.{total_within}

-- ---- the questions of events, one after another

abbrev question_of : ℕ → List Event → Events → ℕ
question_of n before es = events_question n before es.found es.whole

question_none : (n : ℕ) (before : List Event) (whole : Bool) → events_question n before [] whole ≡ ask 19 whole
unfolding events_question
question_none n before whole = refl

question_next : (n : ℕ) (before : List Event) (e : Event) (es : List Event) (whole : Bool)
    → events_question n before (e ∷ es) whole ≡ (event_question n before e then λ _. events_question n (before ++ e ∷ []) es whole)
unfolding events_question
question_next n before e es whole = refl

-- ---- the loop

-- the events before a place are taken: what is left to ask is asked of those that follow
pub record Sofar (n : ℕ) (s : List ℕ) (at : ℕ) (underway counts : List ℕ) (total next : ℕ) : Type 0 where
  pub before : List Event
  pub kept : Kept n before underway counts total
  pub asked : question_of n [] (events_from s at) ≡ question_of n before (events_from s next)
  pub listed : (events_from s at).found ≡ before ++ (events_from s next).found
  pub passed : length before ≤ next
  pub inside : next ≤ length s
  pub long : length underway ≡ channels
  pub within : total ≤ most_checkpoints

none_long : length none_underway ≡ channels
unfolding none_underway
none_long = length-replicate {A = ℕ} channels 0

pub sofar_begun : (n : ℕ) (s : List ℕ) (at : ℕ) (underway counts : List ℕ) → n ≤ most_processes → at ≤ length s → underway ≡ none_underway
    → counts ≡ first_counts n → Sofar n s at underway counts n at
sofar_begun n s at underway counts few inside e e' =
    rw (e, e')
    record {
      before = [];
      kept = kept_none n;
      asked = refl;
      listed = refl;
      passed = omega arith;
      inside = inside;
      long = none_long;
      within = omega arith;
    }

module _ (n : ℕ) (s : List ℕ) (at : ℕ) (underway counts : List ℕ) (total next : ℕ) (inv : Sofar n s at underway counts total next) where
  pub sofar_sixteen : n ≤ most_processes → length counts ≡ most_processes
  sofar_sixteen few = kept_sixteen n inv.before underway counts total inv.kept few

  pub sofar_fits : n ≤ most_processes → next < length s → length s ≤ most_bytes → HasRoom underway counts total
  sofar_fits few h short = kept_fits n inv.before underway counts total inv.kept few inv.within inv.long (omega arith)

  -- no event stands before the end
  pub sofar_broken : next < length s → first_event (numbers_logged s next).found ≡ NoEvent → question_of n [] (events_from s at) ≡ 19
  sofar_broken h none =
      inv.asked ∙ ap (question_of n inv.before) (events_broken s next h none) ∙ question_none n inv.before false

  -- one stands there
  module _ (e : Event) (after : ℕ) (stands : StandsAt s next e after) (r : Result ℕ Question) (underway' counts' : List ℕ)
      (did : EventTaken n e underway counts total r underway' counts') where
    so_far : List Event
    so_far = inv.before ++ e ∷ []

    asked_next : question_of n [] (events_from s at) ≡ (event_question n inv.before e then λ _. question_of n so_far (events_from s after))
    unfolding so_far
    asked_next =
        inv.asked
        ∙ ap (question_of n inv.before) (events_more s next e after stands)
        ∙ question_next n inv.before e (events_from s after).found (events_from s after).whole

    pub sofar_refused : (x : Question) → r ≡ Err x → question_of n [] (events_from s at) ≡ number x
    sofar_refused x was =
        let asked = did.asked inv.before inv.kept in
        asked_next ∙ then_refused (event_question n inv.before e) _ (is_refused _ _ asked was) ∙ refused_by _ _ asked was

    pub sofar_more : (total' : ℕ) → r ≡ Ok total' → length underway' ≡ length underway → Sofar n s at underway' counts' total' after
    unfolding so_far
    sofar_more total' was same =
        let asked = did.asked inv.before inv.kept in
        let z : event_question n inv.before e ≡ 0 = is_accepted _ _ asked was in
        let is : total' ≡ total_after n inv.before e = value_is _ _ asked was in
        rw is
        record {
          before = so_far;
          kept = did.kept inv.before inv.kept z;
          asked = asked_next ∙ then_passed (event_question n inv.before e) _ z;
          listed = inv.listed
              ∙ ap (λ (es : Events). inv.before ++ es.found) (events_more s next e after stands)
              ∙ sym (append_snoc inv.before e (events_from s after).found);
          passed = omega (arith, length-append inv.before (e ∷ []), stands.onward, inv.passed);
          inside = stands.inside;
          long = same ∙ inv.long;
          within = total_within n inv.before e z;
        }

  -- the bytes end
  module _ (h : length s ≤ next) where
    rest : events_from s next ≡ record { found = []; whole = true }
    rest = let e : next ≡ length s = omega (arith, inv.inside) in ap (events_from s) e ∙ events_end s

    all : (events_from s at).found ≡ inv.before
    all = inv.listed ∙ ap (λ (es : Events). inv.before ++ es.found) rest ∙ append-nil inv.before

    shaped : ◌≡◌ {A = Shape} (record { n = n; counts = counts }) (shape_of (book_built n (events_from s at).found))
    shaped =
        let is : counts ≡ padded most_processes (tab n (λ j. checkpoint_count (suc j) (events_from s at).found)) = rw all inv.kept.checkpoints in
        (λ i. record { n = n; counts = is i }) ∙ sym (shape_shown (view_built n (events_from s at).found))

    pub sofar_ended : EventsTaken n s at (Ok (record { n = n; counts = counts }))
    sofar_ended = accepts (inv.asked ∙ ap (question_of n inv.before) rest ∙ question_none n inv.before true) shaped
