-- The turns of the pass that fills the tables: after each event the rows of the checkpoints made so far stand at their places.
use mathlib.Core.Path.{◌≡◌, refl, sym, ap, ap₂, subst, ◌∙◌}
use mathlib.Core.Bool.{Bool, true, false, true≢false}
use mathlib.Core.List.{List, [], ◌∷◌, ◌++◌, append_assoc, append-nil}
use Prim.Native.Nat.{ℕ, suc, ◌+◌, ◌-◌, ◌*◌, ◌≤◌, ◌<◌}
use native.Mathlib.Omega.{arith}
use lib.ListN.{length, get_or, set, replicate, length-append}
use lib.Seq.{sets}
use Rattle.lists.specs.Over.{sum_to, tab_from, tab}
use Rattle.lists.proofs.Over.{length_tab, get_d_tab}
use Rattle.book.specs.Bounds.{most_processes, most_checkpoints, most_bytes, row_width}
use Rattle.book.specs.Tables.{sent_table, received_table}
use Rattle.shown.proofs.Rows.{sent_rows_shown, received_rows_shown}
use Rattle.shown.proofs.Places.{Standing, standing_clear, standing_as, standing_more, standing_all, row_inside}
use Rattle.journal.specs.declared.Event.{Event}
use Rattle.journal.specs.declared.counts.Counts.{Counts}
use Rattle.journal.specs.Counting.{how_many, is_sending, is_receipt, is_checkpoint, checkpoint_count}
use Rattle.journal.specs.Events.{Front, Begins, NoEvent, first_event, Events, events_in}
use Rattle.journal.specs.Calls.{numbers_logged, numbers_end}
use Rattle.journal.specs.Built.{up_to_checkpoint, view_built, book_built}
use Rattle.journal.specs.Parts.{StandsAt, NamedAt, events_from}
use Rattle.journal.specs.Running.{process_of, counts_after, counts_next, counts_over, no_counts, HasRoomFor}
use Rattle.journal.proofs.Checkpoints.{up_to_none}
use Rattle.journal.proofs.Counting.{how_many_append}
use Rattle.journal.proofs.Accepted.{AcceptedEvents}
use Rattle.journal.proofs.Passed.{Passes, process_named, partner_named}
use Rattle.journal.proofs.Running.{next_own, other_checkpoint, one_checkpoint, same_checkpoints}
use Rattle.journal.proofs.Reading.{events_begin, events_more, events_broken, events_end}
use Rattle.journal_reader.specs.Filling.{is_checkpoint_event, IsClear}
use Rattle.journal_reader.proofs.FillColumns.{sent_elsewhere, received_elsewhere}
use Rattle.journal_reader.proofs.FillCounts.{
  all_counts,
  room_for,
  all_at,
  all_more,
  saved_own,
  saved_sending,
  saved_receipt,
  unsaved,
  next_row,
}

-- how many checkpoints process j has, which counts from 0
abbrev pub count_in : List Event → ℕ → ℕ
count_in es j = checkpoint_count (suc j) es

-- these events were taken, and those from the next place on are left
pub record Filling (n : ℕ) (es : List Event) (s sent received : List ℕ) (all : List Counts) (next : ℕ) : Type 0 where
  pub done : List Event
  pub inside : next ≤ length s
  pub events : es ≡ done ++ (events_from s next).found
  pub whole : (events_from s next).whole ≡ true
  pub few : length done < next
  pub counted : all ≡ all_counts done
  pub sent_rows : Standing n (count_in es) (view_built n es).S (count_in done) sent
  pub received_rows : Standing n (count_in es) (view_built n es).R (count_in done) received

-- ---- before any event

-- the oldest checkpoints hold zeros
oldest_zeros : (such : Event → Bool) (j r : ℕ) (es : List Event) → 1 ≤ r → r ≤ checkpoint_count j [] → how_many such (up_to_checkpoint j (r - 1) es) ≡ 0
unfolding how_many
oldest_zeros such j r es some few =
    let none : r - 1 ≡ 0 = omega arith in ap (how_many such) (ap (λ (k : ℕ). up_to_checkpoint j k es) none ∙ up_to_none j es)

none_counted : replicate most_processes no_counts ≡ all_counts []
unfolding tab_from how_many
none_counted = refl

pub filling_begun : (n : ℕ) (es : List Event) (s sent received : List ℕ) (at : ℕ) (c : Counts) → 0 < at → at ≤ length s → es ≡ (events_from s at).found
    → (events_from s at).whole ≡ true → c ≡ no_counts → IsClear sent → IsClear received
    → Filling n es s sent received (replicate most_processes c) at
filling_begun n es s sent received at c later inside events whole none sent_clear received_clear =
    record {
      done = [];
      inside = inside;
      events = events;
      whole = whole;
      few = omega arith;
      counted = ap (replicate most_processes) none ∙ none_counted;
      sent_rows = standing_clear n (count_in es) (view_built n es).S (count_in []) sent sent_clear.long sent_clear.zeros
          (λ j r p some few. oldest_zeros (is_sending (suc j) (suc p)) (suc j) r es some few);
      received_rows = standing_clear n (count_in es) (view_built n es).R (count_in []) received received_clear.long received_clear.zeros
          (λ j r p some few. oldest_zeros (is_receipt (suc j) (suc p)) (suc j) r es some few);
    }

-- ---- a turn

-- what holds all along
pub record Known (n : ℕ) (es : List Event) (s first : List ℕ) : Type 0 where
  pub accepted : AcceptedEvents n es
  pub short : length s ≤ most_bytes
  pub starts : (j : ℕ) → j < n → get_or first j 0 ≡ sum_to j (count_in es)

-- an event stands at the next place, and its process was found
pub record Turn (n : ℕ) (es : List Event) (s first sent received : List ℕ) (all : List Counts) (next : ℕ) (e : Event) (after process : ℕ) :
    Type 0 where
  pub known : Known n es s first
  pub inv : Filling n es s sent received all next
  pub left : next < length s
  pub stands : StandsAt s next e after
  pub named : process ≡ process_of e

-- the journal is whole, so there is an event before its end, and it is one of those that pass
pub named_there : {n : ℕ} {es : List Event} {s sent received : List ℕ} {all : List Counts} {next : ℕ} → AcceptedEvents n es
    → Filling n es s sent received all next → next < length s → NamedAt s next
named_there {n} {es} {s} {next = next} accepted inv h = go (first_event (numbers_logged s next).found) refl
  where
    go : (f : Front) → first_event (numbers_logged s next).found ≡ f → NamedAt s next
    go NoEvent none = absurd (true≢false (sym inv.whole ∙ ap (λ (r : Events). r.whole) (events_broken s next h none)))
    go (Begins e rest) begins =
        let more = events_begin (numbers_end s next) (numbers_logged s next).found e rest begins in
        let on : es ≡ inv.done ++ e ∷ (events_in (numbers_end s next) rest).found
        = inv.events ∙ ap (λ (r : Events). inv.done ++ r.found) more in
        record {
          n = n;
          few = accepted.few;
          event = e;
          rest = rest;
          begins = begins;
          named = (accepted.passes inv.done e _ on).named;
        }

module _ {n : ℕ} {es : List Event} {s first sent received : List ℕ} {all : List Counts} {next : ℕ} {e : Event} {after process : ℕ}
    (turn : Turn n es s first sent received all next e after process) where
  abbrev accepted : AcceptedEvents n es
  accepted = turn.known.accepted

  abbrev done : List Event
  done = turn.inv.done

  abbrev more : List Event
  more = (events_from s after).found

  events_on : es ≡ done ++ e ∷ more
  events_on = turn.inv.events ∙ ap (λ (r : Events). done ++ r.found) (events_more s next e after turn.stands)

  events_again : es ≡ (done ++ e ∷ []) ++ more
  events_again = events_on ∙ sym (append_assoc done (e ∷ []) more)

  passes : Passes n done e
  passes = accepted.passes done e more events_on

  in_n : (1 ≤ process_of e) × (process_of e ≤ n)
  in_n = process_named n e passes.named

  pub process_some : 1 ≤ process
  process_some = omega (arith, turn.named, in_n.0)

  -- the process, counted from 0
  abbrev j : ℕ
  j = process - 1

  back : suc j ≡ process_of e
  back = omega (arith, turn.named, in_n.0)

  present : j < n
  present = omega (arith, back, in_n.1)

  pub process_few : j < most_processes
  process_few = omega (arith, present, accepted.few)

  -- its counts, whatever would stand past the end
  module _ (d : Counts) where
    abbrev counts : Counts
    counts = get_or all j d

    counts_are : counts ≡ counts_over (process_of e) done
    counts_are =
        ap₂ (λ (l : List Counts) (i : ℕ). get_or l (i - 1) d) turn.inv.counted turn.named
        ∙ all_at done e in_n.0 (omega (arith, in_n.1, accepted.few)) d

    pub counts_room : HasRoomFor e counts
    counts_room =
        subst (λ (c : Counts). HasRoomFor e c) (sym counts_are)
        (room_for n done e accepted.few passes (omega (arith, turn.inv.few, turn.left, turn.known.short)))

    module _ (logged : Counts) (logs : logged ≡ counts_next process e counts) where
      -- the counts are those after it, whatever the tables are
      on : {sent' received' : List ℕ} → Standing n (count_in es) (view_built n es).S (count_in (done ++ e ∷ [])) sent'
          → Standing n (count_in es) (view_built n es).R (count_in (done ++ e ∷ [])) received'
          → Filling n es s sent' received' (set all j logged) after
      on sent_rows received_rows =
          record {
            done = done ++ e ∷ [];
            inside = turn.stands.inside;
            events = events_again;
            whole = sym (ap (λ (r : Events). r.whole) (events_more s next e after turn.stands)) ∙ turn.inv.whole;
            few = omega (arith, length-append done (e ∷ []), turn.inv.few, turn.stands.onward);
            counted = ap (set all j) (logs ∙ sym (next_own process e counts (sym turn.named)) ∙ ap (counts_after e) counts_are)
                ∙ ap₂ (λ (l : List Counts) (i : ℕ). set l (i - 1) (counts_after e (counts_over (process_of e) done))) turn.inv.counted turn.named
                ∙ all_more done e in_n.0 (omega (arith, in_n.1, accepted.few)) (partner_named n e accepted.few passes.named);
            sent_rows = sent_rows;
            received_rows = received_rows;
          }

      -- it is a message
      pub filling_on : is_checkpoint_event e ≡ false → (sent' received' : List ℕ) → sent' ≡ sent → received' ≡ received
          → Filling n es s sent' received' (set all j logged) after
      filling_on message sent' received' same same' =
          let kept : (i : ℕ) → i < n → count_in (done ++ e ∷ []) i ≡ count_in done i = λ i h. same_checkpoints (suc i) done e (unsaved (suc i) e message) in
          rw (same, same')
          (on (standing_as turn.inv.sent_rows (count_in (done ++ e ∷ [])) kept)
          (standing_as turn.inv.received_rows (count_in (done ++ e ∷ [])) kept))

    -- it is a checkpoint
    module _ (saved : is_checkpoint_event e ≡ true) where
      own : is_checkpoint (suc j) e ≡ true
      own = rw back (saved_own e saved)

      one : count_in (done ++ e ∷ []) j ≡ count_in done j + 1
      one = one_checkpoint (suc j) done e own

      others : (i : ℕ) → i < n → (i ≡ j → ⊥) → count_in (done ++ e ∷ []) i ≡ count_in done i
      others i h ne = same_checkpoints (suc i) done e (other_checkpoint (suc i) e (λ m. ne (omega (arith, m, back))))

      -- the checkpoints so far are among all, and so is this one
      so_far : (i : ℕ) → i < n → count_in done i ≤ count_in es i
      so_far i h =
          let all_of : count_in es i ≡ count_in (done ++ e ∷ more) i = ap (λ (l : List Event). count_in l i) events_on in
          omega (arith, how_many_append (is_checkpoint (suc i)) done (e ∷ more))

      room : count_in done j < count_in es j
      room =
          let all_of : count_in es j ≡ count_in ((done ++ e ∷ []) ++ more) j = ap (λ (l : List Event). count_in l j) events_again in
          omega (arith, one, how_many_append (is_checkpoint (suc j)) (done ++ e ∷ []) more)

      -- the row of the next checkpoint
      abbrev row : ℕ
      row = get_or first j 0 + counts.checkpoints

      row_is : row ≡ sum_to j (count_in es) + count_in done j
      row_is =
          ap₂ (λ (a b : ℕ). a + b) (turn.known.starts j present)
          (ap (λ (c : Counts). c.checkpoints) counts_are ∙ ap (λ (i : ℕ). checkpoint_count i done) (sym back))

      pub row_fits : row < most_checkpoints
      row_fits = omega (arith, row_is, row_inside n (count_in es) j (count_in done j) present room accepted.in_all)

      -- it is put into one of the tables
      module _ (such : ℕ → ℕ → Event → Bool) (none : (p : ℕ) → such (suc j) p e ≡ false) where
        abbrev rows_of : ℕ → ℕ → ℕ → ℕ
        rows_of i r p = how_many (such (suc i) (suc p)) (up_to_checkpoint (suc i) (r - 1) es)

        abbrev counted : ℕ → ℕ
        counted p = how_many (such (process_of e) (suc p)) done

        entry : (p : ℕ) → counted p ≡ rows_of j (count_in done j + 1) p
        entry p =
            let last : count_in done j + 1 - 1 ≡ checkpoint_count (suc j) done = omega arith in
            ap (λ (i : ℕ). how_many (such i (suc p)) done) (sym back)
            ∙ sym (next_row (such (suc j) (suc p)) (suc j) done e more own (none (suc p)))
            ∙ ap₂ (λ (k : ℕ) (l : List Event). how_many (such (suc j) (suc p)) (up_to_checkpoint (suc j) k l)) (sym last) (sym events_on)

        row_put : (table table' counters : List ℕ) → Standing n (count_in es) rows_of (count_in done) table
            → counters ≡ tab most_processes counted → table' ≡ sets table (row * row_width) counters
            → Standing n (count_in es) rows_of (count_in (done ++ e ∷ [])) table'
        row_put table table' counters standing are put =
            subst (λ (t : List ℕ). Standing n (count_in es) rows_of (count_in (done ++ e ∷ [])) t)
            (sym (put ∙ ap (λ (k : ℕ). sets table (k * row_width) counters) row_is))
            (standing_more standing accepted.in_all so_far (count_in (done ++ e ∷ [])) j present room one others counters
            (ap length are ∙ length_tab most_processes counted)
            (λ p h. ap (λ (l : List ℕ). get_or l p 0) are ∙ get_d_tab most_processes counted p 0 h ∙ entry p))

      pub filling_more : (logged : Counts) → logged ≡ counts_next process e counts → (sent' received' : List ℕ)
          → sent' ≡ sets sent (row * row_width) counts.sent → received' ≡ sets received (row * row_width) counts.received
          → Filling n es s sent' received' (set all j logged) after
      filling_more logged logs sent' received' put put' =
          on logged logs
          (row_put is_sending (λ p. saved_sending (suc j) p e saved) sent sent' counts.sent turn.inv.sent_rows
          (ap (λ (c : Counts). c.sent) counts_are) put)
          (row_put is_receipt (λ p. saved_receipt (suc j) p e saved) received received' counts.received turn.inv.received_rows
          (ap (λ (c : Counts). c.received) counts_are) put')

-- ---- after the last event

module _ {n : ℕ} {es : List Event} {s sent received : List ℕ} {all : List Counts} {next : ℕ} (accepted : AcceptedEvents n es)
    (inv : Filling n es s sent received all next) (h : length s ≤ next) where
  all_done : es ≡ inv.done
  all_done =
      let here : next ≡ length s = omega (arith, inv.inside) in
      inv.events
      ∙ ap (λ (k : ℕ). inv.done ++ (events_from s k).found) here
      ∙ ap (λ (r : Events). inv.done ++ r.found) (events_end s)
      ∙ append-nil inv.done

  same_counts : (j : ℕ) → j < n → count_in es j ≡ count_in inv.done j
  same_counts j m = ap (λ (l : List Event). count_in l j) all_done

  pub sent_filled : sent ≡ sent_table (book_built n es)
  sent_filled =
      standing_all (standing_as inv.sent_rows (count_in es) same_counts) accepted.in_all
      ∙ sym (sent_rows_shown (view_built n es) accepted.few (sent_elsewhere accepted))

  pub received_filled : received ≡ received_table (book_built n es)
  received_filled =
      standing_all (standing_as inv.received_rows (count_in es) same_counts) accepted.in_all
      ∙ sym (received_rows_shown (view_built n es) accepted.few (received_elsewhere accepted))
