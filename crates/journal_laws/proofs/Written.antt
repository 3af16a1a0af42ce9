-- A journal written and read again.
use mathlib.Core.Path.{◌≡◌, refl, ap, ◌∙◌}
use mathlib.Core.Bool.{Bool, true}
use mathlib.Core.List.{List, [], ◌∷◌, ◌++◌}
use Prim.Native.Nat.{ℕ, zero, suc, ◌+◌, ◌-◌, ◌^◌, ◌≤◌, ◌<◌}
use native.Mathlib.Omega.{arith}
use native.Mathlib.Decide.{dec_lt}
use lib.ListN.{length, drop, get_or, length-append, get_or-append}
use lib.Seq.{get_or-append-add}
use lib.Dec.{eqb}
use borrow.Author.Tests.{eq-eqb, ne_eqb}
use Rattle.varint.specs.Sequence.{Numbers}
use Rattle.varint.proofs.Sequence.{scan_encode_all}
use Rattle.book.specs.InTurn.{◌then◌}
use Rattle.book.specs.Questions.{bytes_question, length_question}
use Rattle.journal.specs.declared.Event.{Event}
use Rattle.journal.specs.declared.Event.TheVariants.{Sent, Received, Checkpointed}
use Rattle.journal.specs.Bounds.{journal_groups, journal_largest}
use Rattle.journal.specs.Events.{Begins, event_numbers, first_event, Events, events_up_to, events_in}
use Rattle.journal.specs.Questions.{journal_numbers_question}
use Rattle.journal.specs.Calls.{numbers_logged, numbers_end, journal_question}
use Rattle.journal_laws.specs.Written.{numbers_of_events, journal_numbers, journal_bytes, Writable, AllWritable}
use Rattle.journal_laws.specs.Statements.{EventsReadBack, QuestionOfWritten}

-- ---- the numbers

-- all numbers of a list can be written
abbrev Small : List ℕ → Type 0
Small vs = (i : ℕ) → i < length vs → get_or vs i 0 ≤ journal_largest

small_append : (a b : List ℕ) → Small a → Small b → Small (a ++ b)
small_append a b h k i m = elim (dec_lt i (length a)) [
  | yes l ↦ rw (get_or-append a b 0 i l) (h i l)
  | no l ↦
      let e : i ≡ length a + (i - length a) = omega arith in
      rw e (rw (get_or-append-add a b (i - length a) 0) (k (i - length a) (omega (arith, length-append a b))))
]

small_more : (v : ℕ) (vs : List ℕ) → v ≤ journal_largest → Small vs → Small (v ∷ vs)
small_more v vs h k zero m = h
small_more v vs h k (suc i) m = k i (omega arith)

small_none : Small []
small_none i m = absurd (omega arith)

small_event : (e : Event) → Writable e → Small (event_numbers e)
small_event (Sent process partner) w =
    small_more 1 (process.0 ∷ partner.0 ∷ []) (omega arith)
    (small_more process.0 (partner.0 ∷ []) w.0 (small_more partner.0 [] w.1 small_none))
small_event (Received process partner) w =
    small_more 2 (process.0 ∷ partner.0 ∷ []) (omega arith)
    (small_more process.0 (partner.0 ∷ []) w.0 (small_more partner.0 [] w.1 small_none))
small_event (Checkpointed process) w = small_more 3 (process.0 ∷ []) (omega arith) (small_more process.0 [] w small_none)

small_events : (es : List Event) → AllWritable es → Small (numbers_of_events es)
unfolding numbers_of_events AllWritable
small_events [] w = small_none
small_events (e ∷ es) w = small_append (event_numbers e) (numbers_of_events es) (small_event e w.0) (small_events es w.1)

groups_some : 1 ≤ journal_groups
groups_some = omega arith

largest_fits : journal_largest < 128 ^ journal_groups
largest_fits = omega arith

pub numbers_written : (n : ℕ) (es : List Event) → n ≤ journal_largest → AllWritable es
    → numbers_logged (journal_bytes n es) 0 ≡ record { found = journal_numbers n es; stop = length (journal_bytes n es) }
numbers_written n es h w =
    scan_encode_all journal_groups journal_largest (journal_numbers n es) groups_some largest_fits
    (small_more n (numbers_of_events es) h (small_events es w))

-- ---- the events

first_written : (e : Event) (rest : List ℕ) → Writable e → first_event (event_numbers e ++ rest) ≡ Begins e rest
first_written (Sent process partner) rest w = rw (ne_eqb process.0 partner.0 w.2)
first_written (Received process partner) rest w = rw (ne_eqb process.0 partner.0 w.2)
first_written (Checkpointed process) rest w = refl

up_to_written : (fuel : ℕ) (ended : Bool) (es : List Event) → AllWritable es → length es ≤ fuel
    → events_up_to fuel ended (numbers_of_events es) ≡ record { found = es; whole = ended }
unfolding events_up_to numbers_of_events AllWritable
up_to_written zero ended [] w h = refl
up_to_written zero ended (e ∷ es) w h = absurd (omega arith)
up_to_written (suc fuel) ended [] w h = refl
up_to_written (suc fuel) ended (e ∷ es) w h =
    rw (first_written e (numbers_of_events es) w.0, events_up_to)
    (ap (λ (r : Events). record { found = e ∷ r.found; whole = r.whole }) (up_to_written fuel ended es w.1 (omega arith)))

event_takes : (e : Event) → 1 ≤ length (event_numbers e)
event_takes (Sent process partner) = omega arith
event_takes (Received process partner) = omega arith
event_takes (Checkpointed process) = omega arith

events_take : (es : List Event) → length es ≤ length (numbers_of_events es)
unfolding numbers_of_events
events_take [] = omega arith
events_take (e ∷ es) = omega (arith, length-append (event_numbers e) (numbers_of_events es), event_takes e, events_take es)

pub events_written : (ended : Bool) (es : List Event) → AllWritable es → events_in ended (numbers_of_events es) ≡ record { found = es; whole = ended }
unfolding events_in
events_written ended es w = up_to_written (length (numbers_of_events es)) ended es w (events_take es)

module _ (n : ℕ) (es : List Event) (h : n ≤ journal_largest) (w : AllWritable es) where
  abbrev bytes : List ℕ
  bytes = journal_bytes n es

  written_ends : eqb (length bytes) (length bytes) ≡ true
  written_ends = eq-eqb (length bytes) (length bytes) refl

  events_read : events_in (numbers_end bytes 0) (drop 1 (numbers_logged bytes 0).found) ≡ record { found = es; whole = true }
  events_read =
      ap (λ (ns : Numbers). events_in (eqb ns.stop (length bytes)) (drop 1 ns.found)) (numbers_written n es h w)
      ∙ ap (λ (ended : Bool). events_in ended (numbers_of_events es)) written_ends
      ∙ events_written true es w

pub events_read_back : EventsReadBack
events_read_back n es h w =
    let events = events_read n es h w in (
      ap (λ (ns : Numbers). get_or ns.found 0 0) (numbers_written n es h w),
      ap (λ (r : Events). r.found) events,
      ap (λ (r : Events). r.whole) events,
    )

pub question_of_written : QuestionOfWritten
unfolding journal_question journal_numbers_question
question_of_written n es sent received h w =
    let bytes : List ℕ = journal_bytes n es in
    ap
    (λ (ns : Numbers).
    bytes_question bytes
    then λ _. length_question sent received
    then λ _. journal_numbers_question (eqb ns.stop (length bytes)) ns.found)
    (numbers_written n es h w)
    ∙ rw (written_ends n es h w, events_written true es w)
