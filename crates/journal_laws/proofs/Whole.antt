-- An accepted journal is the bytes of its leading n and its events.
use mathlib.Core.Path.{◌≡◌, refl, sym, ap, ◌∙◌}
use mathlib.Core.Bool.{Bool, true, true≢false}
use mathlib.Core.List.{List, [], ◌∷◌, ◌++◌, append-nil}
use Prim.Native.Nat.{ℕ, zero, suc}
use native.Mathlib.Omega.{arith}
use lib.ListN.{length, drop, get_or}
use lib.Seq.{drop-length}
use borrow.Author.Tests.{eqb-true}
use Rattle.varint.specs.Sequence.{encode_all}
use Rattle.varint.proofs.Sequence.{encode_all_scan}
use Rattle.book.specs.Questions.{size_question, nothing_follows}
use Rattle.book.proofs.Questions.{then_none}
use Rattle.journal.specs.Bounds.{journal_groups, journal_largest}
use Rattle.journal.specs.Events.{event_numbers, Front, Begins, NoEvent, first_event, Events, events_up_to, events_in}
use Rattle.journal.specs.Questions.{events_question, journal_numbers_question}
use Rattle.journal.specs.Calls.{numbers_logged, numbers_end}
use Rattle.journal.proofs.Accepted.{journal_passed}
use Rattle.journal.proofs.Numbers.{HasNumbers, first_numbers}
use Rattle.journal.proofs.Passed.{whole_passed}
use Rattle.journal_laws.specs.Written.{numbers_of_events, journal_numbers}
use Rattle.journal_laws.specs.Statements.{AcceptedIsWritten}

-- where a journal is whole, its numbers end where the bytes end, and are those of its events
abbrev AreThose : Bool → List ℕ → Events → Type 0
AreThose ended vs r = r.whole ≡ true → (ended ≡ true) × (vs ≡ numbers_of_events r.found)

none_left : (ended : Bool) (vs : List ℕ) → AreThose ended vs (record { found = []; whole = nothing_follows ended vs })
unfolding numbers_of_events
none_left ended [] h = (h, refl)
none_left ended (v ∷ vs) h = absurd (true≢false (sym h))

up_to_whole : (fuel : ℕ) (ended : Bool) (vs : List ℕ) → AreThose ended vs (events_up_to fuel ended vs)
unfolding events_up_to numbers_of_events
up_to_whole zero ended vs = none_left ended vs
up_to_whole (suc fuel) ended vs = go (first_event vs) (first_numbers vs) (λ rest. up_to_whole fuel ended rest)
  where
    go : (f : Front) → HasNumbers vs f → ((rest : List ℕ) → AreThose ended rest (events_up_to fuel ended rest))
        → AreThose ended vs
        (elim f as (λ _. Events) [
          | Begins event rest ↦
              record { found = event ∷ (events_up_to fuel ended rest).found; whole = (events_up_to fuel ended rest).whole }
          | NoEvent ↦ record { found = []; whole = nothing_follows ended vs }
        ])
    go (Begins event rest) is ih h =
        let those = ih rest h in (those.0, is ∙ ap (λ (l : List ℕ). event_numbers event ++ l) those.1)
    go NoEvent is ih h = none_left ended vs h

-- ---- the journal

numbers_whole : (ended : Bool) (vs : List ℕ) → journal_numbers_question ended vs ≡ 0
    → (ended ≡ true) × (vs ≡ journal_numbers (get_or vs 0 0) (events_in ended (drop 1 vs)).found)
unfolding journal_numbers_question events_in
numbers_whole ended [] h = absurd (omega (arith, h))
numbers_whole ended (n ∷ vs) h =
    let events : Events = events_in ended vs in
    let asked = (then_none (size_question n) (λ _. events_question n [] events.found events.whole) h).1 in
    let those = up_to_whole (length vs) ended vs (whole_passed n [] events.found events.whole asked) in
    (those.0, ap (λ (l : List ℕ). n ∷ l) those.1)

pub accepted_is_written : AcceptedIsWritten
accepted_is_written bytes sent received are h =
    let found : List ℕ = (numbers_logged bytes 0).found in
    let whole = numbers_whole (numbers_end bytes 0) found (journal_passed bytes sent received h).numbers in
    let stop : (numbers_logged bytes 0).stop ≡ length bytes = eqb-true (numbers_logged bytes 0).stop (length bytes) whole.0 in
    let all : bytes ≡ encode_all found ++ [] = rw (stop, drop-length bytes) at (encode_all_scan journal_groups journal_largest bytes 0 are) in
    all ∙ append-nil (encode_all found) ∙ ap encode_all whole.1
