-- A journal has no more events than bytes.
use Rattle.std.specs.Prelude.{Option, Some, None}
use mathlib.Core.Bool.{Bool}
use mathlib.Core.List.{List, [], ◌∷◌}
use Prim.Native.Nat.{ℕ, zero, suc, ◌-◌, ◌≤◌}
use native.Mathlib.Omega.{arith}
use lib.ListN.{length, drop, length-drop}
use Rattle.varint.specs.Number.{read_number}
use Rattle.varint.specs.Sequence.{Numbers, scan, numbers_at}
use Rattle.book.specs.Questions.{nothing_follows}
use Rattle.journal.specs.Events.{Front, Begins, NoEvent, first_event, Events, events_up_to, events_in}
use Rattle.journal.specs.Bounds.{journal_groups, journal_largest}
use Rattle.journal.specs.Calls.{numbers_logged, numbers_end, events_logged}

scan_few : (g l fuel : ℕ) (s : List ℕ) (at : ℕ) → length (scan g l fuel s at).found ≤ fuel
unfolding scan
scan_few g l zero s at = omega arith
scan_few g l (suc fuel) s at = go (read_number g l s at) (λ next. scan_few g l fuel s next)
  where
    go : (r : Option (ℕ × ℕ)) → ((next : ℕ) → length (scan g l fuel s next).found ≤ fuel)
        → length
        (elim r as (λ _. Numbers) [
          | Some (v, next) ↦ record { found = v ∷ (scan g l fuel s next).found; stop = (scan g l fuel s next).stop }
          | None ↦ record { found = []; stop = at }
        ]
        ).found
        ≤ suc fuel
    go (Some (v, next)) ih = omega (arith, ih next)
    go None ih = omega arith

-- a number takes a byte at least
pub numbers_few : (g l : ℕ) (s : List ℕ) (at : ℕ) → length (numbers_at g l s at).found ≤ length s - at
unfolding numbers_at
numbers_few g l s at = scan_few g l (length s - at) s at

up_to_few : (fuel : ℕ) (ended : Bool) (vs : List ℕ) → length (events_up_to fuel ended vs).found ≤ fuel
unfolding events_up_to
up_to_few zero ended vs = omega arith
up_to_few (suc fuel) ended vs = go (first_event vs) (λ rest. up_to_few fuel ended rest)
  where
    go : (f : Front) → ((rest : List ℕ) → length (events_up_to fuel ended rest).found ≤ fuel)
        → length
        (elim f as (λ _. Events) [
          | Begins event rest ↦
              record { found = event ∷ (events_up_to fuel ended rest).found; whole = (events_up_to fuel ended rest).whole }
          | NoEvent ↦ record { found = []; whole = nothing_follows ended vs }
        ]
        ).found
        ≤ suc fuel
    go (Begins event rest) ih = omega (arith, ih rest)
    go NoEvent ih = omega arith

-- an event takes a number at least
pub events_few : (ended : Bool) (vs : List ℕ) → length (events_in ended vs).found ≤ length vs
unfolding events_in
events_few ended vs = up_to_few (length vs) ended vs

pub logged_few : (bytes : List ℕ) → length (events_logged bytes) ≤ length bytes
logged_few bytes =
    let found : List ℕ = (numbers_logged bytes 0).found in
    omega (arith, events_few (numbers_end bytes 0) (drop 1 found), length-drop 1 found, numbers_few journal_groups journal_largest bytes 0)
