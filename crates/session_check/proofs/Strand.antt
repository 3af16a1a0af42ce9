-- Question 13 of a strand: whether what waits is within its slot and the buffer, and whether what it holds fits.
use mathlib.Core.Path.{◌≡◌, refl, sym, ◌∙◌}
use mathlib.Core.Bool.{Bool, true, false, not, ◌&&◌}
use Prim.Native.Nat.{ℕ, ◌+◌, ◌≤◌, ◌<◌}
use borrow.Author.Tests.{eq-eqb, ne_eqb, le-leb, lt-leb, leb-true}
use lib.Dec.{leb}
use Rattle.lists.specs.Pick.{pick}
use Rattle.lists.proofs.Tests.{and_both, and_first, and_rest}
use Rattle.participant.specs.declared.Stage.{Stage}
use Rattle.strands.specs.Strands.{slot_size, strand_start}
use Rattle.session.specs.declared.Waiting.{Waiting}
use Rattle.session.specs.declared.Waiting.TheVariants.{Nothing, Asking, Ending, Report, Stray}
use Rattle.session.specs.Held.{is_report, is_stray}
use Rattle.session_check.specs.Parts.{length_fits, held_fits}

-- ---- within

module _ (n initiator k waits room : ℕ) where
  abbrev start : ℕ
  start = strand_start n initiator k

  abbrev is_within : Bool
  is_within = length_fits n initiator k waits room

  pub none_waits : waits ≡ 0 → true ≡ is_within
  none_waits h = rw (eq-eqb waits 0 h)

  module _ (some : waits ≡ 0 → ⊥) where
    asked : (leb waits (slot_size n) && leb (start + waits) room) ≡ is_within
    asked = rw (ne_eqb waits 0 some)

    pub beyond_slot : {size : ℕ} → size ≡ slot_size n → size < waits → false ≡ is_within
    beyond_slot e h =
        let far : slot_size n < waits = rw e at h in
        sym (and_first (leb waits (slot_size n)) (leb (start + waits) room) (lt-leb waits (slot_size n) far)) ∙ asked

    pub within_room : {size at : ℕ} → size ≡ slot_size n → at ≡ start → waits ≤ size → leb (at + waits) room ≡ is_within
    within_room {size} {at} e f h =
        let near : waits ≤ slot_size n = rw e at h in
        rw f (sym (and_rest (leb waits (slot_size n)) (leb (start + waits) room) (le-leb waits (slot_size n) near)) ∙ asked)

    pub within_is : is_within ≡ true → start + waits ≤ room
    within_is h =
        leb-true (start + waits) room (and_both (leb waits (slot_size n)) (leb (start + waits) room) (asked ∙ h)).1

-- ---- what it holds

module _ (awaited ended : Bool) (stage : Stage) (w : Waiting) where
  -- where it is a report, it is one or stray at the initiator
  abbrev above : Bool → Waiting
  above b = pick (is_report w) (pick b Report Stray) w

  pub above_fits : (b : Bool) → held_fits awaited ended stage w ≡ true → not (is_stray (above b)) ≡ held_fits awaited ended stage (above b)
  above_fits b h = go w b h
    where
      go : (w : Waiting) (b : Bool) → held_fits awaited ended stage w ≡ true
          → not (is_stray (pick (is_report w) (pick b Report Stray) w)) ≡ held_fits awaited ended stage (pick (is_report w) (pick b Report Stray) w)
      go Nothing b h = sym h
      go Asking b h = sym h
      go Ending b h = sym h
      go Report true h = sym h
      go Report false h = refl
      go Stray b h = refl

  pub above_not : (b : Bool) → held_fits awaited ended stage w ≡ false → false ≡ held_fits awaited ended stage (above b)
  above_not b h = go w b h
    where
      go : (w : Waiting) (b : Bool) → held_fits awaited ended stage w ≡ false
          → false ≡ held_fits awaited ended stage (pick (is_report w) (pick b Report Stray) w)
      go Nothing b h = sym h
      go Asking b h = sym h
      go Ending b h = sym h
      go Report true h = sym h
      go Report false h = refl
      go Stray b h = refl
