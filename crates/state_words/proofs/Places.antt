-- The participants of a session, put one after another to their places.
use mathlib.Core.Path.{◌≡◌, refl, ap, ◌∙◌}
use mathlib.Core.List.{List}
use Prim.Native.Nat.{ℕ, ◌+◌, ◌≤◌, ◌<◌}
use native.Mathlib.Numerals.{add-one}
use native.Mathlib.Omega.{arith}
use lib.ListN.{length, get_or}
use lib.Seq.{sets, length-sets}
use Rattle.book.specs.Bounds.{most_processes}
use Rattle.participant.specs.declared.Participant.{Participant}
use Rattle.participant.specs.Calls.{no_participant}
use Rattle.lists.proofs.Over.{at_place}
use Rattle.words.specs.Participant.{participant_words}
use Rattle.words.specs.Session.{place_start, place_words}
use Rattle.words.proofs.Storing.{sets_then}
use Rattle.state_words.proofs.Lengths.{length_places}

-- the first k stand at their places
pub record Placed (participants : List Participant) (l₀ l : List ℕ) (k : ℕ) : Type 0 where
  pub within : k ≤ most_processes
  pub same : length l ≡ length l₀
  pub present : l ≡ sets l₀ (place_start 0) (place_words participants k)

module _ {participants : List Participant} {l₀ : List ℕ} where
  pub placed_none : Placed participants l₀ l₀ 0
  unfolding place_words
  placed_none = record { within = omega arith; same = refl; present = refl }

  module _ {l : List ℕ} {k : ℕ} (placed : Placed participants l₀ l k) where
    -- `d` is what would stand beyond the last place
    pub placed_more : k < most_processes → k < length participants → (d : Participant) {at : ℕ} {l' : List ℕ} → at ≡ place_start k
        → l' ≡ sets l at (participant_words (get_or participants k d)) → Placed participants l₀ l' (k + 1)
    unfolding place_words
    placed_more h there d {at} {l'} place put =
        let state : Participant = get_or participants k no_participant in
        let done : List ℕ = place_words participants k in
        let stored : l' ≡ sets l at (participant_words state)
        = put ∙ ap (λ (p : Participant). sets l at (participant_words p)) (at_place d no_participant participants k there) in
        record {
          within = omega arith;
          same = ap length stored ∙ length-sets l at (participant_words state) ∙ placed.same;
          present = rw (add-one k)
              (sets_then done (participant_words state) l₀ (place_start 0) placed.present (omega (arith, length_places participants k)) stored);
        }

    pub placed_all : most_processes ≤ k → l ≡ sets l₀ (place_start 0) (place_words participants most_processes)
    placed_all h = let all : k ≡ most_processes = omega (arith, placed.within) in rw all at placed.present
