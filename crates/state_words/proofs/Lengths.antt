-- How many words a state takes.
use mathlib.Core.Path.{◌≡◌, refl}
use mathlib.Core.List.{List}
use Prim.Native.Nat.{ℕ, zero, suc, ◌*◌}
use native.Mathlib.Omega.{arith}
use lib.ListN.{length, get_or, length-append}
use Rattle.lists.proofs.Over.{length_tab}
use Rattle.participant.specs.declared.Participant.{Participant}
use Rattle.participant.specs.Calls.{no_participant}
use Rattle.initiator.specs.declared.Initiator.{Initiator}
use Rattle.words.specs.Participant.{participant_length, participant_words}
use Rattle.words.specs.Initiator.{initiator_length, initiator_words}
use Rattle.words.specs.Session.{place_words}

pub length_participant : (state : Participant) → length (participant_words state) ≡ participant_length
unfolding participant_words
length_participant state = simp (length-append, length_tab)

pub length_initiator : (state : Initiator) → length (initiator_words state) ≡ initiator_length
unfolding initiator_words
length_initiator state = simp (length-append, length_tab)

pub length_places : (participants : List Participant) (k : ℕ) → length (place_words participants k) ≡ k * participant_length
unfolding place_words
length_places participants zero = refl
length_places participants (suc k) =
    let p : Participant = get_or participants k no_participant in
    simp length-append (omega (arith, length_places participants k, length_participant p))
