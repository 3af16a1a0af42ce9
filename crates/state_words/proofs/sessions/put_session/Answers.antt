-- `put_session` meets its contract.
use mathlib.Core.Path.{◌≡◌, refl}
use mathlib.Core.List.{List, [], ◌∷◌, ◌++◌}
use Prim.Native.Nat.{ℕ}
use native.Mathlib.Omega.{arith}
use lib.ListN.{length, length-set, length-append}
use Rattle.book.specs.Bounds.{most_processes}
use Rattle.lists.proofs.Over.{length_tab}
use Rattle.words.specs.Session.{machine_start, place_start, lengths_start, delivered_at, session_length, place_words, session_words}
use Rattle.words.specs.Plain.{number_words}
use Rattle.words.specs.Initiator.{initiator_words}
use Rattle.words.proofs.Storing.{sets_then, sets_all}
use Rattle.state_words.proofs.Lengths.{length_initiator, length_places}
use Rattle.state_words.proofs.sessions.put_session.Goals as goal
use Rattle.state_words.proofs.sessions.put_session.Goals.{After-put_initiator}

pub put_initiator-requires : goal.put_initiator-requires
put_initiator-requires c = simp length-set (omega arith)

-- the slice keeps its length
long : (c : After-put_initiator) → length c.put_initiator.new.words ≡ session_length
long c = omega (arith, simp length-set at c.put_initiator.auto.words)

pub put_places-requires : goal.put_places-requires
put_places-requires c = long (goal.at.put_places-requires c).After-put_initiator

pub put_numbers-requires : goal.put_numbers-requires
put_numbers-requires c = omega (arith, long (goal.at.put_numbers-requires c).After-put_initiator)

pub bounds-words-1161 : goal.bounds-words-1161
bounds-words-1161 c = omega (arith, long (goal.at.bounds-words-1161 c).After-put_initiator)

pub shape_of-words : goal.shape_of-words
shape_of-words c = simp length-set (omega (arith, long (goal.at.shape_of-words c).After-put_initiator))

pub returns : goal.returns
unfolding session_words
returns c = let a = c.args in
    let session = a.session in
    let first : List ℕ = session.n ∷ (session.initiator.0 ∷ (session.purpose ∷ [])) in
    let second = initiator_words session.machine in
    let third = place_words session.participants most_processes in
    let fourth = number_words session.lengths in
    let fifth : List ℕ = session.delivered ∷ [] in
    sets_all (first ++ (second ++ (third ++ (fourth ++ fifth)))) a.words.now
    (simp (length-append, length_initiator, length_places, length_tab) (omega (arith, c.requires)))
    (sets_then first (second ++ (third ++ (fourth ++ fifth))) a.words.now 0 refl refl
    (sets_then second (third ++ (fourth ++ fifth)) _ machine_start c.put_initiator.ensures (simp length_initiator)
    (sets_then third (fourth ++ fifth) c.put_initiator.new.words (place_start 0) c.put_places.ensures (simp length_places)
    (sets_then fourth fifth c.put_places.new.words lengths_start {next = delivered_at} c.put_numbers.ensures (simp length_tab) refl))))
