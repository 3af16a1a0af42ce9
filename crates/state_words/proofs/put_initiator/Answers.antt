-- `put_initiator` meets its contract.
use mathlib.Core.Path.{◌≡◌, refl}
use mathlib.Core.List.{◌++◌}
use Prim.Native.Nat.{◌+◌}
use native.Mathlib.Omega.{arith}
use lib.Seq.{sets}
use Rattle.lists.proofs.Over.{length_tab}
use Rattle.words.specs.Initiator.{awaited_at, matrix_at, flag_words, initiator_head, initiator_words}
use Rattle.words.specs.Words.{matrix_length, count_words}
use Rattle.words.proofs.Storing.{sets_then}
use Rattle.state_words.proofs.Flags.{flag_byte}
use Rattle.state_words.proofs.put_initiator.Goals as goal

pub returns : goal.returns
unfolding initiator_words
returns c = let a = c.args in
    let first : c.put_head.new.words ≡ sets a.words.now a.at (initiator_head a.state)
    = rw (flag_byte a.state.ended) at c.put_head.ensures in
    let second = flag_words a.state.awaited in
    let third = count_words matrix_length a.state.matrix in
    let fourth = count_words matrix_length a.state.copy in
    sets_then (initiator_head a.state) (second ++ (third ++ fourth)) a.words.now a.at first refl
    (sets_then second (third ++ fourth) c.put_head.new.words (a.at + awaited_at) c.put_flags.ensures (simp length_tab (omega arith))
    (sets_then third fourth c.put_flags.new.words (a.at + matrix_at) c.put_counts.ensures (simp length_tab (omega arith)) c.put_counts-2.ensures))
