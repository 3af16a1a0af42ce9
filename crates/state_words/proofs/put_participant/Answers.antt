-- `put_participant` meets its contract.
use mathlib.Core.Path.{◌≡◌, refl}
use mathlib.Core.List.{◌++◌}
use Prim.Native.Nat.{◌+◌}
use native.Mathlib.Omega.{arith}
use lib.Seq.{sets}
use Rattle.book.specs.Bounds.{most_processes}
use Rattle.lists.proofs.Over.{length_tab}
use Rattle.words.specs.Participant.{row_at, participant_head, participant_words}
use Rattle.words.specs.Words.{count_words}
use Rattle.words.proofs.Storing.{sets_then}
use Rattle.state_words.proofs.put_participant.Goals as goal

pub returns : goal.returns
unfolding participant_words
returns c = let a = c.args in
    let first : c.put_head.new.words ≡ sets a.words.now a.at (participant_head a.state)
    = rw c.stage_word.ensures at c.put_head.ensures in
    let second = count_words most_processes a.state.row in
    let third = count_words most_processes a.state.column in
    sets_then (participant_head a.state) (second ++ third) a.words.now a.at first refl
    (sets_then second third c.put_head.new.words (a.at + row_at) c.put_counts.ensures (simp length_tab (omega arith)) c.put_counts-2.ensures)
