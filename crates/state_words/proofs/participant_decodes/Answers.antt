-- `participant_decodes` meets its contract.
use mathlib.Core.List.{List}
use Prim.Native.Nat.{ℕ, ◌+◌}
use native.Mathlib.Omega.{arith}
use borrow.Author.Tests.{lt-ltb, le-ltb}
use Rattle.words.specs.Words.{word}
use Rattle.words.specs.Participant.{stage_at, participant_decodes}
use Rattle.state_words.proofs.participant_decodes.Goals as goal

abbrev stage : List ℕ → ℕ → ℕ
stage words at = word words (at + stage_at)

pub returns-then-words-at-ge3 : goal.returns-then-words-at-ge3
unfolding participant_decodes
returns-then-words-at-ge3 c = let a = c.args in
    rw (le-ltb (stage a.words.now a.at) 3 (omega arith))

pub returns : goal.returns
unfolding participant_decodes
returns c = let a = c.args in
    rw (lt-ltb (stage a.words.now a.at) 3 (omega arith)) c.all_below.ensures
