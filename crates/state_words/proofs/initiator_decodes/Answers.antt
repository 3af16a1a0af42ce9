-- `initiator_decodes` meets its contract.
use mathlib.Core.Path.{sym, ◌∙◌}
use borrow.Author.Tests.{lt-ltb, le-ltb}
use Rattle.words.specs.Initiator.{initiator_decodes}
use Rattle.state_words.proofs.initiator_decodes.Goals as goal

pub returns-then-words-at-ge2 : goal.returns-then-words-at-ge2
unfolding initiator_decodes
returns-then-words-at-ge2 c = rw (le-ltb _ _ c.if-words-at-ge2.true)

pub returns-then-words-at-ge-TALLY_BOUND : goal.returns-then-words-at-ge-TALLY_BOUND
unfolding initiator_decodes
returns-then-words-at-ge-TALLY_BOUND c = rw (lt-ltb _ _ c.if-words-at-ge2.false, le-ltb _ _ c.if-words-at-ge-TALLY_BOUND.true)

pub returns-then-not-all_below : goal.returns-then-not-all_below
unfolding initiator_decodes
returns-then-not-all_below c = let below = c.all_below in
    rw (lt-ltb _ _ c.if-words-at-ge2.false, lt-ltb _ _ c.if-words-at-ge-TALLY_BOUND.false, sym below.ensures ∙ c.if-not-all_below.true)

pub returns : goal.returns
unfolding initiator_decodes
returns c = let below = c.all_below in
    rw (lt-ltb _ _ c.if-words-at-ge2.false, lt-ltb _ _ c.if-words-at-ge-TALLY_BOUND.false, sym below.ensures ∙ c.if-not-all_below.false)
    c.all_below-2.ensures
