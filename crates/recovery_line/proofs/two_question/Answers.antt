-- `two_question` meets its contract.
use borrow.Author.Tests.{eq-eqb, ne_eqb}
use Rattle.recovery_line.proofs.two_question.Goals as goal

pub returns-then-shape-ne-SHAPE_WORDS : goal.returns-then-shape-ne-SHAPE_WORDS
returns-then-shape-ne-SHAPE_WORDS c = rw (ne_eqb _ _ c.if-shape-ne-SHAPE_WORDS.true)

pub returns-then-other-its : goal.returns-then-other-its
returns-then-other-its c = rw (eq-eqb _ _ c.if-shape-ne-SHAPE_WORDS.false, ne_eqb _ _ c.if-other-its.true)

pub returns : goal.returns
returns c = rw (eq-eqb _ _ c.if-shape-ne-SHAPE_WORDS.false, eq-eqb _ _ c.if-other-its.false)
