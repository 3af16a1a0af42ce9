use mathlib.Core.Path.{◌≡◌, refl, sym}
use native.Mathlib.Omega.{arith}
use borrow.Author.Rules.{rules}
use lib.ListN.{length}
use Rattle.book.specs.declared.Question.TheVariants.{Checkpoints}
use Rattle.book.proofs.Refusals.{refuses, accepts}
use Rattle.tables.proofs.CountLoop.{counted_low, counted_high, counted_more, counted_end}
use Rattle.tables.proofs.counts_question.Goals as goal

pub loop-j-init : goal.loop-j-init
loop-j-init c = let long : length c.args.shape.counts ≡ 16 = search rules in
    record { passed = search rules; fits = omega arith; below = search rules; rest = refl }

pub returns-then-count-lt1 : goal.returns-then-count-lt1
returns-then-count-lt1 c = refuses Checkpoints tt (sym (counted_low _ _ _ _ _ c.loop-j.invariant c.loop-j-test.true c.if-count-lt1.true))

pub returns-then-sum-count : goal.returns-then-sum-count
returns-then-sum-count c =
    refuses Checkpoints tt (sym (counted_high _ _ _ _ _ c.loop-j.invariant c.loop-j-test.true c.if-count-lt1.false (omega arith)))

pub loop-j-preserved : goal.loop-j-preserved
loop-j-preserved c = counted_more _ _ _ _ _ c.loop-j.invariant c.loop-j-test.true c.if-count-lt1.false (omega arith)

pub returns : goal.returns
returns c = accepts (sym (counted_end _ _ _ _ _ c.loop-j.invariant c.loop-j-test.false)) refl
