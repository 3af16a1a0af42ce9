use mathlib.Core.Path.{◌≡◌, refl, ◌∙◌}
use borrow.Author.Rules.{rules}
use Prim.Native.Nat.{◌-◌}
use native.Mathlib.Omega.{arith}
use lib.ListN.{length}
use Rattle.lists.proofs.Filling.{filled_none, filled_more, filled_all}
use Rattle.book.proofs.Values.{checkpoint_of}
use Rattle.finder.specs.Line.{checkpoints}
use Rattle.searches.proofs.Sets.{stands_own, stands_other}
use Rattle.searches.proofs.finish.stands.Goals as goal
use Rattle.searches.proofs.finish.stands.Goals.{then-j-own, else-j-own}

pub overflow_sub-own : goal.overflow_sub-own
overflow_sub-own c = c.requires

pub loop-j-init : goal.loop-j-init
loop-j-init c = filled_none (omega arith)

pub loop-j-preserved : goal.loop-j-preserved
loop-j-preserved c = let s = c.args.session in
    let at-loop = c.loop-j in
    filled_more at-loop.invariant c.loop-j-test.true
    (elim c.if-j-own.branch [
      | then-j-own w ↦ w.set-is ∙ checkpoint_of (stands_own s.participants s.machine (s.initiator.0 - 1) at-loop.j w.if-j-own.true)
      | else-j-own w ↦
          let long : length s.participants ≡ 16 = search rules in
          w.set-is ∙ checkpoint_of (stands_other s.participants s.machine (s.initiator.0 - 1) at-loop.j w.if-j-own.false (omega (arith, long)))
    ])

pub returns : goal.returns
unfolding checkpoints
returns c = filled_all c.loop-j.invariant refl c.loop-j-test.false
