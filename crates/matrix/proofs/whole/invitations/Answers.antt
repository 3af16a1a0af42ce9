use mathlib.Core.Path.{◌≡◌, refl, sym, subst, ◌∙◌}
use mathlib.Core.List.{List}
use Prim.Native.Nat.{ℕ, ◌+◌, ◌-◌, ◌/◌, ◌%◌}
use native.Mathlib.Omega.{arith}
use borrow.Author.Tests.{eq-eqb, ne_eqb}
use lib.ListN.{replicate, get_or-replicate}
use lib.Dec.{eqb}
use Rattle.book.specs.declared.Count.{Count}
use Rattle.book.specs.Bounds.{mark}
use Rattle.consistency.specs.Known.{counters}
use Rattle.lists.specs.Pick.{pick}
use Rattle.lists.proofs.Filling.{Filled, filled_none, filled_more, filled_kept, filled_all}
use Rattle.book.proofs.Values.{tally, tally_of}
use Rattle.matrix.specs.Matrix.{as_matrix}
use Rattle.matrix.proofs.whole.invitations.Goals as goal
use Rattle.matrix.proofs.whole.invitations.Goals.{then-i-own, else-i-own}

abbrev invitation : ℕ → List Count → ℕ → ℕ → ℕ
invitation me sent p k = pick (eqb k me) (counters sent p) mark

own-there : (me : ℕ) (sent : List Count) (p k : ℕ) → k ≡ me → counters sent p ≡ invitation me sent p k
own-there me sent p k e = rw (eq-eqb k me e)

none_there : (me : ℕ) (sent : List Count) (p k : ℕ) → (k ≡ me → ⊥) → mark ≡ invitation me sent p k
none_there me sent p k ne = rw (ne_eqb k me ne)

pub loop-i-init : goal.loop-i-init
loop-i-init c = filled_none (omega arith)

pub loop-i-preserved : goal.loop-i-preserved
loop-i-preserved c = let a = c.args in
    let at-loop = c.loop-i in
    let i = at-loop.i in
    let own : ℕ = a.me.0 - 1 in
    let unknown : List Count = replicate 256 (tally mark) in
    let P : List Count → Type 0 = λ l. Filled (tally 0) unknown 256 (λ k. tally (invitation own a.sent (k / 16) (k % 16))) l (i + 1) in
    elim c.if-i-own.branch [
      | then-i-own w ↦
          subst P (sym w.news-is)
          (filled_more at-loop.invariant c.loop-i-test.true (tally_of (own-there own a.sent (i / 16) (i % 16) w.if-i-own.true)))
      | else-i-own w ↦
          subst P (sym w.news-is)
          (filled_kept at-loop.invariant c.loop-i-test.true
          (get_or-replicate 256 i (tally mark) (tally 0) c.loop-i-test.true ∙ tally_of (none_there own a.sent (i / 16) (i % 16) w.if-i-own.false)))
    ]

pub returns : goal.returns
unfolding as_matrix
returns c = filled_all c.loop-i.invariant refl c.loop-i-test.false
