use mathlib.Core.Path.{◌≡◌, refl, ap, ◌∙◌}
use mathlib.Core.Bool.{Bool, true, false}
use Prim.Native.Nat.{ℕ, ◌+◌, ◌-◌}
use native.Mathlib.Decide.{ℕ_discrete}
use native.Mathlib.Omega.{arith}
use mir.Val.{bool_byte}
use borrow.Author.Rules.{rules}
use borrow.Author.Tests.{eq-eqb, ne_eqb}
use lib.ListN.{get_or}
use lib.Dec.{eqb}
use Rattle.lists.specs.Pick.{pick}
use Rattle.lists.proofs.Filling.{filled_none, filled_more, filled_all}
use Rattle.journal.proofs.Running.{one_added}
use Rattle.journal.proofs.counts.one_more.Goals as goal

pub loop-q-init : goal.loop-q-init
loop-q-init c = filled_none (search rules)

pub overflow_add-next : goal.overflow_add-next
overflow_add-next c =
    let counts = c.args.counts in
    let q = c.loop-q.q in
    let p = c.args.p in
    let back : p ≡ p + 1 - 1 = omega arith in
    elim (ℕ_discrete q p) [
      | yes e ↦ let at = ap (λ (k : ℕ). get_or counts k 0) (e ∙ back) in rw (eq-eqb q p e) (omega (arith, c.requires.room, at))
      | no ne ↦ rw (ne_eqb q p ne) (omega (arith, c.loop-q-test.element_fits))
    ]

-- what is added is one at the partner's place, and nothing at the others
picked : (t : Bool) → bool_byte t ≡ pick t 1 0
picked true = refl
picked false = refl

pub loop-q-preserved : goal.loop-q-preserved
loop-q-preserved c =
    filled_more c.loop-q.invariant c.loop-q-test.true
    (ap (λ (k : ℕ). get_or c.args.counts c.loop-q.q 0 + k) (picked (eqb c.loop-q.q c.args.p)))

pub returns : goal.returns
returns c = filled_all c.loop-q.invariant (search rules) c.loop-q-test.false
    ∙ one_added c.args.counts c.args.p (search rules) (omega (arith, c.requires.few))
