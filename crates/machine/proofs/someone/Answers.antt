-- `someone` meets its contract.
use mathlib.Core.Path.{◌≡◌, refl, sym, ap, ◌∙◌}
use mathlib.Core.Bool.{Bool, true, false, not, ◌&&◌, ◌||◌, beq}
use mathlib.Core.List.{List}
use Prim.Native.Nat.{ℕ, zero, suc, ◌+◌, ◌≤◌}
use native.Mathlib.Omega.{arith}
use borrow.Author.Rules.{rules}
use lib.ListN.{length, take}
use lib.Seq.{take_all}
use Rattle.std.specs.List.{list_any}
use Rattle.std.proofs.lemmas.List.Folds.{list_any_more}
use Rattle.lists.specs.Over.{all_to}
use Rattle.machine.specs.Flags.{flag, someone}
use Rattle.machine.proofs.someone.Goals as goal

one_more : (a b : Bool) → (not a || beq b true) ≡ not (a && not b)
one_more true true = refl
one_more true false = refl
one_more false b = refl

any_flag : (l : List Bool) (k : ℕ) → k ≤ length l → list_any (λ y. beq y true) (take k l) ≡ not (all_to k (λ p. not (flag l p)))
unfolding all_to
any_flag l zero h = refl
any_flag l (suc k) h =
    let e : suc k ≡ k + 1 = omega arith in
    ap (λ (n : ℕ). list_any (λ y. beq y true) (take n l)) e ∙ list_any_more (λ y. beq y true) l k false (omega arith)
    ∙ ap (λ (b : Bool). b || beq (flag l k) true) (any_flag l k (omega arith))
    ∙ one_more (all_to k (λ p. not (flag l p))) (flag l k)

pub returns : goal.returns
unfolding someone
returns c =
    let long : length c.args.flags ≡ 16 = search rules in
    let whole : take 16 c.args.flags ≡ c.args.flags = take_all 16 c.args.flags (omega (arith, long)) in
    c.contains.ensures.value ∙ sym (ap (λ (l : List Bool). list_any (λ y. beq y true) l) whole) ∙ any_flag c.args.flags 16 (omega (arith, long))
