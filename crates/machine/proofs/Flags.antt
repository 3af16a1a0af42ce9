-- One of sixteen flags, one for each process, is set.
use mathlib.Core.Path.{◌≡◌, refl, ◌∙◌}
use mathlib.Core.Bool.{true, false}
use Prim.Native.Nat.{ℕ, ◌<◌}
use native.Mathlib.Decide.{ℕ_discrete}
use borrow.Author.Tests.{eq-eqb, ne_eqb}
use lib.ListN.{get_or, set, replicate, length-set}
use lib.Seq.{get_or-set_same, get_or-set_other}
use lib.Dec.{eqb}
use Rattle.lists.specs.Over.{tab}
use Rattle.lists.proofs.Over.{tab_is, replicate_at}

pub one_set : (k : ℕ) → k < 16 → set (replicate 16 false) k true ≡ tab 16 (λ p. eqb p k)
one_set k h = tab_is false 16 (λ p. eqb p k) (set (replicate 16 false) k true) (simp length-set refl) at
  where
    at : (p : ℕ) → p < 16 → get_or (set (replicate 16 false) k true) p false ≡ eqb p k
    at p m =
        elim (ℕ_discrete p k) [
          | yes e ↦ rw (e, eq-eqb k k refl) (get_or-set_same (replicate 16 false) k true false h)
          | no ne ↦ rw (ne_eqb p k ne) (get_or-set_other (replicate 16 false) k p true false ne ∙ replicate_at 16 false p)
        ]
