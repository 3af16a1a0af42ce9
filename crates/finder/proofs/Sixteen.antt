-- Sixteen checkpoint numbers as a function of the process.
use mathlib.Core.Path.{◌≡◌, sym, ap, fun_ext, ◌∙◌}
use mathlib.Core.List.{List}
use Prim.Native.Nat.{ℕ, ◌≤◌, ◌<◌}
use native.Mathlib.Decide.{dec_lt}
use native.Mathlib.Omega.{arith}
use lib.ListN.{length, get_or-eq_default}
use Rattle.book.specs.declared.Checkpoint.{Checkpoint}
use Rattle.lists.specs.Over.{tab}
use Rattle.lists.proofs.Over.{length_tab, get_d_tab, tab_is, replicate_at}
use Rattle.book.proofs.Values.{checkpoint, checkpoint_of}
use Rattle.consistency.specs.Set.{chosen}
use Rattle.finder.specs.Line.{checkpoints, no_line}

-- a set that has these numbers is made of them
pub checkpoints_are : (set : List Checkpoint) (c : ℕ → ℕ) → length set ≡ 16 → ((j : ℕ) → j < 16 → chosen set j ≡ c j) → set ≡ checkpoints c
unfolding checkpoints
checkpoints_are set c long same =
    tab_is (checkpoint 0) 16 (λ j. checkpoint (c j)) set long (λ j small. checkpoint_of (same j small))

-- and back
pub chosen_there : (c : ℕ → ℕ) (j : ℕ) → j < 16 → chosen (checkpoints c) j ≡ c j
unfolding checkpoints
chosen_there c j small =
    let f : ℕ → Checkpoint = λ i. record { 0 = c i } in
    ap (λ (r : Checkpoint). r.0) (get_d_tab 16 f j (record { 0 = 0 }) small)

-- no checkpoints
pub chosen_none : (j : ℕ) → chosen no_line j ≡ 0
chosen_none j = ap (λ (r : Checkpoint). r.0) (replicate_at 16 (checkpoint 0) j)

-- as functions, where the numbers are zero from the sixteenth on
pub chosen_of : (c : ℕ → ℕ) → ((j : ℕ) → 16 ≤ j → c j ≡ 0) → chosen (checkpoints c) ≡ c
unfolding checkpoints
chosen_of c absent = fun_ext (λ j. at j)
  where
    f : ℕ → Checkpoint
    f j = record { 0 = c j }

    at : (j : ℕ) → chosen (tab 16 f) j ≡ c j
    at j =
        elim (dec_lt j 16) [
          | yes k ↦ chosen_there c j k
          | no k ↦
              ap (λ (r : Checkpoint). r.0) (get_or-eq_default (tab 16 f) (record { 0 = 0 }) {n = j} (omega (arith, length_tab 16 f)))
              ∙ sym (absent j (omega arith))
        ]

pub checkpoints_long : (c : ℕ → ℕ) → length (checkpoints c) ≡ 16
unfolding checkpoints
checkpoints_long c = let f : ℕ → Checkpoint = λ i. record { 0 = c i } in length_tab 16 f

pub checkpoints_same : (c d : ℕ → ℕ) → ((j : ℕ) → j < 16 → c j ≡ d j) → checkpoints c ≡ checkpoints d
checkpoints_same c d same =
    checkpoints_are (checkpoints c) d (checkpoints_long c) (λ j small. chosen_there c j small ∙ same j small)
