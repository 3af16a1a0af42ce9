-- A table of n values filled up with zeros, as a shape has it for absent processes.
use mathlib.Core.Path.{◌≡◌, sym, ap, ap₂, ◌∙◌}
use mathlib.Core.List.{List, ◌++◌}
use Prim.Native.Nat.{ℕ, ◌+◌, ◌-◌, ◌≤◌, ◌<◌}
use native.Mathlib.Decide.{dec_lt, ℕ_discrete}
use native.Mathlib.Omega.{arith}
use lib.ListN.{length, take, drop, get_or, set, replicate, length-append, length-set, length-replicate, replicate-append-replicate, get_or-append, get_or-replicate}
use lib.Seq.{drop_at, length-take-le, get_or-append-add, get_or-set_same, get_or-set_other, ext_get_or}
use Rattle.lists.specs.Over.{tab}
use Rattle.lists.proofs.Over.{tab_is, length_tab, get_d_tab, replicate_at}
use Rattle.book.specs.Tables.{padded}
use Rattle.journal_reader.specs.Asking.{raised}

module _ (k n : ℕ) (f : ℕ → ℕ) where
  pub padded_long : n ≤ k → length (padded k (tab n f)) ≡ k
  padded_long h = simp (length-append, length-replicate, length_tab) (omega arith)

  pub padded_at : (i : ℕ) → i < n → get_or (padded k (tab n f)) i 0 ≡ f i
  padded_at i h =
      get_or-append (tab n f) (replicate (k - length (tab n f)) 0) 0 i (omega (arith, length_tab n f)) ∙ get_d_tab n f i 0 h

  pub padded_past : (i : ℕ) → n ≤ i → get_or (padded k (tab n f)) i 0 ≡ 0
  padded_past i h =
      let zeros : List ℕ = replicate (k - length (tab n f)) 0 in
      let e : i ≡ length (tab n f) + (i - n) = omega (arith, length_tab n f) in
      ap (λ (m : ℕ). get_or (tab n f ++ zeros) m 0) e
      ∙ get_or-append-add (tab n f) zeros (i - n) 0
      ∙ replicate_at (k - length (tab n f)) 0 (i - n)

  -- a list as long, with these values and zeros after them
  pub padded_is : (l : List ℕ) → n ≤ k → length l ≡ k → ((i : ℕ) → i < n → get_or l i 0 ≡ f i) → ((i : ℕ) → n ≤ i → get_or l i 0 ≡ 0)
      → l ≡ padded k (tab n f)
  padded_is l h long same zeros =
      ext_get_or 0 l (padded k (tab n f)) (long ∙ sym (padded_long h))
      (λ i m. elim (dec_lt i n) [
        | yes o ↦ same i o ∙ sym (padded_at i o)
        | no o ↦ zeros i (omega arith) ∙ sym (padded_past i (omega arith))
      ])

-- one value stored in the first n places of zeros
pub padded_filled : (k n v : ℕ) (front : List ℕ) → n ≤ k → front ≡ replicate (length (take n (replicate {A = ℕ} k 0))) v
    → front ++ drop n (replicate k 0) ≡ padded k (tab n (λ i. v))
padded_filled k n v front h e =
    let values : List ℕ = replicate n v in
    let all : n + (k - n) ≡ k = omega arith in
    let many : length (take n (replicate {A = ℕ} k 0)) ≡ n = length-take-le n (replicate k 0) (omega (arith, length-replicate {A = ℕ} k 0)) in
    let table : values ≡ tab n (λ i. v) = tab_is 0 n (λ i. v) values (length-replicate n v) (λ i m. get_or-replicate n i v 0 m) in
    let zeros : drop n (replicate {A = ℕ} k 0) ≡ replicate (k - n) 0
    = ap (λ (m : ℕ). drop n (replicate {A = ℕ} m 0)) (sym all)
    ∙ ap (drop n) (sym (replicate-append-replicate {A = ℕ} n (k - n) 0))
    ∙ drop_at (replicate n 0) (replicate (k - n) 0) n (length-replicate {A = ℕ} n 0) in
    let left : k - n ≡ k - length (tab n (λ i. v)) = omega (arith, length_tab n (λ i. v)) in
    ap₂ (λ (a b : List ℕ). a ++ b) (e ∙ ap (λ (m : ℕ). replicate m v) many ∙ table) (zeros ∙ ap (λ (m : ℕ). replicate {A = ℕ} m 0) left)

-- one more at one place
pub padded_raised : (k n : ℕ) (f g : ℕ → ℕ) (j : ℕ) → n ≤ k → j < n → f j + 1 ≡ g j → ((i : ℕ) → i < n → (i ≡ j → ⊥) → f i ≡ g i)
    → raised j (padded k (tab n f)) ≡ padded k (tab n g)
padded_raised k n f g j h m one others =
    let l : List ℕ = padded k (tab n f) in
    let v : ℕ = get_or l j 0 + 1 in
    let long : length l ≡ k = padded_long k n f h in
    padded_is k n g (set l j v) h (simp length-set long)
    (λ i o. elim (ℕ_discrete i j) [
      | yes e ↦
          rw e
          (get_or-set_same l j v 0 (omega arith) ∙ ap (λ (x : ℕ). x + 1) (padded_at k n f j m) ∙ one)
      | no ne ↦ get_or-set_other l j i v 0 ne ∙ padded_at k n f i o ∙ others i o ne
    ])
    (λ i o. get_or-set_other l j i v 0 (λ e. absurd (omega (arith, e))) ∙ padded_past k n f i o)
